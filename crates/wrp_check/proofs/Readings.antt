-- Steps of a reader, over the input as it is handed out.
use Rattle.std.proofs.Common.{◌≡◌, ◌≢◌, ℕ, ◌+◌, ◌<◌, ◌≤◌, ◌∙◌, ◌==◌, not, true, List, [], ◌∷◌, ◌++◌, length, take, drop, Option, None, Some, IfSome, IsErrOf, Err, Bool, false, IsTrue, refl, ap, arith, inl, inr, append_assoc}
use Rattle.std.specs.Option.{option_map}
use Rattle.std.proofs.lemmas.Bool.{cases_lt}
use Rattle.std.proofs.lemmas.List.{drop_all, length-append, append-nil}
use Rattle.std.proofs.lemmas.List.Folds.{length-prefix_len, list_all-append}
use Rattle.std.proofs.lemmas.List.Sums.{prefix_len-le-length}
use Rattle.wrp_out.specs.Outside.{Input, Took}
use Rattle.wrp_out.proofs.CountFacts.{never_falls_same}
use Rattle.wrp_out.proofs.OutsideFacts.{took_then}
use Rattle.wrp_check.specs.declared.lines.LinesFault.{LinesFault}
use Rattle.wrp_check.specs.Streams.{Buffered, PassesLimit, PieceTooLong, ahead, is_one_line, line_len}
use Rattle.wrp_check.proofs.FirstLines.{prefix_len_behind, prefix_len-le-append, front_passes, first_line_fed, first_line_whole}

-- where bytes are told, these stand before the others
abbrev Stands : Option (List ℕ) → Option (List ℕ) → List ℕ → Type 0
Stands told others bytes = told ≡ option_map (λ left. bytes ++ left) others

-- bytes that left the pending ones were handed out
pub took_pending : (old new : Buffered) (source : Input) (piece : List ℕ) → old.pending ≡ piece ++ new.pending → Took (ahead old source) (ahead new source) piece
took_pending old new source piece same = record { front = by source.left; faults = never_falls_same source.faults }
  where
    by : (told : Option (List ℕ)) → Stands (option_map (λ left. old.pending ++ left) told) (option_map (λ left. new.pending ++ left) told) piece
    by None = refl
    by (Some left) = ap Some (ap (λ bytes. bytes ++ left) same ∙ append_assoc piece new.pending left)

-- where a byte is pending and nothing was handed out, something was left
pub some_left : (old new : Buffered) (before after : Input) (P : List ℕ → Type 0) → Took (ahead old before) (ahead new after) [] → 0 < length new.pending → ((rest : List ℕ) → rest ≢ [] → P rest) → IfSome (ahead old before).left P
some_left old new before after P took pending h = by after.left took.front
  where
    some : (xs ys : List ℕ) → 0 < length xs → xs ++ ys ≢ []
    some [] ys more = absurd (omega arith)
    some (x ∷ xs) ys more = λ none. (cc)

    by : (told : Option (List ℕ)) → Stands (ahead old before).left (option_map (λ left. new.pending ++ left) told) [] → IfSome (ahead old before).left P
    by None front = rw front tt
    by (Some left) front = rw front (h (new.pending ++ left) (some new.pending left pending))

-- a line and a piece of its first line are one line
pub one_line_more : (line bytes : List ℕ) → is_one_line line ≡ true → is_one_line (line ++ take (line_len bytes) bytes) ≡ true
one_line_more line bytes one = rw (list_all-append, one) (front_passes (λ byte. not (byte == 10)) bytes)

-- a piece makes the line longer by its length
pub length_more : (line bytes more : List ℕ) → more ≡ line ++ take (line_len bytes) bytes → length more ≡ length line + line_len bytes
length_more line bytes more is = rw (is, length-append, length-prefix_len) refl

-- where the test for a line feed says that there is none, all bytes stand before it
pub has_no_feed : (has_feed : Bool) (count size : ℕ) → (count < size → IsTrue has_feed) → has_feed ≡ false → size ≤ count
has_no_feed has_feed count size feed none = elim (cases_lt count size) [ inl less ↦ absurd (let yes = feed less in cc) | inr most ↦ most ]

-- what is false is not true
pub not_true : (b : Bool) → b ≡ false → ¬ IsTrue b
not_true b off = λ on. (cc)

-- at most all bytes stand before a line feed
pub line_len-le-length : (bytes : List ℕ) → line_len bytes ≤ length bytes
line_len-le-length bytes = prefix_len-le-length (λ byte. not (byte == 10)) bytes

-- a fault keeps its name in another result
pub same_fault : {A B : Type 0} (had fault : LinesFault) → IsErrOf {T = A} (Err had) fault → IsErrOf {T = B} (Err had) fault
same_fault had fault is = let same : had ≡ fault = (cc) in ap Err same

module _ (told source : Input) (old new : Buffered) (took : Took told (ahead old source) old.line) (line : new.line ≡ old.line ++ take (line_len old.pending) old.pending) (pending : new.pending ≡ drop (line_len old.pending + 1) old.pending) where
  -- a piece with no line feed
  pub took_whole : length old.pending ≤ line_len old.pending → Took told (ahead new source) new.line
  took_whole unfed =
      let all = pending ∙ drop_all (line_len old.pending + 1) old.pending (omega arith) in
      let piece = took_pending old new source old.pending (rw (all, append-nil) refl) in
      rw (line, first_line_whole old.pending unfed) (took_then took piece)

  -- a piece with its line feed
  pub took_fed : line_len old.pending < length old.pending → Took told (ahead new source) (new.line ++ 10 ∷ [])
  took_fed fed =
      let front = take (line_len old.pending) old.pending in
      let split : old.pending ≡ (front ++ 10 ∷ []) ++ new.pending = first_line_fed old.pending fed ∙ (rw (pending, append_assoc) refl) in
      let piece = took_pending old new source (front ++ 10 ∷ []) split in
      rw (line, append_assoc) (took_then took piece)

-- a piece that is too long makes what was left at the start too long
pub passes_limit : (told source : Input) (now : Buffered) (limit taken : ℕ) → Took told (ahead now source) now.line → is_one_line now.line ≡ true → now.taken ≡ taken + length now.line → PieceTooLong limit now → IfSome told.left (λ bytes. PassesLimit limit taken bytes)
passes_limit told source now limit taken took one count passed = by told.left source.left took.front
  where
    by : (told left : Option (List ℕ)) → Stands told (option_map (λ left. now.pending ++ left) left) now.line → IfSome told (λ bytes. PassesLimit limit taken bytes)
    by None left front = tt
    by (Some bytes) None front = absurd (cc)
    by (Some bytes) (Some rest) front =
        let is : bytes ≡ now.line ++ (now.pending ++ rest) = (cc) in
        let size = rw (length-append now.line (now.pending ++ rest), length-append now.pending rest) at (ap length is) in
        let first = ap line_len is ∙ prefix_len_behind (λ byte. not (byte == 10)) now.line (now.pending ++ rest) one in
        let more = prefix_len-le-append (λ byte. not (byte == 10)) now.pending rest in
        elim passed [ inl long ↦ inl (omega arith) | inr many ↦ inr (omega arith) ]
