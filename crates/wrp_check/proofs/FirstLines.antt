-- The first line of some bytes: those before the first line feed.
use Rattle.std.proofs.Common.{◌≡◌, ℕ, ◌+◌, ◌-◌, ◌<◌, ◌≤◌, ◌==◌, inl, inr, ◌∙◌, suc, min, Bool, true, false, cond, not, ◌&&◌, List, [], ◌∷◌, ◌++◌, length, take, drop, get_or, None, Some, nat_lt, refl, sym, ap, arith}
use Rattle.std.specs.List.{list_all, position, prefix_len}
use borrow.Author.Tests.{ltb-false}
use Rattle.std.proofs.Math.Seq.{drop-cons}
use Rattle.std.proofs.lemmas.Bool.{cases_lt, not-false, eqb-true}
use Rattle.std.proofs.lemmas.List.{length-take, length-drop, take-append-drop, drop-take, drop-drop, take_all, drop_all, append-nil}
use Rattle.std.proofs.lemmas.List.Sums.{prefix_len-le-length, prefix_len_stops}
use Rattle.wrp_check.specs.Streams.{is_one_line, line_len}

module _ (p : ℕ → Bool) where
  -- a list whose elements all pass, and what comes behind it
  pub prefix_len_behind : (xs ys : List ℕ) → list_all p xs ≡ true → prefix_len p (xs ++ ys) ≡ length xs + prefix_len p ys
  prefix_len_behind [] ys all = omega arith
  prefix_len_behind (x ∷ xs) ys all = by (p x) all (prefix_len_behind xs ys)
    where
      by : (b : Bool) → (b && list_all p xs) ≡ true → (list_all p xs ≡ true → prefix_len p (xs ++ ys) ≡ length xs + prefix_len p ys) → cond b (1 + prefix_len p (xs ++ ys)) 0 ≡ length (x ∷ xs) + prefix_len p ys
      by true both rest = let same = rest both in omega arith
      by false both rest = (cc)

  -- the elements before the first that fails all pass
  pub front_passes : (xs : List ℕ) → list_all p (take (prefix_len p xs) xs) ≡ true
  front_passes [] = refl
  front_passes (x ∷ xs) = by (p x) refl (front_passes xs)
    where
      by : (b : Bool) → p x ≡ b → list_all p (take (prefix_len p xs) xs) ≡ true → list_all p (take (cond b (1 + prefix_len p xs) 0) (x ∷ xs)) ≡ true
      by true passes rest =
          let one : 1 + prefix_len p xs ≡ suc (prefix_len p xs) = omega arith in
          rw (one, passes) rest
      by false fails rest = refl

  -- what comes behind a list changes nothing before the first that fails
  pub prefix_len-le-append : (xs ys : List ℕ) → prefix_len p xs ≤ prefix_len p (xs ++ ys)
  prefix_len-le-append [] ys = omega arith
  prefix_len-le-append (x ∷ xs) ys = by (p x) (prefix_len-le-append xs ys)
    where
      by : (b : Bool) → prefix_len p xs ≤ prefix_len p (xs ++ ys) → cond b (1 + prefix_len p xs) 0 ≤ cond b (1 + prefix_len p (xs ++ ys)) 0
      by true rest = omega arith
      by false rest = omega arith

-- a line and a line feed have the length of the line
pub line_len_fed : (line bytes : List ℕ) → is_one_line line ≡ true → line_len (line ++ 10 ∷ bytes) ≡ length line
line_len_fed line bytes one = let behind = prefix_len_behind (λ byte. not (byte == 10)) line (10 ∷ bytes) one in omega arith

-- a line with nothing behind it has its length
pub line_len_whole : (line : List ℕ) → is_one_line line ≡ true → line_len line ≡ length line
line_len_whole line one = let behind = rw append-nil at (prefix_len_behind (λ byte. not (byte == 10)) line [] one) in omega arith

-- bytes with a line feed are the first line, the line feed and the rest
pub first_line_fed : (bytes : List ℕ) → line_len bytes < length bytes → bytes ≡ take (line_len bytes) bytes ++ 10 ∷ drop (line_len bytes + 1) bytes
first_line_fed bytes fed =
    let feed : get_or bytes (line_len bytes) 0 ≡ 10 = eqb-true _ _ (not-false _ (prefix_len_stops (λ byte. not (byte == 10)) bytes 0 fed)) in
    let next : suc (line_len bytes) ≡ line_len bytes + 1 = omega arith in
    let split = drop-cons bytes (line_len bytes) 0 fed ∙ ap (λ byte. byte ∷ drop (suc (line_len bytes)) bytes) feed ∙ ap (λ count. 10 ∷ drop count bytes) next in
    sym (take-append-drop (line_len bytes) bytes) ∙ ap (λ rest. take (line_len bytes) bytes ++ rest) split

-- bytes with no line feed are one line
pub first_line_whole : (bytes : List ℕ) → length bytes ≤ line_len bytes → take (line_len bytes) bytes ≡ bytes
first_line_whole bytes unfed = take_all (line_len bytes) bytes unfed

-- where no byte is a line feed, all bytes stand before it
pub no_feed : (bytes : List ℕ) → position (λ byte. byte == 10) bytes ≡ None → length bytes ≡ line_len bytes
no_feed bytes none = by (nat_lt (line_len bytes) (length bytes)) refl none
  where
    by : (b : Bool) → nat_lt (line_len bytes) (length bytes) ≡ b → cond b (Some (line_len bytes)) None ≡ None → length bytes ≡ line_len bytes
    by true less none = absurd (cc)
    by false less none = omega (arith, ltb-false _ _ less, prefix_len-le-length (λ byte. not (byte == 10)) bytes)

chunk_behind : (chunk : List ℕ) (at end size count more : ℕ) → size ≡ count → end - at ≡ count + more → end - (at + size) ≡ more → take (end - (at + size)) (drop (at + size) chunk) ≡ drop count (take (end - at) (drop at chunk))
chunk_behind chunk at end size count more is whole rest = rw (rest, whole, is, drop-take, drop-drop) refl

-- what is left of a chunk behind the first line and its line feed
pub chunk_rest : (chunk : List ℕ) (at end count size : ℕ) → at ≤ end → end ≤ length chunk → size ≡ min (count + 1) (length (take (end - at) (drop at chunk))) → take (end - (at + size)) (drop (at + size) chunk) ≡ drop (count + 1) (take (end - at) (drop at chunk))
chunk_rest chunk at end count size in_order inside is =
    let long = rw length-drop at (length-take (end - at) (drop at chunk)) in
    elim (cases_lt (end - at) (count + 1)) [
      | inl less ↦
          let none : end - (at + size) ≡ 0 = omega arith in
          rw none (sym (drop_all (count + 1) (take (end - at) (drop at chunk)) (omega arith)))
      | inr room ↦ chunk_behind chunk at end size (count + 1) (end - at - (count + 1)) (omega arith) (omega arith) (omega arith)
    ]
