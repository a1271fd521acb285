-- How the lines that the checker reads decide its verdict.
use Rattle.std.proofs.Common.{Bool, cond, ◌&&◌, nat_lt, ◌≡◌, ◌≢◌, ℕ, ◌+◌, ◌≤◌, ◌^◌, true, false, List, [], ◌∷◌, ◌++◌, length, Option, None, Some, IfSome, IfOk, IfErr, Result, Ok, Err, refl, sym, ◌∙◌, ap, subst, append_assoc, arith}
use Rattle.std.specs.Option.{option_map}
use Rattle.std.specs.Str.{bytes_eq}
use Rattle.std.proofs.lemmas.Bool.{eq-eqb, ne_eqb, ltb-false, or_parts}
use Rattle.std.proofs.lemmas.List.{append-nil}
use Rattle.wrp_out.specs.Outside.{Input, Took, Tells}
use Rattle.wrp_out.proofs.OutsideFacts.{took_then, took_no_more, took_whole}
use Rattle.wrp_town.specs.declared.town.Town.{Town}
use Rattle.wrp_town.specs.Arcs.{is_small}
use Rattle.wrp_rules.specs.declared.record.End.{End}
use Rattle.wrp_rules.specs.declared.rule.Rule.{Rule}
use Rattle.wrp_rules.specs.declared.rule.Rule.TheVariants as rules
use Rattle.wrp_rules.specs.Nodes.{Standing, start, after}
use Rattle.wrp_rules.specs.Proofs.{version_1, version_2, most_bytes, IsProof}
use Rattle.wrp_laws.specs.Ends.{EndHolds}
use Rattle.wrp_check.specs.declared.judge.Judge.{Judge}
use Rattle.wrp_check.specs.declared.pass.CheckFault.{CheckFault}
use Rattle.wrp_check.specs.declared.pass.CheckFault.TheVariants as faults
use Rattle.wrp_check.specs.declared.pass.Progress.{Progress}
use Rattle.wrp_check.specs.Streams.{Buffered, ahead}
use Rattle.wrp_proof.specs.JudgedLines.{judged_line, judged_end, is_end}
use Rattle.wrp_check.specs.Verdicts.{Verdict, Accepted, Stage, Next, Over, Place, limit_of, is_long, stage_behind, verdict, verdict_on, first_place, FaultIs, FaultOn, AnswerIs}
use Rattle.wrp_check.specs.Judging.{Stands, Judges}
use Rattle.wrp_check.specs.Passes.{TakesLine, Unread, Behind, Begins, place_of, GoesOn, Closes, Reaches, Whole}
use Rattle.wrp_check.proofs.Soundness.{accepted_is_proof, proof_holds}
use Rattle.wrp_check.proofs.Completeness.{proof_is_accepted}
use Rattle.wrp_check.proofs.VerdictSteps.{IsOpen, open_first, open_next, verdict-missing, verdict-passes, verdict-closed, verdict-after, after_end, step-goes, step-refused}

some_same : {a b : ℕ} → Some a ≡ Some b → a ≡ b
some_same e = cc

none_some : {b : ℕ} → None ≡ Some b → ⊥
none_some e = cc

-- where a piece was taken from what is told, the bytes begin with it
told_piece : (P Q : List ℕ → Type 0) {told left : Input} {piece : List ℕ} → Took told left piece → ((rest : List ℕ) → Q rest → P (piece ++ rest)) → IfSome left.left Q → IfSome told.left P
told_piece P Q {told} {left} {piece} took h end = by left.left took.front end
  where
    by : (others : Option (List ℕ)) → told.left ≡ option_map (λ left. piece ++ left) others → IfSome others Q → IfSome told.left P
    by None front end = rw front tt
    by (Some rest) front end = rw front (h rest end)

told_any : (told : Option (List ℕ)) → IfSome told (λ bytes. Unit {0})
told_any None = tt
told_any (Some bytes) = tt

-- what holds of any bytes holds of those that are told
told_each : (P Q : List ℕ → Type 0) (told : Option (List ℕ)) → ((bytes : List ℕ) → P bytes → Q bytes) → IfSome told P → IfSome told Q
told_each P Q None h one = tt
told_each P Q (Some bytes) h one = h bytes one

-- a fault is that of the verdict, also where the verdict is written otherwise
fault_along : (fault : CheckFault) (a b : Verdict) → a ≡ b → FaultIs fault b → FaultIs fault a
fault_along fault a b e h = rw e h

-- ---- one line

module _ (town : Town) (place : Place) (limit : ℕ) (open_at : IsOpen place.stage limit) where
  -- a fault of reading a line decides the verdict
  unread : (fault : CheckFault) (bytes : List ℕ) → Unread fault limit place.line place.taken bytes → FaultIs fault (verdict_on town place bytes)
  unread (faults.Refused line rule) bytes (same, missing, one, short) = verdict-missing town place limit open_at bytes one short ∙ rw (same, missing) refl
  unread faults.TooLong bytes passes = verdict-passes town place limit open_at bytes passes
  unread fault bytes h = tt

  pub unread_told : (fault : CheckFault) (input : Input) → IfSome input.left (λ bytes. Unread fault limit place.line place.taken bytes) → FaultOn town place input fault
  unread_told fault input h = told_each _ _ input.left (unread fault) h

  module _ (old new : Buffered) (before after : Input) (takes : TakesLine limit old new before after) (same : old.taken ≡ place.taken) where
    short : is_long limit place.taken new.line (length new.line + 1) ≡ false
    short = subst (λ taken. is_long limit taken new.line (length new.line + 1) ≡ false) same takes.short

    -- a line that breaks a rule
    pub refuses : (rule : Rule) → stage_behind town place.stage new.line ≡ Err rule → FaultOn town place (ahead old before) (faults.Refused place.line rule)
    refuses rule is = told_piece _ (λ rest. Unit {0}) takes.took
        (λ rest any. ap (verdict_on town place) (append_assoc new.line (10 ∷ []) rest)
        ∙ step-refused town place new.line rest takes.one_line rule (open_at.long place.taken (length new.line + 1) new.line ∙ short) is)
        (told_any (ahead new after).left)

    -- a line that breaks none
    pub leads : (stage : Stage) → stage_behind town place.stage new.line ≡ Ok stage → (rest : List ℕ) → verdict_on town place ((new.line ++ 10 ∷ []) ++ rest) ≡ verdict_on town (record { stage = stage; line = place.line + 1; taken = new.taken }) rest
    leads stage is rest =
        let now : place.taken + (length new.line + 1) ≡ new.taken = omega (arith, takes.taken, same) in
        ap (verdict_on town place) (append_assoc new.line (10 ∷ []) rest)
        ∙ step-goes town place new.line rest takes.one_line stage (open_at.long place.taken (length new.line + 1) new.line ∙ short) is
        ∙ ap (λ taken. verdict_on town (record { stage = stage; line = place.line + 1; taken = taken }) rest) now

-- what stands behind the end
pub behind_end : (town : Town) (end : End) (fault : CheckFault) (number taken : ℕ) (rest : List ℕ) → Behind fault number taken rest → FaultIs fault (verdict_on town (after_end end number taken) rest)
behind_end town end (faults.Refused at rule) number taken rest (same, after_it, some, room) =
    let below : taken ≢ most_bytes = omega arith in
    let test = ne_eqb taken most_bytes below in
    verdict-after town end number taken rest some ∙ rw (test, same, after_it) refl
behind_end town end faults.TooLong number taken rest (full, some) =
    let test = eq-eqb taken most_bytes full in
    verdict-after town end number taken rest some ∙ rw test refl
behind_end town end fault number taken rest h = tt

-- a line that was taken leaves the bytes below the greatest number
pub taken_most : (limit : ℕ) (old new : Buffered) (before after : Input) → TakesLine limit old new before after → new.taken ≤ most_bytes
taken_most limit old new before after takes =
    let fits = ltb-false most_bytes (old.taken + (length new.line + 1)) (or_parts (nat_lt limit (length new.line)) (nat_lt most_bytes (old.taken + (length new.line + 1))) takes.short).1 in
    omega (arith, fits, takes.taken)

-- ---- the version line

-- the limits of both versions
small_of : (a b : Bool) (limit : ℕ) → cond a (Some (2 ^ 28)) (cond b (Some (2 ^ 24)) None) ≡ Some limit → limit ≤ 2 ^ 28
small_of true b limit e = let same : 2 ^ 28 ≡ limit = some_same e in omega arith
small_of false true limit e = let same : 2 ^ 24 ≡ limit = some_same e in omega arith
small_of false false limit e = absurd (none_some e)

limit_small : (town : Town) (line : List ℕ) (limit : ℕ) → limit_of town line ≡ Some limit → limit ≤ 2 ^ 28
limit_small town line limit is = small_of (bytes_eq line version_2.line) (bytes_eq line version_1.line && is_small town) limit is

module _ (town : Town) (old new : Buffered) (before after : Input) (takes : TakesLine (2 ^ 24) old new before after) (none : old.taken ≡ 0) where
  -- a version line that sets a limit
  pub begins : (limit : ℕ) → limit_of town new.line ≡ Some limit → Begins town limit old new before after
  begins limit is = record {
    small = limit_small town new.line limit is;
    most = taken_most (2 ^ 24) old new before after takes;
    piece = new.line ++ 10 ∷ [];
    took = takes.took;
    same = leads town first_place (2 ^ 24) open_first old new before after takes none (Next limit (start town)) (rw is refl);
  }

  -- a first line that is no version line
  pub starts_not : limit_of town new.line ≡ None → FaultOn town first_place (ahead old before) (faults.Refused 1 rules.Start)
  starts_not is = refuses town first_place (2 ^ 24) open_first old new before after takes none rules.Start (rw is refl)

-- ---- the line of a record, or of the end

-- the place in front of the line, and what comes behind it
module _ (town : Town) (s : Standing) (pass : Progress) (now : Buffered) (before left : Input) (takes : TakesLine pass.limit pass.lines now before left) where
  -- an end line that breaks a rule
  pub end_refuses : (rule : Rule) → is_end now.line ≡ true → judged_end s now.line ≡ Err rule → FaultOn town (place_of pass s) (ahead pass.lines before) (faults.Refused pass.number rule)
  end_refuses rule end_line judged = refuses town (place_of pass s) pass.limit (open_next pass.limit s) pass.lines now before left takes refl rule (rw (end_line, judged) refl)

  -- a record's line that breaks a rule
  pub line_refuses : (rule : Rule) → is_end now.line ≡ false → judged_line town s now.line ≡ Err rule → FaultOn town (place_of pass s) (ahead pass.lines before) (faults.Refused pass.number rule)
  line_refuses rule record_line judged = refuses town (place_of pass s) pass.limit (open_next pass.limit s) pass.lines now before left takes refl rule (rw (record_line, judged) refl)

  -- behind an end that agrees
  over : (end : End) → is_end now.line ≡ true → judged_end s now.line ≡ Ok end → (rest : List ℕ) → verdict_on town (place_of pass s) ((now.line ++ 10 ∷ []) ++ rest) ≡ verdict_on town (after_end end (pass.number + 1) now.taken) rest
  over end end_line judged = leads town (place_of pass s) pass.limit (open_next pass.limit s) pass.lines now before left takes refl (Over end) (rw (end_line, judged) refl)

  -- an end that agrees, with nothing behind it
  pub closes : (new : Progress) (later : Input) (end : End) → is_end now.line ≡ true → judged_end s now.line ≡ Ok end → Took (ahead now left) (ahead new.lines later) [] → Tells (ahead new.lines later).left [] → Closes town s pass new before later end
  closes new later end end_line judged nothing empty = record {
    piece = now.line ++ 10 ∷ [];
    took = took_no_more takes.took nothing;
    empty = empty;
    said = ap (verdict_on town (place_of pass s)) (sym (append-nil (now.line ++ 10 ∷ [])))
        ∙ over end end_line judged []
        ∙ verdict-closed town end (pass.number + 1) now.taken;
  }

  -- something behind it
  pub end_followed : (fault : CheckFault) (end : End) → is_end now.line ≡ true → judged_end s now.line ≡ Ok end → IfSome (ahead now left).left (λ rest. Behind fault (pass.number + 1) now.taken rest) → FaultOn town (place_of pass s) (ahead pass.lines before) fault
  end_followed fault end end_line judged behind = told_piece _ _ takes.took
      (λ rest h. fault_along fault _ _ (over end end_line judged rest) (behind_end town end fault (pass.number + 1) now.taken rest h)) behind

  -- one more record
  pub goes : (judge : Judge) → is_end now.line ≡ false → Judges town s (judged_line town s now.line) None judge → GoesOn town s pass (record { lines = now; judge = judge; limit = pass.limit; number = pass.number + 1 }) before left
  goes judge record_line judged =
      let is = judged.1 in
      record {
        piece = now.line ++ 10 ∷ [];
        took = takes.took;
        next = after town s judged.0;
        stands = judged.2;
        same = leads town (place_of pass s) pass.limit (open_next pass.limit s) pass.lines now before left takes refl (Next pass.limit (after town s judged.0)) (rw (record_line, is) refl);
      }

-- ---- over many lines

-- a reader that has read nothing leaves what is told
fresh_left : (pending : List ℕ) (told : Option (List ℕ)) → pending ≡ [] → option_map (λ left. pending ++ left) told ≡ told
fresh_left pending None none = refl
fresh_left pending (Some bytes) none = rw none refl

pub fresh : (lines : Buffered) (source : Input) → lines.pending ≡ [] → ahead lines source ≡ source
fresh lines source none = ap (λ (left : Option (List ℕ)). record source { left = left }) (fresh_left lines.pending source.left none)

-- a fault on what it leaves is one on what is told
pub fresh_fault : (town : Town) (place : Place) (lines : Buffered) (source : Input) (fault : CheckFault) → lines.pending ≡ [] → FaultOn town place (ahead lines source) fault → FaultOn town place source fault
fresh_fault town place lines source fault none h = subst (λ input. FaultOn town place input fault) (fresh lines source none) h

-- behind the version line
pub reaches_first : (town : Town) (old : Buffered) (pass : Progress) (before after : Input) → old.pending ≡ [] → pass.number ≡ 2 → Stands town (start town) pass.judge → Begins town pass.limit old pass.lines before after → Reaches town before pass after
reaches_first town old pass before after none second stands begun = record {
  piece = begun.piece;
  took = subst (λ input. Took input (ahead pass.lines after) begun.piece) (fresh old before none) begun.took;
  s = start town;
  stands = stands;
  same = λ rest. begun.same rest ∙ ap (λ number. verdict_on town (record { stage = Next pass.limit (start town); line = number; taken = pass.lines.taken }) rest) (sym second);
}

pub reaches_more : (town : Town) (first : Input) (old new : Progress) (before after : Input) → (reached : Reaches town first old before) → GoesOn town reached.s old new before after → Reaches town first new after
reaches_more town first old new before after reached more = record {
  piece = reached.piece ++ more.piece;
  took = took_then reached.took more.took;
  s = more.next;
  stands = more.stands;
  same = λ rest. ap (verdict town) (append_assoc reached.piece more.piece rest) ∙ reached.same (more.piece ++ rest) ∙ more.same rest;
}

pub reaches_end : (town : Town) (first : Input) (old new : Progress) (before after : Input) (end : End) → (reached : Reaches town first old before) → Closes town reached.s old new before after end → Whole town first end
reaches_end town first old new before after end reached close = record {
  bytes = reached.piece ++ close.piece;
  tells = took_whole (took_then reached.took close.took) close.empty;
  said = reached.same close.piece ∙ close.said;
}

pub reaches_fault : (town : Town) (first : Input) (pass : Progress) (now : Input) (fault : CheckFault) → (reached : Reaches town first pass now) → FaultOn town (place_of pass reached.s) (ahead pass.lines now) fault → FaultOn town first_place first fault
reaches_fault town first pass now fault reached h = told_piece _ _ reached.took (λ rest. fault_along fault _ _ (reached.same rest)) h

-- nothing is left of the source where nothing is left with what was read ahead
pub nothing_left : (lines : Buffered) (source : Input) → Tells (ahead lines source).left [] → Tells source.left []
nothing_left lines source empty = by source.left empty
  where
    no_bytes : (xs ys : List ℕ) → xs ++ ys ≡ [] → ys ≡ []
    no_bytes [] ys h = h
    no_bytes (x ∷ xs) ys h = cc

    by : (told : Option (List ℕ)) → Tells (option_map (λ left. lines.pending ++ left) told) [] → Tells told []
    by None h = tt
    by (Some left) h = no_bytes lines.pending left h

-- ---- the answer of the checker

-- what is said of the one text holds of each that is told
told_same : (P : List ℕ → Type 0) (told : Option (List ℕ)) (bytes : List ℕ) → Tells told bytes → P bytes → IfSome told P
told_same P None bytes tells h = tt
told_same P (Some other) bytes tells h = subst P (sym tells) h

pub exact_answer : (town : Town) (first : Input) (answer : Result End CheckFault) → IfOk answer (λ end. Whole town first end) → IfErr answer (λ fault. FaultOn town first_place first fault) → IfSome first.left (λ bytes. AnswerIs answer (verdict town bytes))
exact_answer town first (Ok end) all fault = told_same (λ bytes. verdict town bytes ≡ Accepted end) first.left all.bytes all.tells all.said
exact_answer town first (Err other) all fault = fault

pub accepted_answer : (town : Town) (first : Input) (answer : Result End CheckFault) → IfOk answer (λ end. Whole town first end) → IfOk answer (λ end. IfSome first.left (λ bytes. IsProof town end bytes))
accepted_answer town first (Ok end) all = told_same (λ bytes. IsProof town end bytes) first.left all.bytes all.tells (accepted_is_proof town end all.bytes all.said)
accepted_answer town first (Err other) all = tt

pub true_answer : (town : Town) (first : Input) (answer : Result End CheckFault) → IfOk answer (λ end. Whole town first end) → IfOk answer (λ end. EndHolds town end)
true_answer town first (Ok end) all = proof_holds town end all.bytes (accepted_is_proof town end all.bytes all.said)
true_answer town first (Err other) all = tt

pub accepting_answer : (town : Town) (told : Option (List ℕ)) (answer : Result End CheckFault) → IfSome told (λ bytes. AnswerIs answer (verdict town bytes)) → IfSome told (λ bytes. (end : End) → IsProof town end bytes → AnswerIs answer (Accepted end))
accepting_answer town None answer exact = tt
accepting_answer town (Some bytes) answer exact = λ end proved. subst (AnswerIs answer) (proof_is_accepted town end bytes proved) exact
