-- Bytes that the checker accepts are a proof.
use Rattle.std.proofs.Common.{inl, inr, ◌⊎◌, ◌≡◌, ℕ, ◌+◌, ◌≤◌, ◌^◌, Bool, true, false, cond, ◌&&◌, ◌==◌, nat_lt, List, [], ◌∷◌, ◌++◌, length, fold, Option, None, Some, is_none, Result, Ok, Err, refl, sym, ap, ◌∙◌, subst, arith, length-append, append_assoc, zero-add}
use Rattle.std.specs.List.{AllByRecursion, join_with_byte}
use Rattle.std.specs.Str.{bytes_eq}
use Rattle.std.proofs.lemmas.Bool.{and_parts, and_from, or_parts, ltb-false}
use Rattle.std.proofs.lemmas.List.Splits.{join_with_byte-slice_split}
use Rattle.std.proofs.lemmas.Slice.Eq.{bytes_eq-Decides}
use Rattle.wrp_town.specs.declared.town.Town.{Town}
use Rattle.wrp_town.specs.Arcs.{is_small}
use Rattle.wrp_rules.specs.declared.record.Record.{Record}
use Rattle.wrp_rules.specs.declared.record.End.{End}
use Rattle.wrp_rules.specs.declared.rule.Rule.{Rule}
use Rattle.wrp_rules.specs.declared.rule.Rule.TheVariants as rules
use Rattle.wrp_rules.specs.Nodes.{Standing, start, after}
use Rattle.wrp_rules.specs.Lines.{line_of, end_line}
use Rattle.wrp_rules.specs.Lists.{goes_on, agrees}
use Rattle.wrp_rules.specs.Rules.{broken_rule}
use Rattle.wrp_grammar.specs.Spelling.{spelled, spelled_end}
use Rattle.wrp_grammar.specs.Shapes.{has_shape, has_end_shape}
use Rattle.wrp_rules.specs.Proofs.{Version, version_1, version_2, most_bytes, ended, record_lines, IsProofBy, IsProof}
use Rattle.wrp_proof.proofs.LineLaws.{spelled-line, spelled-end_line}
use Rattle.wrp_laws.specs.Ends.{EndHolds}
use Rattle.wrp_laws.proofs.AllEnds.{proved_end}
use Rattle.wrp_proof.specs.JudgedLines.{unless, judged_record, judged_line, agreeing_end, judged_end, is_end}
use Rattle.wrp_check.specs.Verdicts.{Verdict, Accepted, Refused, Long, Stage, Next, Over, Place, is_long, is_too_long, limit_of, stage_of, next_stage, last_stage, stage_behind, behind, step, follow, verdict_along, first_place, over_lines, verdict}
use Rattle.wrp_check.proofs.LineCuts.{lines_of}
use Rattle.wrp_check.proofs.VerdictSteps.{place_behind, behind_records, after_end}

-- ---- choices

-- a choice that came out well was not the fault
chosen : {A : Type 0} (b : Bool) (fault value good : A) → (fault ≡ good → ⊥) → cond b fault value ≡ good → (b ≡ false) × (value ≡ good)
chosen true fault value good bad h = absurd (bad h)
chosen false fault value good bad h = (refl, h)

-- and the other way round
guarded : {A : Type 0} (b : Bool) (value fault good : A) → (fault ≡ good → ⊥) → cond b value fault ≡ good → (b ≡ true) × (value ≡ good)
guarded true value fault good bad h = (refl, h)
guarded false value fault good bad h = absurd (bad h)

long_bad : (end : End) → Long ≡ Accepted end → ⊥
long_bad end h = cc

refused_bad : (number : ℕ) (rule : Rule) (end : End) → Refused number rule ≡ Accepted end → ⊥
refused_bad number rule end h = cc

err_bad : {A : Type 0} (rule : Rule) (value : A) → Err rule ≡ Ok value → ⊥
err_bad rule value h = cc

abbrev well : {A : Type 0} → A → Result A Rule
well value = Ok value

ok_value : {A : Type 0} (x y : A) → well x ≡ well y → x ≡ y
ok_value x y h = cc

none_bad : {A : Type 0} (x : A) → None ≡ Some x → ⊥
none_bad x h = cc

-- ---- lines that are taken

-- the line is that of a record that keeps the rules
record IsRecordLine (town : Town) (s : Standing) (line : List ℕ) (item : Record) : Type 0 where
  text : line_of item ≡ line
  unbroken : broken_rule town s item ≡ None

unless_ok : {A : Type 0} (o : Option Rule) (x y : A) → unless o x ≡ Ok y → (o ≡ None) × (x ≡ y)
unless_ok None x y h = (refl, ok_value x y h)
unless_ok (Some rule) x y h = absurd (err_bad rule y h)

record_ok : (town : Town) (s : Standing) (fault : Rule) (found : Option Record) (item : Record) → judged_record town s fault found ≡ Ok item → (found ≡ Some item) × (broken_rule town s item ≡ None)
record_ok town s fault None item h = absurd (err_bad fault item h)
record_ok town s fault (Some other) item h =
    let both = unless_ok (broken_rule town s other) other item h in
    (ap Some both.1, subst (λ x. broken_rule town s x ≡ None) both.1 both.0)

line_ok : (town : Town) (s : Standing) (line : List ℕ) (item : Record) → judged_line town s line ≡ Ok item → IsRecordLine town s line item
line_ok town s line item h =
    let found = record_ok town s (cond (has_shape line) rules.Number rules.Form) (spelled line) item h in
    record { text = (spelled-line line item found.0).text; unbroken = found.1 }

agreeing_ok : (s : Standing) (fault : Rule) (found : Option End) (end : End) → agreeing_end s fault found ≡ Ok end → (found ≡ Some end) × (agrees s end ≡ true)
agreeing_ok s fault None end h = absurd (err_bad fault end h)
agreeing_ok s fault (Some other) end h =
    let both = guarded (agrees s other) (Ok other) (Err rules.End) (Ok end) (err_bad rules.End end) h in
    let same = ok_value other end both.1 in
    (ap Some same, subst (λ x. agrees s x ≡ true) same both.0)

-- the line is that of an end that agrees
record IsEndLine (s : Standing) (line : List ℕ) (end : End) : Type 0 where
  text : end_line end ≡ line
  agreeing : agrees s end ≡ true

end_ok : (s : Standing) (line : List ℕ) (end : End) → judged_end s line ≡ Ok end → IsEndLine s line end
end_ok s line end h =
    let found = agreeing_ok s (cond (has_end_shape line) rules.Number rules.Form) (spelled_end line) end h in
    record { text = (spelled-end_line line end found.0).text; agreeing = found.1 }

-- ---- steps that are taken

-- a step behind which the verdict accepts: the line is not too long and breaks no rule
record IsStep (town : Town) (place : Place) (line : List ℕ) (verdict_at : Place → Verdict) (end : End) : Type 0 where
  short : is_too_long place.stage place.taken line (length line + 1) ≡ false
  stage : Stage
  is : stage_behind town place.stage line ≡ Ok stage
  said : verdict_at (place_behind place line stage) ≡ Accepted end

step_ok : (town : Town) (place : Place) (line : List ℕ) (verdict_at : Place → Verdict) (end : End) → follow verdict_at (step town place line) ≡ Accepted end → IsStep town place line verdict_at end
step_ok town place line verdict_at end h = by (is_too_long place.stage place.taken line (length line + 1)) refl (stage_behind town place.stage line) refl h
  where
    by : (long : Bool) → is_too_long place.stage place.taken line (length line + 1) ≡ long → (answer : Result Stage Rule) → stage_behind town place.stage line ≡ answer → follow verdict_at (cond long (Err Long) (behind place line answer)) ≡ Accepted end → IsStep town place line verdict_at end
    by true long answer is h = absurd (long_bad end h)
    by false short (Err rule) is h = absurd (refused_bad place.line rule end h)
    by false short (Ok stage) is h = record { short = short; stage = stage; is = is; said = h }

-- nothing stands behind an end that is accepted
over_ok : (town : Town) (other : End) (number taken : ℕ) (next : List ℕ) (others : List (List ℕ)) (end : End) → verdict_along town (after_end other number taken) next others ≡ Accepted end → (other ≡ end) × (next ≡ []) × (others ≡ [])
unfolding verdict_along
over_ok town other number taken [] [] end h = let same : other ≡ end = (cc) in (same, refl, refl)
over_ok town other number taken (byte ∷ next) [] end h = absurd (by (taken == most_bytes) h)
  where
    by : (b : Bool) → cond b Long (Refused number rules.After) ≡ Accepted end → ⊥
    by true e = cc
    by false e = cc
over_ok town other number taken next (line ∷ others) end h =
    absurd (err_bad rules.After (step_ok town (after_end other number taken) next (λ place. verdict_along town place line others) end h).stage (step_ok town (after_end other number taken) next (λ place. verdict_along town place line others) end h).is)

-- ---- all lines

-- the bytes are the lines of records that go on behind what stands, and of an end that agrees
pub record Proves (town : Town) (limit : ℕ) (s : Standing) (taken : ℕ) (end : End) (bytes : List ℕ) : Type 0 where
  pub records : List Record
  pub text : bytes ≡ record_lines records ++ ended (end_line end)
  pub valid : goes_on town s records ≡ true
  pub agreeing : agrees (fold (after town) s records) end ≡ true
  pub lines : AllByRecursion (λ item. length (line_of item) ≤ limit) records
  pub whole : taken + length bytes ≤ 2 ^ 40

-- a line within its limit
within : (limit taken own : ℕ) (line : List ℕ) → is_long limit taken line own ≡ false → (length line ≤ limit) × (taken + own ≤ 2 ^ 40)
within limit taken own line h =
    let both = or_parts (nat_lt limit (length line)) (nat_lt most_bytes (taken + own)) h in
    (ltb-false limit (length line) both.0, ltb-false most_bytes (taken + own) both.1)

-- the bytes of these lines
abbrev joined : List (List ℕ) → List ℕ
joined lines = join_with_byte 10 lines

-- an end line alone
ends_here : (town : Town) (limit : ℕ) (s : Standing) (taken : ℕ) (end : End) (line next : List ℕ) (others : List (List ℕ)) → is_long limit taken line (length line + 1) ≡ false → judged_end s line ≡ Ok end → next ≡ [] → others ≡ [] → Proves town limit s taken end (line ++ 10 ∷ joined (next ∷ others))
ends_here town limit s taken end line next others short is no_line no_others =
    let found = end_ok s line end is in
    let none : joined (next ∷ others) ≡ [] = ap (λ first. joined (first ∷ others)) no_line ∙ ap (λ lines. joined ([] ∷ lines)) no_others in
    let text : line ++ 10 ∷ joined (next ∷ others) ≡ ended (end_line end) = ap (λ rest. line ++ 10 ∷ rest) none ∙ ap ended (sym found.text) in
    let fits = within limit taken (length line + 1) line short in
    let all = length-append line (10 ∷ joined (next ∷ others)) in
    let rest = ap length none in
    record {
      records = [];
      text = text;
      valid = refl;
      agreeing = found.agreeing;
      lines = tt;
      whole = omega (arith, fits.1, all, rest);
    }

-- a record's line before the lines of others
goes_before : (town : Town) (limit : ℕ) (s : Standing) (taken : ℕ) (end : End) (line bytes : List ℕ) (item : Record) → is_long limit taken line (length line + 1) ≡ false → IsRecordLine town s line item → Proves town limit (after town s item) (taken + (length line + 1)) end bytes → Proves town limit s taken end (line ++ 10 ∷ bytes)
goes_before town limit s taken end line bytes item short found rest =
    let fits = within limit taken (length line + 1) line short in
    let all = length-append line (10 ∷ bytes) in
    let whole = rest.whole in
    let behind = record_lines rest.records ++ ended (end_line end) in
    record {
      records = item ∷ rest.records;
      text = ap (λ others. line ++ 10 ∷ others) rest.text
          ∙ ap (λ text. text ++ 10 ∷ behind) (sym found.text)
          ∙ sym (append_assoc (line_of item) (10 ∷ []) behind)
          ∙ sym (append_assoc (ended (line_of item)) (record_lines rest.records) (ended (end_line end)));
      valid = and_from (is_none (broken_rule town s item)) (goes_on town (after town s item) rest.records) (ap is_none found.unbroken) rest.valid;
      agreeing = rest.agreeing;
      lines = (subst (λ text. length text ≤ limit) (sym found.text) fits.0, rest.lines);
      whole = omega (arith, all, whole);
    }

-- the line is of an end or of a record
end_or_record : (town : Town) (limit : ℕ) (s : Standing) (ends : Bool) (answer : Result End Rule) (judged : Result Record Rule) (stage : Stage) → cond ends (last_stage answer) (next_stage town limit s judged) ≡ Ok stage → ((end : End) × (answer ≡ Ok end) × (stage ≡ Over end)) ⊎ ((item : Record) × (judged ≡ Ok item) × (stage ≡ Next limit (after town s item)))
end_or_record town limit s true (Ok end) judged stage h = inl (end, refl, sym (ok_value (Over end) stage h))
end_or_record town limit s true (Err rule) judged stage h = absurd (err_bad rule stage h)
end_or_record town limit s false answer (Ok item) stage h = inr (item, refl, sym (ok_value (Next limit (after town s item)) stage h))
end_or_record town limit s false answer (Err rule) stage h = absurd (err_bad rule stage h)

one_line : (town : Town) (limit : ℕ) (s : Standing) (number taken : ℕ) (line next : List ℕ) (others : List (List ℕ)) (end : End) → ((item : Record) → verdict_along town (behind_records limit (after town s item) (number + 1) (taken + (length line + 1))) next others ≡ Accepted end → Proves town limit (after town s item) (taken + (length line + 1)) end (joined (next ∷ others))) → IsStep town (behind_records limit s number taken) line (λ place. verdict_along town place next others) end → Proves town limit s taken end (line ++ 10 ∷ joined (next ∷ others))
one_line town limit s number taken line next others end go taken_step = by (end_or_record town limit s (is_end line) (judged_end s line) (judged_line town s line) taken_step.stage taken_step.is)
  where
    by : ((last : End) × (judged_end s line ≡ Ok last) × (taken_step.stage ≡ Over last)) ⊎ ((item : Record) × (judged_line town s line ≡ Ok item) × (taken_step.stage ≡ Next limit (after town s item))) → Proves town limit s taken end (line ++ 10 ∷ joined (next ∷ others))
    by (inl (last, judged, is)) =
        let over = over_ok town last (number + 1) (taken + (length line + 1)) next others end (subst (λ stage. verdict_along town (place_behind (behind_records limit s number taken) line stage) next others ≡ Accepted end) is taken_step.said) in
        ends_here town limit s taken end line next others taken_step.short (judged ∙ ap Ok over.0) over.1 over.2
    by (inr (item, judged, is)) =
        goes_before town limit s taken end line (joined (next ∷ others)) item taken_step.short (line_ok town s line item judged)
        (go item (subst (λ stage. verdict_along town (place_behind (behind_records limit s number taken) line stage) next others ≡ Accepted end) is taken_step.said))

pub lines_accepted : (town : Town) (limit : ℕ) (s : Standing) (number taken : ℕ) (line : List ℕ) (lines : List (List ℕ)) (end : End) → verdict_along town (behind_records limit s number taken) line lines ≡ Accepted end → Proves town limit s taken end (joined (line ∷ lines))
unfolding verdict_along
lines_accepted town limit s number taken line [] end h = absurd (refused_bad number rules.Missing end (chosen (is_long limit taken line (length line)) Long (Refused number rules.Missing) (Accepted end) (long_bad end) h).1)
lines_accepted town limit s number taken line (next ∷ others) end h =
    one_line town limit s number taken line next others end
    (λ item said. lines_accepted town limit (after town s item) (number + 1) (taken + (length line + 1)) next others end said)
    (step_ok town (behind_records limit s number taken) line (λ place. verdict_along town place next others) end h)

-- ---- the version line

-- the version that a line names, which the town may use
record IsVersion (town : Town) (line : List ℕ) (limit : ℕ) : Type 0 where
  version : (limit ≡ version_2.limit) × (line ≡ version_2.line) ⊎ ((is_small town ≡ true) × (limit ≡ version_1.limit) × (line ≡ version_1.line))

some_value : (x y : ℕ) → Some x ≡ Some y → y ≡ x
some_value x y h = cc

version_of : (town : Town) (line : List ℕ) (limit : ℕ) (second first : Bool) → bytes_eq line version_2.line ≡ second → (bytes_eq line version_1.line && is_small town) ≡ first → cond second (Some version_2.limit) (cond first (Some version_1.limit) None) ≡ Some limit → IsVersion town line limit
version_of town line limit true first e f h = record { version = inl (some_value version_2.limit limit h, (bytes_eq-Decides line version_2.line).0 e) }
version_of town line limit false true e f h =
    let both = and_parts (bytes_eq line version_1.line) (is_small town) f in
    record { version = inr (both.1, some_value version_1.limit limit h, (bytes_eq-Decides line version_1.line).0 both.0) }
version_of town line limit false false e f h = absurd (none_bad limit h)

limit_is : (town : Town) (line : List ℕ) (limit : ℕ) → limit_of town line ≡ Some limit → IsVersion town line limit
limit_is town line limit h = version_of town line limit (bytes_eq line version_2.line) (bytes_eq line version_1.line && is_small town) refl refl h

-- the version line, and a proof behind it
proof_by : (town : Town) (version : Version) (end : End) (line bytes : List ℕ) (limit taken : ℕ) → taken ≡ length line + 1 → limit ≡ version.limit → line ≡ version.line → (proves : Proves town limit (start town) taken end bytes) → IsProofBy town version proves.records end (line ++ 10 ∷ bytes)
proof_by town version end line bytes limit taken own same_limit same_line proves =
    let whole = proves.whole in
    let all = length-append line (10 ∷ bytes) in
    let behind = record_lines proves.records ++ ended (end_line end) in
    record {
      text = ap (λ first. first ++ 10 ∷ bytes) same_line
          ∙ ap (λ rest. version.line ++ 10 ∷ rest) proves.text
          ∙ sym (append_assoc version.line (10 ∷ []) behind)
          ∙ sym (append_assoc (ended version.line) (record_lines proves.records) (ended (end_line end)));
      valid = proves.valid;
      agreeing = proves.agreeing;
      lines = subst (λ most. AllByRecursion (λ item. length (line_of item) ≤ most) proves.records) same_limit proves.lines;
      whole = omega (arith, own, all, whole);
    }

proof_of : (town : Town) (end : End) (line bytes : List ℕ) (limit : ℕ) → IsVersion town line limit → Proves town limit (start town) (length line + 1) end bytes → IsProof town end (line ++ 10 ∷ bytes)
proof_of town end line bytes limit named proves = (proves.records, by_version named.version)
  where
    by_version : (limit ≡ version_2.limit) × (line ≡ version_2.line) ⊎ ((is_small town ≡ true) × (limit ≡ version_1.limit) × (line ≡ version_1.line)) → IsProofBy town version_2 proves.records end (line ++ 10 ∷ bytes) ⊎ ((is_small town ≡ true) × IsProofBy town version_1 proves.records end (line ++ 10 ∷ bytes))
    by_version (inl second) = inl (proof_by town version_2 end line bytes limit (length line + 1) refl second.0 second.1 proves)
    by_version (inr first) = inr (first.0, proof_by town version_1 end line bytes limit (length line + 1) refl first.1 first.2 proves)

version_ok : (town : Town) (answer : Option ℕ) (stage : Stage) → stage_of town answer ≡ Ok stage → (limit : ℕ) × (answer ≡ Some limit) × (stage ≡ Next limit (start town))
version_ok town None stage h = absurd (err_bad rules.Start stage h)
version_ok town (Some limit) stage h = (limit, refl, sym (ok_value (Next limit (start town)) stage h))

first_accepted : (town : Town) (line : List ℕ) (lines : List (List ℕ)) (end : End) → verdict_along town first_place line lines ≡ Accepted end → IsProof town end (joined (line ∷ lines))
unfolding verdict_along
first_accepted town line [] end h = absurd (refused_bad 1 rules.Missing end (chosen (is_long version_1.limit 0 line (length line)) Long (Refused 1 rules.Missing) (Accepted end) (long_bad end) h).1)
first_accepted town line (next ∷ others) end h =
    let taken_step = step_ok town first_place line (λ place. verdict_along town place next others) end h in
    let found = version_ok town (limit_of town line) taken_step.stage taken_step.is in
    proof_of town end line (joined (next ∷ others)) found.0 (limit_is town line found.0 found.1)
    (subst (λ taken. Proves town found.0 (start town) taken end (joined (next ∷ others))) (zero-add (length line + 1))
    (lines_accepted town found.0 (start town) 2 (0 + (length line + 1)) next others end
    (subst (λ stage. verdict_along town (place_behind first_place line stage) next others ≡ Accepted end) found.2 taken_step.said)))

-- ---- whole proofs

-- bytes that the checker accepts are a proof
pub accepted_is_proof : (town : Town) (end : End) (bytes : List ℕ) → verdict town bytes ≡ Accepted end → IsProof town end bytes
accepted_is_proof town end bytes h =
    let lines = lines_of bytes in
    let first = first_accepted town lines.first lines.others end (sym (ap (over_lines (verdict_along town first_place)) lines.are) ∙ h) in
    subst (IsProof town end) (ap joined (sym lines.are) ∙ join_with_byte-slice_split 10 bytes) first

-- the end of a proof holds
pub proof_holds : (town : Town) (end : End) (bytes : List ℕ) → IsProof town end bytes → EndHolds town end
proof_holds town end bytes (records, inl second) = proved_end town version_2 records end bytes second
proof_holds town end bytes (records, inr (small, first)) = proved_end town version_1 records end bytes first
