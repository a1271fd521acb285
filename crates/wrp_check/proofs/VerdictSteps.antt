-- What the checker says of bytes, line by line.
use Rattle.std.proofs.Common.{inl, inr, ◌⊎◌, ◌≡◌, ◌≢◌, ℕ, ◌+◌, ◌^◌, Bool, true, false, cond, ◌==◌, List, [], ◌∷◌, ◌++◌, length, Some, Ok, Err, refl, ap, ◌∙◌, subst, zero-add}
use Rattle.wrp_town.specs.declared.town.Town.{Town}
use Rattle.wrp_rules.specs.declared.record.Record.{Record}
use Rattle.wrp_rules.specs.declared.record.End.{End}
use Rattle.wrp_rules.specs.declared.rule.Rule.{Rule}
use Rattle.wrp_rules.specs.declared.rule.Rule.TheVariants as rules
use Rattle.wrp_rules.specs.Nodes.{Standing, start, after}
use Rattle.wrp_rules.specs.Proofs.{version_1}
use Rattle.wrp_rules.specs.Proofs.{most_bytes}
use Rattle.wrp_check.specs.Streams.{is_one_line, PassesLimit}
use Rattle.wrp_proof.specs.JudgedLines.{judged_line, judged_end, is_end}
use Rattle.wrp_check.specs.Verdicts.{Verdict, Accepted, Refused, Long, Stage, First, Next, Over, Place, limit_of, is_long, is_too_long, stage_behind, behind, step, last_step, follow, verdict_along, lines_in, over_lines, verdict_on, first_place, verdict}
use Rattle.wrp_check.proofs.LineCuts.{lines-more, lines-one, some_lines, FirstLine, first_line, long-more, long-one}

along-lines : (town : Town) (place : Place) (line : List ℕ) (lines : List (List ℕ)) → (lines ≡ [] → ⊥) → over_lines (verdict_along town place) (line ∷ lines) ≡ follow (λ next. over_lines (verdict_along town next) lines) (step town place line)
unfolding verdict_along
along-lines town place line [] some = absurd (some refl)
along-lines town place line (next ∷ others) some = refl

along-last : (town : Town) (place : Place) (line : List ℕ) → verdict_along town place line [] ≡ last_step place.stage place.line place.taken line
unfolding verdict_along
along-last town place line = refl

-- a line with its line feed is one step, and what stands behind it is judged from there
pub on-line : (town : Town) (place : Place) (line rest : List ℕ) → is_one_line line ≡ true → verdict_on town place (line ++ 10 ∷ rest) ≡ follow (λ next. verdict_on town next rest) (step town place line)
on-line town place line rest one =
    ap (over_lines (verdict_along town place)) (lines-more line rest one) ∙ along-lines town place line (lines_in rest) (some_lines rest)

-- a line with no line feed is the last step
pub on-last : (town : Town) (place : Place) (line : List ℕ) → is_one_line line ≡ true → verdict_on town place line ≡ last_step place.stage place.line place.taken line
on-last town place line one = ap (over_lines (verdict_along town place)) (lines-one line one) ∙ along-last town place line

-- the place behind this line, where this comes next
abbrev pub place_behind : Place → List ℕ → Stage → Place
place_behind place line stage = record { stage = stage; line = place.line + 1; taken = place.taken + (length line + 1) }

module _ (town : Town) (place : Place) (line rest : List ℕ) (one : is_one_line line ≡ true) where
  pub step-goes : (stage : Stage) → is_too_long place.stage place.taken line (length line + 1) ≡ false → stage_behind town place.stage line ≡ Ok stage → verdict_on town place (line ++ 10 ∷ rest) ≡ verdict_on town (place_behind place line stage) rest
  step-goes stage short is = on-line town place line rest one ∙ rw (short, is) refl

  pub step-refused : (rule : Rule) → is_too_long place.stage place.taken line (length line + 1) ≡ false → stage_behind town place.stage line ≡ Err rule → verdict_on town place (line ++ 10 ∷ rest) ≡ Refused place.line rule
  step-refused rule short is = on-line town place line rest one ∙ rw (short, is) refl

  pub step-long : is_too_long place.stage place.taken line (length line + 1) ≡ true → verdict_on town place (line ++ 10 ∷ rest) ≡ Long
  step-long long = on-line town place line rest one ∙ rw long refl

-- ---- before the end

-- lines of at most so many bytes come next
pub record IsOpen (stage : Stage) (limit : ℕ) : Type 0 where
  pub long : (taken own : ℕ) (line : List ℕ) → is_too_long stage taken line own ≡ is_long limit taken line own
  pub last : (number taken : ℕ) (line : List ℕ) → last_step stage number taken line ≡ cond (is_long limit taken line (length line)) Long (Refused number rules.Missing)

pub open_first : IsOpen First (2 ^ 24)
open_first = record { long = λ taken own line. refl; last = λ number taken line. refl }

pub open_next : (limit : ℕ) (s : Standing) → IsOpen (Next limit s) limit
open_next limit s = record { long = λ taken own line. refl; last = λ number taken line. refl }

module _ (town : Town) (place : Place) (limit : ℕ) (open_at : IsOpen place.stage limit) where
  -- a last line breaks the rule that each has a line feed
  pub verdict-missing : (line : List ℕ) → is_one_line line ≡ true → is_long limit place.taken line (length line) ≡ false → verdict_on town place line ≡ Refused place.line rules.Missing
  verdict-missing line one short = on-last town place line one ∙ open_at.last place.line place.taken line ∙ rw short refl

  -- bytes that pass the limit are too long
  pub verdict-passes : (bytes : List ℕ) → PassesLimit limit place.taken bytes → verdict_on town place bytes ≡ Long
  verdict-passes bytes passes = by_line (first_line bytes)
    where
      by_line : FirstLine bytes ⊎ (is_one_line bytes ≡ true) → verdict_on town place bytes ≡ Long
      by_line (inl found) =
          ap (verdict_on town place) found.same
          ∙ step-long town place found.line found.rest found.one
          (open_at.long place.taken (length found.line + 1) found.line
          ∙ long-more limit place.taken found.line found.rest found.one (subst (PassesLimit limit place.taken) found.same passes))
      by_line (inr one) = on-last town place bytes one ∙ open_at.last place.line place.taken bytes ∙ rw (long-one limit place.taken bytes one passes) refl

-- ---- behind the end

abbrev pub after_end : End → ℕ → ℕ → Place
after_end end number taken = record { stage = Over end; line = number; taken = taken }

-- nothing may stand there
pub verdict-closed : (town : Town) (end : End) (number taken : ℕ) → verdict_on town (after_end end number taken) [] ≡ Accepted end
verdict-closed town end number taken = on-last town (after_end end number taken) [] refl

pub verdict-after : (town : Town) (end : End) (number taken : ℕ) (rest : List ℕ) → rest ≢ [] → verdict_on town (after_end end number taken) rest ≡ cond (taken == most_bytes) Long (Refused number rules.After)
verdict-after town end number taken rest some = by_line (first_line rest)
  where
    place : Place
    place = after_end end number taken

    by_test : (b : Bool) (line : List ℕ) (next : Place → Verdict) → follow next (cond b (Err Long) (behind place line (Err rules.After))) ≡ cond b Long (Refused number rules.After)
    by_test true line next = refl
    by_test false line next = refl

    last : (bytes : List ℕ) → bytes ≢ [] → last_step (Over end) number taken bytes ≡ cond (taken == most_bytes) Long (Refused number rules.After)
    last [] some = absurd (some refl)
    last (byte ∷ bytes) some = refl

    by_line : FirstLine rest ⊎ (is_one_line rest ≡ true) → verdict_on town (after_end end number taken) rest ≡ cond (taken == most_bytes) Long (Refused number rules.After)
    by_line (inl found) =
        ap (verdict_on town (after_end end number taken)) found.same
        ∙ on-line town (after_end end number taken) found.line found.rest found.one
        ∙ by_test (taken == most_bytes) found.line (λ next. verdict_on town next found.rest)
    by_line (inr one) = on-last town (after_end end number taken) rest one ∙ last rest some

-- ---- the lines of a proof

abbrev pub behind_records : ℕ → Standing → ℕ → ℕ → Place
behind_records limit s number taken = record { stage = Next limit s; line = number; taken = taken }

module _ (town : Town) (limit : ℕ) (s : Standing) (number taken : ℕ) (line rest : List ℕ) (one : is_one_line line ≡ true) (short : is_long limit taken line (length line + 1) ≡ false) where
  -- a record that keeps the rules: the checker goes on behind it
  pub verdict-goes : (item : Record) → is_end line ≡ false → judged_line town s line ≡ Ok item → verdict_on town (behind_records limit s number taken) (line ++ 10 ∷ rest) ≡ verdict_on town (behind_records limit (after town s item) (number + 1) (taken + (length line + 1))) rest
  verdict-goes item record_line judged = step-goes town (behind_records limit s number taken) line rest one (Next limit (after town s item)) short (rw (record_line, judged) refl)

  -- an end that agrees, with nothing behind it
  pub verdict-accepted : (end : End) → is_end line ≡ true → judged_end s line ≡ Ok end → rest ≡ [] → verdict_on town (behind_records limit s number taken) (line ++ 10 ∷ rest) ≡ Accepted end
  verdict-accepted end end_line judged none =
      step-goes town (behind_records limit s number taken) line rest one (Over end) short (rw (end_line, judged) refl)
      ∙ ap (verdict_on town (after_end end (number + 1) (taken + (length line + 1)))) none
      ∙ verdict-closed town end (number + 1) (taken + (length line + 1))

-- the version line
pub verdict-started : (town : Town) (line rest : List ℕ) (limit : ℕ) → is_one_line line ≡ true → is_long version_1.limit 0 line (length line + 1) ≡ false → limit_of town line ≡ Some limit → verdict town (line ++ 10 ∷ rest) ≡ verdict_on town (behind_records limit (start town) 2 (length line + 1)) rest
verdict-started town line rest limit one short is =
    step-goes town first_place line rest one (Next limit (start town)) short (rw is refl)
    ∙ ap (λ taken. verdict_on town (behind_records limit (start town) 2 taken) rest) (zero-add (length line + 1))
