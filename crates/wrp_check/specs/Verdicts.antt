-- What the checker says of the bytes of a proof: the end that they prove, or the first line that
-- breaks a rule and the first rule that it breaks, or that a line or the whole is too long. Each
-- line is one step from a place to the next, or to the verdict.
use Rattle.std.specs.Prelude.{◌≡◌, ℕ, ◌+◌, Bool, ◌&&◌, ◌||◌, if◌then◌else◌, ◌==◌, nat_lt, List, [], ◌∷◌, length, Option, None, Some, Result, Ok, Err, IfSome}
use Rattle.std.specs.List.{slice_split}
use Rattle.std.specs.Str.{bytes_eq}
use Rattle.wrp_out.specs.Outside.{Input}
use Rattle.wrp_town.specs.declared.town.Town.{Town}
use Rattle.wrp_town.specs.Arcs.{is_small}
use Rattle.wrp_rules.specs.declared.record.Record.{Record}
use Rattle.wrp_rules.specs.declared.record.End.{End}
use Rattle.wrp_rules.specs.declared.rule.Rule.{Rule}
use Rattle.wrp_rules.specs.declared.rule.Rule.TheVariants as rules
use Rattle.wrp_rules.specs.Nodes.{Standing, start, after}
use Rattle.wrp_rules.specs.Proofs.{version_1, version_2, line_feed}
use Rattle.wrp_check.specs.declared.pass.CheckFault.{CheckFault}
use Rattle.wrp_check.specs.declared.pass.CheckFault.TheVariants as faults
use Rattle.wrp_rules.specs.Proofs.{most_bytes}
use Rattle.wrp_proof.specs.JudgedLines.{judged_line, judged_end, is_end}

-- the end, the line and its rule, or too long
pub data Verdict : Type 0 where
  Accepted : (end : End) → Verdict
  Refused : (line : ℕ) (rule : Rule) → Verdict
  Long : Verdict

-- what comes next: the version line; the line of a record or of the end, of at most so many bytes,
-- behind what stands; or nothing more, behind the end
pub data Stage : Type 0 where
  First : Stage
  Next : (limit : ℕ) (s : Standing) → Stage
  Over : (end : End) → Stage

-- where the pass stands: what comes next, the number of the line, and how many bytes are before it
pub record Place : Type 0 where
  pub stage : Stage
  pub line : ℕ
  pub taken : ℕ

-- ---- one line

-- the limit of the lines that a version line sets
abbrev pub limit_of : Town → List ℕ → Option ℕ
limit_of town line =
    if bytes_eq line version_2.line then Some version_2.limit
    else if bytes_eq line version_1.line && is_small town then Some version_1.limit
    else None

abbrev pub stage_of : Town → Option ℕ → Result Stage Rule
stage_of town None = Err rules.Start
stage_of town (Some limit) = Ok (Next limit (start town))

-- behind the line of a record and behind an end line
abbrev pub next_stage : Town → ℕ → Standing → Result Record Rule → Result Stage Rule
next_stage town limit s (Ok item) = Ok (Next limit (after town s item))
next_stage town limit s (Err rule) = Err rule

abbrev pub last_stage : Result End Rule → Result Stage Rule
last_stage (Ok end) = Ok (Over end)
last_stage (Err rule) = Err rule

-- what comes behind the next line, or the rule that this line breaks
abbrev pub stage_behind : Town → Stage → List ℕ → Result Stage Rule
stage_behind town First line = stage_of town (limit_of town line)
stage_behind town (Next limit s) line =
    if is_end line then last_stage (judged_end s line)
    else next_stage town limit s (judged_line town s line)
stage_behind town (Over end) line = Err rules.After

-- a line is above its limit, or so many bytes before it and its own pass the greatest number
abbrev pub is_long : ℕ → ℕ → List ℕ → ℕ → Bool
is_long limit taken line own = nat_lt limit (length line) || nat_lt most_bytes (taken + own)

-- the next line is too long; behind the end the first byte is one too many
abbrev pub is_too_long : Stage → ℕ → List ℕ → ℕ → Bool
is_too_long First taken line own = is_long version_1.limit taken line own
is_too_long (Next limit s) taken line own = is_long limit taken line own
is_too_long (Over end) taken line own = taken == most_bytes

-- the place behind a line with its line feed
abbrev pub behind : Place → List ℕ → Result Stage Rule → Result Place Verdict
behind place line (Ok stage) =
    Ok (record { stage = stage; line = place.line + 1; taken = place.taken + (length line + 1) })
behind place line (Err rule) = Err (Refused place.line rule)

-- one step: a line with its line feed leads to the next place, or decides the verdict
abbrev pub step : Town → Place → List ℕ → Result Place Verdict
step town place line =
    if is_too_long place.stage place.taken line (length line + 1) then Err Long
    else behind place line (stage_behind town place.stage line)

-- the rule that a line breaks by having no line feed
abbrev pub unended_rule : Stage → Rule
unended_rule (Over end) = rules.After
unended_rule stage = rules.Missing

-- the last step: what stands behind the last line feed decides the verdict
abbrev pub last_step : Stage → ℕ → ℕ → List ℕ → Verdict
last_step (Over end) number taken [] = Accepted end
last_step stage number taken line =
    if is_too_long stage taken line (length line) then Long else Refused number (unended_rule stage)

-- ---- all lines

abbrev pub follow : (Place → Verdict) → Result Place Verdict → Verdict
follow verdict_at (Ok place) = verdict_at place
follow verdict_at (Err said) = said

-- one step after the other
unfoldable pub verdict_along : Town → Place → List ℕ → List (List ℕ) → Verdict
verdict_along town place line [] = last_step place.stage place.line place.taken line
verdict_along town place line (next ∷ others) =
    follow (λ behind. verdict_along town behind next others) (step town place line)

-- the lines of these bytes: what stands between line feeds
abbrev pub is_feed : ℕ → Bool
is_feed byte = byte == line_feed

abbrev pub lines_in : List ℕ → List (List ℕ)
lines_in bytes = slice_split is_feed bytes

abbrev pub over_lines : (List ℕ → List (List ℕ) → Verdict) → List (List ℕ) → Verdict
over_lines verdict_of [] = verdict_of [] []
over_lines verdict_of (line ∷ others) = verdict_of line others

-- what the checker says of these bytes from a place on, and of a whole proof
abbrev pub verdict_on : Town → Place → List ℕ → Verdict
verdict_on town place bytes = over_lines (verdict_along town place) (lines_in bytes)

abbrev pub first_place : Place
first_place = record { stage = First; line = 1; taken = 0 }

abbrev pub verdict : Town → List ℕ → Verdict
verdict town bytes = verdict_on town first_place bytes

-- ---- the answer

-- the answer is this verdict, unless memory or a read failed
abbrev pub FaultIs : CheckFault → Verdict → Type 0
FaultIs (faults.Refused line rule) said = said ≡ Refused line rule
FaultIs faults.TooLong said = said ≡ Long
FaultIs fault said = Unit {0}

abbrev pub AnswerIs : Result End CheckFault → Verdict → Type 0
AnswerIs (Ok end) said = said ≡ Accepted end
AnswerIs (Err fault) said = FaultIs fault said

-- a fault is the verdict on what an input has left, where it tells that
abbrev pub FaultOn : Town → Place → Input → CheckFault → Type 0
FaultOn town place input fault =
    IfSome input.left (λ bytes. FaultIs fault (verdict_on town place bytes))
