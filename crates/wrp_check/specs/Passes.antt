-- How the checker passes over the lines of a proof.
use Rattle.std.specs.Prelude.{◌≡◌, ◌≢◌, ℕ, ◌+◌, ◌<◌, ◌≤◌, true, false, List, [], ◌∷◌, ◌++◌, length, Option, None, Some, Result, Ok, Err}
use Rattle.wrp_out.specs.Outside.{Input, Took, Tells}
use Rattle.wrp_town.specs.declared.town.Town.{Town}
use Rattle.wrp_rules.specs.declared.record.End.{End}
use Rattle.wrp_rules.specs.declared.rule.Rule.TheVariants as rules
use Rattle.wrp_rules.specs.Nodes.{Standing, start}
use Rattle.wrp_rules.specs.Proofs.{version_2, line_feed}
use Rattle.wrp_check.specs.declared.pass.CheckFault.{CheckFault}
use Rattle.wrp_check.specs.declared.pass.CheckFault.TheVariants as faults
use Rattle.wrp_check.specs.declared.pass.Progress.{Progress}
use Rattle.wrp_rules.specs.Proofs.{most_bytes}
use Rattle.wrp_check.specs.Streams.{Buffered, ahead, is_one_line, PassesLimit}
use Rattle.wrp_check.specs.Verdicts.{Place, Next, Accepted, is_long, verdict, verdict_on, FaultOn}
use Rattle.wrp_check.specs.Judging.{IsReady, Stands}

-- ---- one line

-- a line with its line feed was handed out, and is not too long
pub record TakesLine (limit : ℕ) (old new : Buffered) (before after : Input) : Type 0 where
  pub took : Took (ahead old before) (ahead new after) (new.line ++ line_feed ∷ [])
  pub one_line : is_one_line new.line ≡ true
  pub short : is_long limit old.taken new.line (length new.line + 1) ≡ false
  pub taken : new.taken ≡ old.taken + (length new.line + 1)

-- no such line was taken: the bytes end before a line feed, or a limit is passed
abbrev pub Unread : CheckFault → ℕ → ℕ → ℕ → List ℕ → Type 0
Unread (faults.Refused line rule) limit number taken bytes =
    (line ≡ number) × (rule ≡ rules.Missing) × (is_one_line bytes ≡ true)
    × (is_long limit taken bytes (length bytes) ≡ false)
Unread faults.TooLong limit number taken bytes = PassesLimit limit taken bytes
Unread fault limit number taken bytes = Unit {0}

-- something stands behind the end line
abbrev pub Behind : CheckFault → ℕ → ℕ → List ℕ → Type 0
Behind (faults.Refused line rule) number taken rest =
    (line ≡ number) × (rule ≡ rules.After) × (rest ≢ []) × (taken < most_bytes)
Behind faults.TooLong number taken rest = (taken ≡ most_bytes) × (rest ≢ [])
Behind fault number taken rest = Unit {0}

-- the place behind the version line, where lines of at most so many bytes come next
abbrev pub behind_version : Town → ℕ → ℕ → Place
behind_version town limit taken =
    record { stage = Next limit (start town); line = 2; taken = taken }

-- the version line was taken, and what is left decides the verdict
pub record Begins (town : Town) (limit : ℕ) (old new : Buffered) (before after : Input)
    : Type 0 where
  pub small : limit ≤ version_2.limit
  pub most : new.taken ≤ most_bytes
  pub piece : List ℕ
  pub took : Took (ahead old before) (ahead new after) piece
  pub same : (rest : List ℕ)
      → verdict town (piece ++ rest) ≡ verdict_on town (behind_version town limit new.taken) rest

-- ---- the pass

-- the place at which it stands, where these records stand
abbrev pub place_of : Progress → Standing → Place
place_of pass s = record { stage = Next pass.limit s; line = pass.number; taken = pass.lines.taken }

-- it may read the next line
pub record IsUnderWay (town : Town) (pass : Progress) : Type 0 where
  pub ready : IsReady town pass.judge
  pub limit : pass.limit ≤ version_2.limit
  pub number : pass.number ≤ pass.lines.taken + 2
  pub most : pass.lines.taken ≤ most_bytes

-- it may read one more line, behind some more bytes
pub record MovesOn (town : Town) (old new : Progress) : Type 0 where
  pub under_way : IsUnderWay town new
  pub more : old.lines.taken < new.lines.taken

-- the line of one more record was taken, and what is left decides the verdict
pub record GoesOn (town : Town) (s : Standing) (old new : Progress) (before after : Input)
    : Type 0 where
  pub piece : List ℕ
  pub took : Took (ahead old.lines before) (ahead new.lines after) piece
  pub next : Standing
  pub stands : Stands town next new.judge
  pub same : (rest : List ℕ)
      → verdict_on town (place_of old s) (piece ++ rest) ≡ verdict_on town (place_of new next) rest

-- the end line was taken, nothing is left, and the end is accepted
pub record Closes (town : Town) (s : Standing) (old new : Progress) (before after : Input)
    (end : End) : Type 0 where
  pub piece : List ℕ
  pub took : Took (ahead old.lines before) (ahead new.lines after) piece
  pub empty : Tells (ahead new.lines after).left []
  pub said : verdict_on town (place_of old s) piece ≡ Accepted end

-- one line was taken, whatever records stand: of one more, or of the end; or it decides the verdict
abbrev pub Steps : Town → Progress → Progress → Input → Input
    → Result (Option End) CheckFault → Type 0
Steps town old new before after (Ok None) =
    (s : Standing) → Stands town s old.judge → GoesOn town s old new before after
Steps town old new before after (Ok (Some end)) =
    (s : Standing) → Stands town s old.judge → Closes town s old new before after end
Steps town old new before after (Err fault) =
    (s : Standing) → Stands town s old.judge
    → FaultOn town (place_of old s) (ahead old.lines before) fault

-- the first lines of the proof were taken, and what is left decides the verdict
pub record Reaches (town : Town) (first : Input) (pass : Progress) (now : Input) : Type 0 where
  pub piece : List ℕ
  pub took : Took first (ahead pass.lines now) piece
  pub s : Standing
  pub stands : Stands town s pass.judge
  pub same : (rest : List ℕ) → verdict town (piece ++ rest) ≡ verdict_on town (place_of pass s) rest

-- all bytes of the proof, whose verdict is the end
pub record Whole (town : Town) (first : Input) (end : End) : Type 0 where
  pub bytes : List ℕ
  pub tells : Tells first.left bytes
  pub said : verdict town bytes ≡ Accepted end
