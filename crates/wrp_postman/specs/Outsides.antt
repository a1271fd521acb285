-- The outside of a run, before or after it, and what a run writes.
use Rattle.std.specs.Prelude.{◌≡◌, ℕ, Bool, true, false, List, Option, None, Some}
use Rattle.wrp_out.specs.Outside.{Input, Output, TookAtMost, Gained, GainedPrefix, WriteStopped}
use Rattle.wrp_postman.specs.declared.status.Status.{Status}
use Rattle.wrp_postman.specs.declared.status.Status.TheVariants.{Optimal, Done, Unfinished, Infeasible, WriteFault}
use Rattle.wrp_postman.specs.Words.{Command, Solve, Check, Draw, Demo}

-- what contracts see of its sources
pub record Sources : Type 0 where
  pub streets : Input
  pub proof_in : Input

-- what contracts see of its sinks
pub record Outputs : Type 0 where
  pub proof_out : Output
  pub out : Output

-- what contracts see of all its objects
pub record Outside : Type 0 where
  pub sources : Sources
  pub outputs : Outputs

abbrev pub sources : Input → Input → Sources
sources streets proof_in = record { streets = streets; proof_in = proof_in }

abbrev pub outputs : Output → Output → Outputs
outputs proof_out out = record { proof_out = proof_out; out = out }

abbrev pub outside : Sources → Outputs → Outside
outside sources outputs = record { sources = sources; outputs = outputs }

-- a part of the text was written, or all of it, and then a write failed or took nothing
abbrev pub IsCut : Output → Output → List ℕ → Type 0
IsCut old new text = GainedPrefix old new text × WriteStopped old new

-- the text was written, or it was cut
abbrev pub Writes : List ℕ → Status → Output → Output → Type 0
Writes text Done old new = Gained old new text
Writes text WriteFault old new = IsCut old new text
Writes text status old new = ⊥

-- a text of this kind was written, or cut
abbrev pub WritesSome : (List ℕ → Type 0) → Status → Output → Output → Type 0
WritesSome kind status old new = (text : List ℕ) × kind text × Writes text status old new

-- ---- the objects of each command

abbrev pub reads_streets : Option Command → Bool
reads_streets None = false
reads_streets (Some (Draw seed width height)) = false
reads_streets (Some (Demo seed width height budget)) = false
reads_streets (Some command) = true

abbrev pub reads_proof : Option Command → Bool
reads_proof (Some (Check streets proof)) = true
reads_proof command = false

-- a proof is written behind a search that has ended
abbrev pub has_searched : Status → Bool
has_searched (Optimal cost) = true
has_searched (Unfinished low high before after) = true
has_searched Infeasible = true
has_searched WriteFault = true
has_searched status = false

abbrev pub writes_proof : Option Command → Status → Bool
writes_proof (Some (Solve streets proof log budget)) status = has_searched status
writes_proof command status = false

-- the sources and the proof that is written are as before where they are no objects of the command
pub record LeavesOthers
    (command : Option Command) (status : Status) (streets proof_in proof_out : Type 0)
    : Type 0 where
  pub streets_unread : reads_streets command ≡ false → streets
  pub proof_unread : reads_proof command ≡ false → proof_in
  pub proof_unwritten : writes_proof command status ≡ false → proof_out

-- so many bytes at most were taken from each source
pub record TakesFew (table proof : ℕ) (old new : Sources) : Type 0 where
  pub streets : TookAtMost table old.streets new.streets
  pub proof_in : TookAtMost proof old.proof_in new.proof_in
