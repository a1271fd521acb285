-- What contracts see of an outside object: one value, with what it tells of its bytes (None where
-- it tells nothing) and its counts. Each relation is between the value before a call, or before
-- several, and the value after.
use Rattle.std.specs.Prelude.{◌≡◌, ℕ, ◌≤◌, ◌⊎◌, ◌↔◌, List, [], ◌++◌, length, take, Option, None, IfSome}
use Rattle.std.specs.Option.{option_map}
use Rattle.wrp_out.specs.Counts.{NeverFalls, Rose}

-- where bytes are told, they are these
abbrev pub Tells : Option (List ℕ) → List ℕ → Type 0
Tells told bytes = IfSome told (λ all. all ≡ bytes)

-- ---- sources

-- a source: the bytes that are left, and how often a read has failed
pub record Input : Type 0 where
  pub left : Option (List ℕ)
  pub faults : ℕ

-- these bytes were taken from the front of what is left, and the count of faults did not fall
pub record Took (old new : Input) (bytes : List ℕ) : Type 0 where
  pub front : old.left ≡ option_map (λ left. bytes ++ left) new.left
  pub faults : NeverFalls old.faults new.faults

-- some bytes were taken, at most so many
pub record TookAtMost (most : ℕ) (old new : Input) : Type 0 where
  pub piece : List ℕ
  pub took : Took old new piece
  pub few : length piece ≤ most

-- the count of faults rose
abbrev pub FaultRose : Input → Input → Type 0
FaultRose old new = Rose old.faults new.faults

-- a read failed: nothing was taken, and the count of faults rose
pub record ReadFailed (old new : Input) : Type 0 where
  pub nothing : Took old new []
  pub rose : FaultRose old new

-- a read of a piece that isn't empty answers 0 exactly at the end of the input, where it is told
abbrev pub IsZeroAtEnd : Input → ℕ → Type 0
IsZeroAtEnd old count = IfSome old.left (λ bytes. count ≡ 0 ↔ (bytes ≡ []))

-- ---- sinks

-- a sink: the bytes that were written, how often a write has failed, and how often one of a piece
-- that isn't empty took nothing
pub record Output : Type 0 where
  pub written : Option (List ℕ)
  pub faults : ℕ
  pub empties : ℕ

-- a sink that tells nothing of its bytes
abbrev pub untold : ℕ → ℕ → Output
untold faults empties = record { written = None; faults = faults; empties = empties }

-- these bytes were added at the end of what was written, and no count fell
pub record Gained (old new : Output) (bytes : List ℕ) : Type 0 where
  pub back : new.written ≡ option_map (λ written. written ++ bytes) old.written
  pub faults : NeverFalls old.faults new.faults
  pub empties : NeverFalls old.empties new.empties

-- some first bytes of these were added
pub record GainedPrefix (old new : Output) (bytes : List ℕ) : Type 0 where
  pub count : ℕ
  pub gained : Gained old new (take count bytes)

-- a write failed: nothing was added, and the count of faults rose
pub record WriteFailed (old new : Output) : Type 0 where
  pub nothing : Gained old new []
  pub rose : Rose old.faults new.faults

-- a write of a piece that isn't empty took nothing: the count of empty takes rose
abbrev pub EmptyTake : Output → Output → Type 0
EmptyTake old new = Rose old.empties new.empties

-- a write failed, or one of a piece that isn't empty took nothing
abbrev pub WriteStopped : Output → Output → Type 0
WriteStopped old new = Rose old.faults new.faults ⊎ EmptyTake old new
