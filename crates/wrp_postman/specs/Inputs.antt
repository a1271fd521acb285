-- Reading a whole source.
use Rattle.std.specs.Prelude.{◌≡◌, ℕ, ◌<◌, ◌≤◌, List, [], ◌++◌, length, IfSome}
use Rattle.wrp_out.specs.Outside.{Input, Tells, Took, FaultRose}
use Rattle.wrp_postman.specs.declared.input.InputFault.{InputFault}
use Rattle.wrp_postman.specs.declared.input.InputFault.TheVariants.{TooLong, Read, Memory}

-- so many bytes were taken from the source and added at the end of the list
pub record Adds (old new : Input) (before after : List ℕ) (count : ℕ) : Type 0 where
  pub piece : List ℕ
  pub size : length piece ≡ count
  pub took : Took old new piece
  pub grown : after ≡ before ++ piece

-- why a piece was not read: a read failed; want of memory is free
abbrev pub Fails : Input → Input → InputFault → Type 0
Fails old new TooLong = ⊥
Fails old new Read = FaultRose old new
Fails old new Memory = Unit {0}

-- these are all bytes of the source, no more than the limit, and none is left
pub record IsWhole (limit : ℕ) (old new : Input) (bytes : List ℕ) : Type 0 where
  pub told : Tells old.left bytes
  pub end : Tells new.left []
  pub short : length bytes ≤ limit

-- why a source was not read to its end: it holds more bytes than the limit, or a piece was not read
abbrev pub Stops : ℕ → Input → Input → InputFault → Type 0
Stops limit old new TooLong = IfSome old.left (λ bytes. limit < length bytes)
Stops limit old new fault = Fails old new fault
