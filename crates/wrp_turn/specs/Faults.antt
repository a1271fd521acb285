-- What a call answers where something may be wrong.
use Rattle.std.specs.Prelude.{◌≡◌, Option, None, Some, Result, Ok, Err}
use Rattle.wrp_turn.specs.declared.fault.TurnFault.{TurnFault}
use Rattle.wrp_turn.specs.declared.fault.TurnFault.TheVariants as faults

-- this fault is what is wrong; want of memory needs no cause
abbrev pub IsCause : TurnFault → Option TurnFault → Type 0
IsCause (faults.Form line) wrong = wrong ≡ Some (faults.Form line)
IsCause (faults.Turn line) wrong = wrong ≡ Some (faults.Turn line)
IsCause (faults.Either street) wrong = wrong ≡ Some (faults.Either street)
IsCause (faults.Size junctions streets) wrong = wrong ≡ Some (faults.Size junctions streets)
IsCause faults.Memory wrong = Unit {0}

-- a value of this kind where nothing is wrong, else what is wrong
abbrev pub Answers : {A : Type 0} → Result A TurnFault → Option TurnFault → (A → Type 0) → Type 0
Answers (Ok x) wrong P = (wrong ≡ None) × P x
Answers (Err fault) wrong P = IsCause fault wrong
