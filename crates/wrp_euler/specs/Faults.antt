-- Why counts have no circuit.
use Rattle.std.specs.Prelude.{ℕ, List}
use Rattle.wrp_town.specs.declared.town.Town.{Town}
use Rattle.wrp_euler.specs.declared.circuits.CircuitFault.{CircuitFault}
use Rattle.wrp_euler.specs.declared.circuits.CircuitFault.TheVariants.{Unbalanced, Apart, Memory}
use Rattle.wrp_euler.specs.Circuits.{IsUnbalanced, AreApart}

-- what a fault says of the counts; want of memory says nothing
abbrev pub IsFaultOf : Town → List ℕ → CircuitFault → Type 0
IsFaultOf town counts (Unbalanced junction) = IsUnbalanced town counts junction
IsFaultOf town counts (Apart first other) = AreApart town counts first other
IsFaultOf town counts Memory = Unit {0}
