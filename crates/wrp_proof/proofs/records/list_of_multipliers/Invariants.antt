use Rattle.std.proofs.Common.{◌≡◌, ◌++◌, true}
use Rattle.wrp_proof.specs.Views.{are_narrow}
use Rattle.wrp_proof.proofs.records.list_of_multipliers.Given as goal

abbrev pub invariant-loop-row : goal.invariant-loop-row
invariant-loop-row l = record { list : l.list ++ l.row-iterator ≡ l.pairs; narrow : are_narrow l.row-iterator ≡ true }
