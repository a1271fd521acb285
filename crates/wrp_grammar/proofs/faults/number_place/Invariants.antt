use Rattle.std.proofs.Common.{◌≡◌, false, take}
use Rattle.wrp_grammar.specs.Shapes.{is_of_kinds}
use Rattle.wrp_grammar.proofs.faults.number_place.Given as goal

abbrev pub invariant-loop-kind : goal.invariant-loop-kind
invariant-loop-kind l = is_of_kinds (take l.kind-index l.kinds) l.line ≡ false
