use Rattle.wrp_grammar.proofs.LineFronts.{LeavesFirst}
use Rattle.wrp_grammar.proofs.faults.form_place.Given as goal

abbrev pub invariant-loop-kind : goal.invariant-loop-kind
invariant-loop-kind l = LeavesFirst l.kinds l.line l.kind-index l.front
