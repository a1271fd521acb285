use Rattle.std.proofs.Common.{◌≤◌, length}
use Rattle.wrp_grammar.proofs.LabelLists.{IsBeforeSlash}
use Rattle.wrp_grammar.proofs.labels.label_halves.Given as goal

abbrev pub invariant-loop-part : goal.invariant-loop-part
invariant-loop-part l = record { cut : IsBeforeSlash l.line l.left; within : length l.left ≤ length l.line }

abbrev pub decreases-loop-part : goal.decreases-loop-part
decreases-loop-part l = length l.left
