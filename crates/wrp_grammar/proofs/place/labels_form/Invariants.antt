use Rattle.std.proofs.Common.{◌≡◌, ◌≤◌, length}
use Rattle.wrp_grammar.specs.Parts.{parts_of}
use Rattle.wrp_grammar.specs.Shapes.{has_labels_shape}
use Rattle.wrp_grammar.proofs.LeftFronts.{Lifts}
use Rattle.wrp_grammar.proofs.place.labels_form.Given as goal

abbrev pub invariant-loop-part : goal.invariant-loop-part
invariant-loop-part l = record {
  rest : has_labels_shape (parts_of l.left) ≡ has_labels_shape (parts_of l.line);
  within : length l.left ≤ length l.line;
  lifts : Lifts has_labels_shape l.line l.left;
}

abbrev pub decreases-loop-part : goal.decreases-loop-part
decreases-loop-part l = length l.left
