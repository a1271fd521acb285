use Rattle.std.proofs.Common.{◌≡◌, ◌≤◌, length}
use Rattle.std.specs.List.{list_all}
use Rattle.wrp_grammar.specs.Parts.{parts_of}
use Rattle.wrp_grammar.specs.Shapes.{is_part_of}
use Rattle.wrp_grammar.proofs.LeftFronts.{Lifts}
use Rattle.wrp_grammar.proofs.place.list_form.Given as goal

abbrev pub invariant-loop-part : goal.invariant-loop-part
invariant-loop-part l = record {
  rest : list_all (is_part_of l.tail) (parts_of l.left) ≡ list_all (is_part_of l.tail) (parts_of l.line);
  within : length l.left ≤ length l.line;
  lifts : Lifts (list_all (is_part_of l.tail)) l.line l.left;
}

abbrev pub decreases-loop-part : goal.decreases-loop-part
decreases-loop-part l = length l.left
