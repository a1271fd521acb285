use Rattle.std.proofs.Common.{◌≡◌, length}
use Rattle.std.specs.List.{list_all}
use Rattle.wrp_grammar.specs.Parts.{parts_of, is_step}
use Rattle.wrp_grammar.proofs.parts.are_steps.Given as goal

abbrev pub invariant-loop-part : goal.invariant-loop-part
invariant-loop-part l = list_all is_step (parts_of l.left) ≡ list_all is_step (parts_of l.line)

abbrev pub decreases-loop-part : goal.decreases-loop-part
decreases-loop-part l = length l.left
