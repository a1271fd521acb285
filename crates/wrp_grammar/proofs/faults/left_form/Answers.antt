use Rattle.std.proofs.Common.{sym, ◌∙◌}
use Rattle.wrp_grammar.proofs.LineFronts.{left-other}
use Rattle.wrp_grammar.proofs.faults.left_form.Goals as goal

pub returns-else-goes_on_with_space-clause-front : goal.returns-else-goes_on_with_space-clause-front
returns-else-goes_on_with_space-clause-front c =
    (left-other c.args.numbers.now c.args.tail c.args.left.now (sym c.goes_on_with_space.ensures ∙ c.if-goes_on_with_space.false)).front
