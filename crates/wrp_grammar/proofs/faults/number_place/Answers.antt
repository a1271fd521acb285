use Rattle.std.proofs.Common.{sym, ap, not, ◌∙◌}
use Rattle.std.proofs.lemmas.Bool.{not-true}
use Rattle.wrp_grammar.proofs.LineNumbers.{kinds-first, kinds-more}
use Rattle.wrp_grammar.proofs.faults.number_place.Goals as goal

pub returns-then-is_none-clause-first : goal.returns-then-is_none-clause-first
returns-then-is_none-clause-first c =
    kinds-first c.args.kinds.now c.args.line.now c.loop-kind.kind-index c.kind_number.result _ c.loop-kind-test.true c.requires.wrong c.kind_number.ensures.first

pub loop-kind-preserved : goal.loop-kind-preserved
loop-kind-preserved c =
    kinds-more c.args.kinds.now c.args.line.now c.loop-kind.kind-index _ c.loop-kind-test.true c.loop-kind.invariant
    (not-true _ (sym c.kind_form.ensures.broken ∙ c.is_none.ensures ∙ ap not c.if-is_none.false))
