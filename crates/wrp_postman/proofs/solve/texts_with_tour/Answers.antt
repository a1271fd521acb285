use Rattle.std.proofs.Common.{◌∙◌, IfOk, subst}
use Rattle.wrp_town.specs.declared.town.Town.{Town}
use Rattle.wrp_postman.specs.Searches.{AreTexts}
use Rattle.wrp_postman.proofs.Solutions.{answer_along}
use Rattle.wrp_postman.proofs.solve.texts_with_tour.Goals as goal

pub texts_from-requires : goal.texts_from-requires
texts_from-requires c = (answer_along c.args.graph.now _ c.args.budget _ _ c.in_ok-solved.solved c.town-2.ensures (c.records.ensures.value ∙ c.tree.ensures.records) c.in_ok-solved.ensures).listed

pub returns : goal.returns
returns c =
    subst (λ (t : Town). IfOk c.texts_from.result (AreTexts t c.args.budget)) c.town-2.ensures
    (c.texts_from.ensures c.args.budget (answer_along c.args.graph.now _ c.args.budget _ _ c.in_ok-solved.solved c.town-2.ensures (c.records.ensures.value ∙ c.tree.ensures.records) c.in_ok-solved.ensures))
