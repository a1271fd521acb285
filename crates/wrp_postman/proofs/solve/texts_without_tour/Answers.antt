use Rattle.std.proofs.Common.{◌∙◌, refl}
use Rattle.wrp_postman.proofs.Solutions.{answer_along}
use Rattle.wrp_postman.proofs.solve.texts_without_tour.Goals as goal

pub texts_from-requires : goal.texts_from-requires
texts_from-requires c = (answer_along c.args.town.now _ 0 _ _ c.without_tour.result refl (c.deref.ensures.value ∙ c.in_ok-records.ensures.items) (c.without_tour.ensures c.args.town.now c.args.item 0 c.requires)).listed

pub returns : goal.returns
returns c = λ budget. c.texts_from.ensures budget (answer_along c.args.town.now _ budget _ _ c.without_tour.result refl (c.deref.ensures.value ∙ c.in_ok-records.ensures.items) (c.without_tour.ensures c.args.town.now c.args.item budget c.requires))
