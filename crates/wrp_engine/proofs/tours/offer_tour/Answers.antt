use Rattle.std.proofs.Common.{◌∙◌, length, ap, arith}
use Rattle.wrp_tour.proofs.LeanTours.{few_steps, lean_writable}
use Rattle.wrp_engine.proofs.Adding.{tour_at_most}
use Rattle.wrp_engine.proofs.OfferedTours.{cost_is, offered_upper}
use Rattle.wrp_engine.proofs.tours.offer_tour.Goals as goal

pub walk_cost-requires : goal.walk_cost-requires
walk_cost-requires g c = omega (arith, ap length c.as_slice.ensures, few_steps c.args.keep.now.town c.args.steps c.requires.lean)

pub offer-requires-clause-writable : goal.offer-requires-clause-writable
offer-requires-clause-writable g c =
    let town = c.town.ensures ∙ c.rows.ensures.town ∙ c.tree.ensures.town in
    let cost = cost_is c.args.keep.now.town c.town.result.now c.args.steps c.as_slice.result.now c.walk_cost.result c.unwrap_or-cost.result c.requires.lean town c.as_slice.ensures c.walk_cost.ensures c.unwrap_or-cost.ensures in
    rw cost (lean_writable c.args.keep.now.town c.args.steps c.requires.lean)

pub returns-clause-upper : goal.returns-clause-upper
returns-clause-upper g c =
    let town = c.town.ensures ∙ c.rows.ensures.town ∙ c.tree.ensures.town in
    let cost = cost_is c.args.keep.now.town c.town.result.now c.args.steps c.as_slice.result.now c.walk_cost.result c.unwrap_or-cost.result c.requires.lean town c.as_slice.ensures c.walk_cost.ensures c.unwrap_or-cost.ensures in
    offered_upper c.args.keep.now c.offer.new.keep c.unwrap_or-cost.result c.args.steps c.requires.lean c.requires.going.valid cost c.in_ok-offer.ensures.leaves.0.town
    c.in_ok-offer.field-0 c.in_ok-offer.ensures.offers

pub returns-in_err-offer-clause-adds : goal.returns-in_err-offer-clause-adds
returns-in_err-offer-clause-adds g c = tour_at_most c.args.keep.now c.offer.new.keep c.unwrap_or-cost.result c.args.steps c.in_err-offer.ensures.at_most

pub returns-clause-adds : goal.returns-clause-adds
returns-clause-adds g c = tour_at_most c.args.keep.now c.offer.new.keep c.unwrap_or-cost.result c.args.steps c.in_ok-offer.ensures.at_most
