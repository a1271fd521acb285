use Rattle.std.proofs.Common.{◌∙◌, ap}
use Rattle.wrp_town.proofs.DemandLaws.{demands_from-drop_read, demands_from-drop_end}
use Rattle.wrp_tour.proofs.Rounds.{serving_begins, serving_more, serving_ends, held_next}
use Rattle.wrp_tour.proofs.plain.Round.serve_all.Goals as goal

pub loop-street-init : goal.loop-street-init
loop-street-init c = serving_begins c.args.graph.now c.args.self.now c.requires.round

pub serve_street-requires-clause-held : goal.serve_street-requires-clause-held
serve_street-requires-clause-held c =
    let town = c.args.graph.now in
    let s = c.loop-street.street in
    let items = c.as_slice-item-items.ensures ∙ ap (λ t. t.streets) c.town-town.ensures in
    held_next town c.args.part.now c.args.self.now c.loop-street.self s c.item-item.result.need c.requires.joined c.loop-street.invariant
    (demands_from-drop_read town.streets c.as_slice-item-items.result.now s c.item-item.result items c.loop-street-test.true c.item-item.is)

pub loop-street-preserved : goal.loop-street-preserved
loop-street-preserved c =
    let town = c.args.graph.now in
    let s = c.loop-street.street in
    let items = c.as_slice-item-items.ensures ∙ ap (λ t. t.streets) c.town-town.ensures in
    serving_more town c.args.self.now c.loop-street.self c.serve_street.new.self s c.item-item.result.need c.loop-street.invariant c.in_ok-serve_street.ensures.on
    (demands_from-drop_read town.streets c.as_slice-item-items.result.now s c.item-item.result items c.loop-street-test.true c.item-item.is) c.in_ok-serve_street.ensures.served

pub returns-clause-served : goal.returns-clause-served
returns-clause-served c =
    let town = c.args.graph.now in
    let items = c.as_slice-item-items.ensures ∙ ap (λ t. t.streets) c.town-town.ensures in
    serving_ends town c.args.self.now c.loop-street.self c.loop-street.street c.loop-street.invariant (demands_from-drop_end town.streets c.as_slice-item-items.result.now c.loop-street.street items c.loop-street-test.false)
