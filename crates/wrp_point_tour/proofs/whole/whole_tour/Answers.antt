use Rattle.std.proofs.Common.{◌≡◌, length, ap, sym, ◌∙◌, subst}
use Rattle.wrp_town.specs.declared.town.Town.{Town}
use Rattle.wrp_town.specs.Arcs.{demands}
use Rattle.wrp_point_tour.specs.PointTours.{IsWhole}
use Rattle.wrp_point_tour.specs.Counts.{AreTimes}
use Rattle.wrp_point_tour.proofs.Times.{size_positive}
use Rattle.wrp_point_tour.proofs.Scaled.{number_is, tour_counts}
use Rattle.wrp_point_tour.proofs.Costs.{IfOk-both, found_costs}
use Rattle.wrp_point_tour.proofs.whole.whole_tour.Goals as goal

pub returns-in-Some-clause-whole : goal.returns-in-Some-clause-whole
returns-in-Some-clause-whole c =
    let town = c.args.graph.now in
    let point = c.args.point.now in
    let most = c.demand_count.result in
    let counts = c.deref.result.now in
    let lent : counts ≡ c.in-Some.counts.items = c.deref.ensures.value in
    let long : length counts ≡ length point.at = ap length lent ∙ (rw c.in-Some.is at c.in_ok-counts.ensures.long) in
    let are : AreTimes point most counts = subst (AreTimes point most) (sym lent) (rw c.in-Some.is at c.in_ok-counts.ensures.times) in
    IfOk-both c.tour_of_piece.result _ _ _ c.tour_of_piece.ensures.lean c.tour_of_piece.ensures.whole
    (λ found lean uses is.
    found_costs town point counts found (number_is town point most counts long are) lean
    (uses (tour_counts town point most counts long are (size_positive point.den c.requires.point.positive) is)))

pub returns-in-None-clause-whole : goal.returns-in-None-clause-whole
returns-in-None-clause-whole c = λ is.
    let most : c.demand_count.result ≡ length (demands c.args.graph.now) = c.demand_count.ensures ∙ ap (λ (t : Town). length (demands t)) c.town.ensures in
    (rw c.in-None.is at c.in_ok-counts.ensures.times) (subst (IsWhole c.args.point.now) (sym most) is.whole)
