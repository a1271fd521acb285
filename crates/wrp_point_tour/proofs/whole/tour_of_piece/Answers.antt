use Rattle.std.proofs.Common.{◌≡◌, ℕ, ◌*◌, List, Bool, ap, sym, ◌∙◌, subst}
use Rattle.wrp_town.specs.declared.town.Town.{Town}
use Rattle.wrp_town.specs.Arcs.{tail_of, is_required}
use Rattle.wrp_point_tour.specs.Counts.{AreKept, IsRequiredStreet}
use Rattle.wrp_point_tour.specs.Search.{IsReach}
use Rattle.wrp_point_tour.proofs.Pieces.{some_required, kept_at_most, kept_balanced, kept_one_piece, kept_served}
use Rattle.wrp_point_tour.proofs.Costs.{IfOk-both, found_uses}
use Rattle.wrp_point_tour.proofs.whole.tour_of_piece.Goals as goal

pub returns-in_ok-kept-in-Some-clause-whole : goal.returns-in_ok-kept-in-Some-clause-whole
returns-in_ok-kept-in-Some-clause-whole c =
    let town = c.args.graph.now in
    let lent = c.town-town.result.now in
    let counts = c.args.counts.now in
    let street = c.in-Some.street in
    let marks = c.in_ok-marks-in-Some.marks.items in
    let kept = c.deref-in-Some.result.now in
    let same : lent ≡ town = c.town-town.ensures in
    let keeps : AreKept town marks counts kept =
    subst (λ (t : Town). AreKept t marks counts kept) same
    (subst (λ (m : List Bool). AreKept lent m counts kept) c.deref.ensures.value
    (subst (λ (k : List ℕ). AreKept lent c.deref.result.now counts k) (sym c.deref-in-Some.ensures.value) c.in_ok-kept-in-Some.ensures.kept)) in
    let reach : IsReach town counts (tail_of town (2 * street)) marks =
    subst (λ (n : ℕ). IsReach town counts n marks) (c.tail.ensures.value ∙ ap (λ (t : Town). tail_of t (2 * street)) same) c.in_ok-marks-in-Some.ensures.reach in
    let required : IsRequiredStreet town street = subst (λ (t : Town). IsRequiredStreet t street) same c.in-Some.ensures in
    IfOk-both c.tour_with.result _ _ _ c.tour_with.ensures.counted c.tour_with.ensures.found
    (λ found circuit some is.
    found_uses town counts kept found (kept_at_most town marks counts kept keeps) circuit
    (some (kept_balanced town counts c.requires.counts is street required marks reach kept keeps)
    (kept_one_piece town counts c.requires.counts is street required marks reach kept keeps)
    (kept_served town counts c.requires.counts is street required marks reach kept keeps)))

pub returns-in-None-clause-whole : goal.returns-in-None-clause-whole
returns-in-None-clause-whole c = λ is.
    some_required c.args.graph.now c.requires.some (λ street. ap (λ (t : Town). is_required t street) (sym c.town-town.ensures) ∙ c.in-None.ensures street)
