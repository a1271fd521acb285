use Rattle.std.proofs.Common.{FitsSigned, subst, ◌∙◌, arith}
use Rattle.std.specs.Int.{w128}
use Rattle.std.proofs.lemmas.Int.{to_z-of_z}
use Rattle.wrp_sums.proofs.Integers.{casts}
use Rattle.wrp_rules.specs.Nodes.{node_at}
use Rattle.wrp_pool.specs.Tallies.{IsCombined, IsCombinedSide}
use Rattle.wrp_pool.proofs.Weights.{small_rows}
use Rattle.wrp_check.proofs.Values.{value_is}
use Rattle.wrp_check.proofs.work.Work.value.Goals as goal

pub combine-requires-clause-small : goal.combine-requires-clause-small
combine-requires-clause-small c = small_rows c.args.town.now c.args.kept.now.pool c.requires.sound.0.rows c.requires.sound.1.pool

pub returns-clause-value : goal.returns-clause-value
returns-clause-value c = λ s is.
    let town = c.args.town.now in
    let kept = c.args.kept.now in
    let items = c.as_slice.ensures.value in
    let combined = subst (λ m. IsCombined town kept.pool m c.combine.new.tally) items c.in_ok-side.ensures.tally in
    let side = subst (λ m. IsCombinedSide kept.pool m c.in_ok-side.side) items c.in_ok-side.ensures.side in
    let entered = c.enter.ensures.entered town c.requires.idle.boxes in
    let fits_side : FitsSigned w128 c.in_ok-side.side = omega (arith, casts, side.size) in
    let fits : FitsSigned w128 c.listed_value-value.result = omega (arith, casts, c.listed_value-value.ensures.size) in
    to_z-of_z w128 c.listed_value-value.result fits
    ∙ value_is town s.rows (node_at town s c.args.node) kept.nodes c.args.node kept.pool c.args.self.now.pairs.items c.combine.new.tally c.list_cut.new.tally c.enter.new.self c.args.scale c.in_ok-side.side
    is.pool c.requires.rows combined side c.in_ok-list_cut.ensures entered (entered.box s.nodes is.nodes) c.listed_value-value.result
    (rw (to_z-of_z w128 c.in_ok-side.side fits_side) at c.listed_value-value.ensures.value)
