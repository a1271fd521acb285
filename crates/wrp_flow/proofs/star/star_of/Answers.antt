use Rattle.std.proofs.Common.{◌+◌, ℕ, List, [], ◌∷◌, ◌++◌, Option, Some, set, sym, ap, ◌∙◌, subst, rules, arith}
use Rattle.wrp_flow.specs.Sides.{begin_in, last_at}
use Rattle.wrp_flow.proofs.Searches.{read_option}
use Rattle.wrp_flow.proofs.Sides.{begin_below}
use Rattle.wrp_flow.proofs.Stars.{IsStarBelow, star_first, star_more, star_whole}
use Rattle.wrp_flow.proofs.star.star_of.Goals as goal

pub loop-side-init : goal.loop-side-init
loop-side-init c = star_first c.args.net.now c.in_ok-last.last.items c.in_ok-before.before.items (c.in_ok-last.ensures.items_if_clones_equal (λ y h. search rules)) c.in_ok-before.ensures.items

pub loop-side-preserved : goal.loop-side-preserved
loop-side-preserved c =
    let net = c.args.net.now in
    let last = c.loop-side.last.items in
    let before = c.loop-side.before.items in
    let side = c.loop-side.side in
    let below = begin_below net c.requires side (omega (arith, c.loop-side-test.true, c.side_count-count.ensures)) in
    let read = read_option last c.begin-node.result net.nodes c.index.result.now c.index.ensures c.loop-side.invariant.nodes (omega (arith, c.begin-node.ensures, below)) in
    subst (λ (k : ℕ). IsStarBelow net (side + 1) (set last k (Some side)) c.push.new.self.items) (sym c.begin-node.ensures)
    (subst (λ (xs : List (Option ℕ)). IsStarBelow net (side + 1) (set last (begin_in net side) (Some side)) xs)
    (sym (c.in_ok-push.ensures.items ∙ ap (λ (o : Option ℕ). before ++ o ∷ []) (read ∙ ap (last_at last) c.begin-node.ensures)))
    (star_more net side last before below c.loop-side.invariant))

pub returns : goal.returns
returns c = star_whole c.args.net.now record { last = c.loop-side.last; before = c.loop-side.before } c.loop-side.side (omega (arith, c.loop-side-test.false, c.side_count-count.ensures, c.loop-side.auto.side-end)) c.loop-side.invariant
