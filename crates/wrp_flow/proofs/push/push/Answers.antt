use Rattle.std.proofs.Common.{ℕ, sym, ap, subst, arith}
use Rattle.wrp_flow.specs.Searches.{mark_at}
use Rattle.wrp_flow.proofs.Pushing.{IsPushing, place_in, pushing_first, pushing_last, side_inside, side_fits, side_pushed, place_falls, room_small}
use Rattle.wrp_flow.proofs.push.push.Goals as goal

pub loop-node-init : goal.loop-node-init
loop-node-init c =
    pushing_first c.args.net.now c.requires.net c.args.s c.args.t c.args.marks.now c.args.room.now c.requires.poles c.requires.flow.0 c.requires.flow.1 c.mark_of-most.result c.mark_of-most.ensures

pub shift-requires-clause-inside : goal.shift-requires-clause-inside
shift-requires-clause-inside c =
    side_inside c.args.net.now c.requires.net c.args.s c.args.t c.args.marks.now c.args.room.now c.loop-node.room c.mark_of-most.result.most c.loop-node.node c.requires.reached c.loop-node-test.true c.loop-node.invariant
    c.mark_of-side.result c.mark_of-side.ensures

pub shift-requires-clause-fits : goal.shift-requires-clause-fits
shift-requires-clause-fits c =
    side_fits c.args.net.now c.requires.net c.args.s c.args.t c.args.marks.now c.args.room.now c.loop-node.room c.mark_of-most.result.most c.loop-node.node c.requires.reached c.loop-node-test.true c.loop-node.invariant
    c.mark_of-side.result c.mark_of-side.ensures

pub shift-requires-clause-small : goal.shift-requires-clause-small
shift-requires-clause-small c = room_small c.args.net.now c.requires.net c.loop-node.room c.loop-node.invariant.shared c.mark_of-side.result.side (side_inside c.args.net.now c.requires.net c.args.s c.args.t c.args.marks.now c.args.room.now c.loop-node.room c.mark_of-most.result.most c.loop-node.node c.requires.reached c.loop-node-test.true c.loop-node.invariant c.mark_of-side.result c.mark_of-side.ensures)

pub begin-node-requires : goal.begin-node-requires
begin-node-requires c =
    side_inside c.args.net.now c.requires.net c.args.s c.args.t c.args.marks.now c.args.room.now c.loop-node.room c.mark_of-most.result.most c.loop-node.node c.requires.reached c.loop-node-test.true c.loop-node.invariant
    c.mark_of-side.result c.mark_of-side.ensures

pub loop-node-smaller : goal.loop-node-smaller
loop-node-smaller c = omega (
  arith,
  ap (λ (k : ℕ). place_in (mark_at c.args.marks.now k)) c.begin-node.ensures,
  place_falls c.args.net.now c.requires.net c.args.s c.args.t c.args.marks.now c.args.room.now c.loop-node.room c.mark_of-most.result.most c.loop-node.node c.requires.reached c.loop-node-test.true c.loop-node.invariant
      c.mark_of-side.result c.mark_of-side.ensures,
)

pub loop-node-preserved : goal.loop-node-preserved
loop-node-preserved c =
    subst (λ (k : ℕ). IsPushing c.args.net.now c.args.s c.args.t c.args.marks.now c.args.room.now c.shift.new.room c.mark_of-most.result.most k) (sym c.begin-node.ensures)
    (side_pushed c.args.net.now c.requires.net c.args.s c.args.t c.args.marks.now c.args.room.now c.loop-node.room c.mark_of-most.result.most c.loop-node.node c.requires.reached c.loop-node-test.true c.loop-node.invariant
    c.mark_of-side.result c.mark_of-side.ensures c.shift.new.room c.shift.ensures)

pub returns-clause-pushed : goal.returns-clause-pushed
returns-clause-pushed c =
    pushing_last c.args.net.now c.requires.net c.args.s c.args.t c.args.marks.now c.args.room.now c.loop-node.room c.mark_of-most.result.most c.loop-node.node c.loop-node-test.false c.loop-node.invariant
