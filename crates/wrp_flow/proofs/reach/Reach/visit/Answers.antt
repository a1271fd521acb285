use Rattle.std.proofs.Common.{◌<◌, ℕ, Option, sym, ap, subst, arith}
use Rattle.wrp_flow.specs.Sides.{sides}
use Rattle.wrp_flow.proofs.Searches.{goes_on_same, goes_on_join, marked_inside, read_option}
use Rattle.wrp_flow.proofs.Stars.{IsPending, up_to, pending_first, pending_next, before_falls}
use Rattle.wrp_flow.proofs.reach.Reach.visit.Goals as goal

pub loop-next-init : goal.loop-next-init
loop-next-init c =
    let net = c.args.net.now in
    let star = c.args.star.now in
    let marks = c.args.self.now.marks.items in
    let inside : c.args.node < net.nodes = omega (arith, marked_inside marks c.args.node c.requires.node, c.requires.marks) in
    record {
      more = goes_on_same net c.args.room.now marks c.args.self.now.queue.items;
      pending = subst (λ (o : Option ℕ). IsPending net c.args.room.now marks c.args.node o)
          (sym (read_option star.last.items c.args.node net.nodes c.index-next.result.now c.index-next.ensures c.requires.star.nodes inside))
          (pending_first net star c.requires.star c.args.room.now marks c.args.node inside);
    }

pub meet-requires-clause-inside : goal.meet-requires-clause-inside
meet-requires-clause-inside c = (c.loop-next.invariant.pending.is c.in-Some.side c.in-Some.is).0

pub loop-next-smaller : goal.loop-next-smaller
loop-next-smaller c =
    let net = c.args.net.now in
    let star = c.args.star.now in
    let inside = (c.loop-next.invariant.pending.is c.in-Some.side c.in-Some.is).0 in
    omega (
      arith,
      ap up_to c.in-Some.is,
      ap up_to (read_option star.before.items c.in-Some.side (sides net) c.index-next-in-Some.result.now c.index-next-in-Some.ensures c.requires.star.sides inside),
      before_falls net star c.requires.star c.args.room.now c.in-Some.side inside,
    )

pub loop-next-preserved : goal.loop-next-preserved
loop-next-preserved c =
    let net = c.args.net.now in
    let star = c.args.star.now in
    let inside = (c.loop-next.invariant.pending.is c.in-Some.side c.in-Some.is).0 in
    record {
      more = goes_on_join net c.args.room.now c.args.self.now.marks.items c.loop-next.self.marks.items c.meet.new.self.marks.items c.args.self.now.queue.items c.loop-next.self.queue.items c.meet.new.self.queue.items c.loop-next.invariant.more c.in_ok-meet.ensures.more;
      pending = subst (λ (o : Option ℕ). IsPending net c.args.room.now c.meet.new.self.marks.items c.args.node o)
          (sym (read_option star.before.items c.in-Some.side (sides net) c.index-next-in-Some.result.now c.index-next-in-Some.ensures c.requires.star.sides inside))
          (pending_next net star c.requires.star c.args.room.now c.loop-next.self.marks.items c.meet.new.self.marks.items c.args.node c.in-Some.side
          (subst (λ (o : Option ℕ). IsPending net c.args.room.now c.loop-next.self.marks.items c.args.node o) c.in-Some.is c.loop-next.invariant.pending)
          c.in_ok-meet.ensures.more.kept c.in_ok-meet.ensures.done);
    }
