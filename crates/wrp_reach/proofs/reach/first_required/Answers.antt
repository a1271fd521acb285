use Rattle.std.proofs.Common.{arith}
use Rattle.wrp_town.proofs.DemandLaws.{length-demands_from-drop_end}
use Rattle.wrp_reach.proofs.reach.first_required.Goals as goal

pub returns : goal.returns
returns c = omega (arith, c.loop-s.invariant, length-demands_from-drop_end c.args.town.now.streets _ c.loop-s.s c.as_slice-street-items.ensures c.loop-s-test.false)
