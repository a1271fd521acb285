use Rattle.std.proofs.Common.{arith}
use Rattle.wrp_town.proofs.DemandLaws.{length-demands_from-drop_read, length-demands_from-drop_end}
use Rattle.wrp_town.proofs.size.demand_count.Goals as goal

pub overflow_add-count : goal.overflow_add-count
overflow_add-count c =
    let streets = c.args.town.now.streets in
    let i = c.loop-street.street-index in
    omega (arith, c.demand_count-count.ensures.count i, c.args.town.now.well_formed.few_demands, length-demands_from-drop_read streets _ i c.street-item.result c.as_slice-street-items.ensures c.loop-street-test.true c.street-item.is)

pub loop-street-preserved : goal.loop-street-preserved
loop-street-preserved c =
    let streets = c.args.town.now.streets in
    let i = c.loop-street.street-index in
    omega (arith, c.demand_count-count.ensures.count i, length-demands_from-drop_read streets _ i c.street-item.result c.as_slice-street-items.ensures c.loop-street-test.true c.street-item.is)

pub returns : goal.returns
returns c =
    omega (arith, length-demands_from-drop_end c.args.town.now.streets _ c.loop-street.street-index c.as_slice-street-items.ensures c.loop-street-test.false)
