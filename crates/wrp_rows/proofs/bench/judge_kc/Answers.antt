use Rattle.std.proofs.Common.{◌≤◌, ◌+◌, length, sym, ◌∙◌, arith}
use Rattle.wrp_town.proofs.TownLaws.{few_junctions}
use Rattle.wrp_rows.proofs.Chained.{partition_parts}
use Rattle.wrp_rows.proofs.bench.judge_kc.Goals as goal

pub demands_by-requires : goal.demands_by-requires
demands_by-requires c =
    let parts = partition_parts c.args.town.now c.args.k c.args.of.now (sym c.is_partition.ensures ∙ c.if-not-is_partition.false) in
    let low : c.args.k ≤ length c.args.town.now.junctions + 1 = c.is_chain.ensures.low c.if-is_chain.true in
    (parts.many, parts.low, omega arith, omega (arith, few_junctions c.args.town.now))

pub returns-then-is_chain-clause-low : goal.returns-then-is_chain-clause-low
returns-then-is_chain-clause-low c = c.is_chain.ensures.low c.if-is_chain.true
