use Rattle.std.proofs.Common.{◌==◌, arith}
use Rattle.wrp_town.specs.Arcs.{tail_of, head_of}
use Rattle.wrp_euler.proofs.StarCounts.{star_inside, star_sum_at_most}
use Rattle.wrp_euler.proofs.circuits.first_unbalanced.Goals as goal

pub traversals-requires-clause-inside : goal.traversals-requires-clause-inside
traversals-requires-clause-inside c =
    let town = c.args.graph.now in
    star_inside town (λ arc. tail_of town arc == c.loop-junction.junction) c.out_of.result.now c.args.counts.now c.out_of.ensures c.requires.counts.each

pub traversals-requires-clause-sum : goal.traversals-requires-clause-sum
traversals-requires-clause-sum c =
    let town = c.args.graph.now in
    omega (arith, c.requires.sum, star_sum_at_most town (λ arc. tail_of town arc == c.loop-junction.junction) c.out_of.result.now c.args.counts.now c.out_of.ensures c.requires.counts.each)

pub traversals-requires-in-loop-junction-clause-inside : goal.traversals-requires-in-loop-junction-clause-inside
traversals-requires-in-loop-junction-clause-inside c =
    let town = c.args.graph.now in
    star_inside town (λ arc. head_of town arc == c.loop-junction.junction) c.into.result.now c.args.counts.now c.into.ensures c.requires.counts.each

pub traversals-requires-in-loop-junction-clause-sum : goal.traversals-requires-in-loop-junction-clause-sum
traversals-requires-in-loop-junction-clause-sum c =
    let town = c.args.graph.now in
    omega (arith, c.requires.sum, star_sum_at_most town (λ arc. head_of town arc == c.loop-junction.junction) c.into.result.now c.args.counts.now c.into.ensures c.requires.counts.each)
