use Rattle.std.proofs.Common.{rules, of_calls}
use Rattle.std.proofs.lemmas.Fn.{always_returns_same}
use Rattle.std.proofs.lemmas.List.Sorted.{IsPartitionedBy-ltb}
use Rattle.std.proofs.Math.Dec.{ltb}
use Rattle.wrp_tableau.proofs.Searching.{numbers_rise}
use Rattle.wrp_round.proofs.Placing.{place_from_partition}
use Rattle.wrp_round.proofs.naming.place_of.Goals as goal

pub returns : goal.returns
returns c =
    let terms = c.args.terms.now in
    let point = c.partition_point.ensures.partitioned (λ t. ltb t.0 c.args.number) (always_returns_same _ _ _ (λ a r f k. search (rules, of_calls)))
    (IsPartitionedBy-ltb (λ t. t.0) terms c.args.number (numbers_rise terms c.requires.ascending)) in
    place_from_partition terms c.partition_point.result c.args.number c.partition_point.ensures.bound point.0 point.1
