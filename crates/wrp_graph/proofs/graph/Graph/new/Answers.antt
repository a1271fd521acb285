use Rattle.std.proofs.Common.{length, ◌∙◌, arith}
use Rattle.wrp_town.specs.Arcs.{tail_of, head_of, is_legal, legal_arcs}
use Rattle.wrp_town.proofs.TownLaws.{tail_of-below, head_of-below}
use Rattle.wrp_graph.proofs.Keyed.{few_entries, entry_keys-below, buckets_of-keyed_by}
use Rattle.wrp_graph.proofs.graph.Graph.new.Goals as goal

pub new-requires-clause-few_entries : goal.new-requires-clause-few_entries
new-requires-clause-few_entries c = few_entries c.args.town.now (λ a. (tail_of c.args.town.now a, a)) (is_legal c.args.town.now) c.as_slice.result.now (c.as_slice.ensures.value ∙ c.in_ok-ends.ensures.tails)

pub new-requires-clause-keys : goal.new-requires-clause-keys
new-requires-clause-keys c = entry_keys-below c.args.town.now (λ a. (tail_of c.args.town.now a, a)) (is_legal c.args.town.now) c.len-count.result c.as_slice.result.now (c.as_slice.ensures.value ∙ c.in_ok-ends.ensures.tails) (λ a below. omega (arith, tail_of-below c.args.town.now a below))

pub new-requires-2-clause-few_entries : goal.new-requires-2-clause-few_entries
new-requires-2-clause-few_entries c = few_entries c.args.town.now (λ a. (head_of c.args.town.now a, a)) (is_legal c.args.town.now) c.as_slice-2.result.now (c.as_slice-2.ensures.value ∙ c.in_ok-ends.ensures.heads)

pub new-requires-2-clause-keys : goal.new-requires-2-clause-keys
new-requires-2-clause-keys c = entry_keys-below c.args.town.now (λ a. (head_of c.args.town.now a, a)) (is_legal c.args.town.now) c.len-count.result c.as_slice-2.result.now (c.as_slice-2.ensures.value ∙ c.in_ok-ends.ensures.heads) (λ a below. omega (arith, head_of-below c.args.town.now a below))

pub invariant_of-result : goal.invariant_of-result
invariant_of-result c =
    let town = c.args.town.now in
    let leaving = buckets_of-keyed_by (tail_of town) (length town.junctions) c.as_slice.result.now (legal_arcs town) (c.as_slice.ensures.value ∙ c.in_ok-ends.ensures.tails) in
    let entering = buckets_of-keyed_by (head_of town) (length town.junctions) c.as_slice-2.result.now (legal_arcs town) (c.as_slice-2.ensures.value ∙ c.in_ok-ends.ensures.heads) in
    (rw c.len-count.ensures at c.in_ok-leaving.ensures ∙ leaving, rw c.len-count.ensures at c.in_ok-entering.ensures ∙ entering)
