use Rattle.std.proofs.Common.{◌≡◌, ◌∙◌, arith}
use Rattle.std.proofs.lemmas.Result.{IfOk-weaker}
use Rattle.wrp_town.specs.Arcs.{tail_of, head_of}
use Rattle.wrp_town.proofs.TownLaws.{tail_of-below}
use Rattle.wrp_graph.proofs.Keyed.{few_entries, entry_keys-below}
use Rattle.wrp_parts.specs.RequiredParts.{is_of_required}
use Rattle.wrp_parts.specs.Neighbours.{neighbours_of}
use Rattle.wrp_parts.proofs.Whole.{sorted_rows}
use Rattle.wrp_parts.proofs.neighbours.neighbours.Goals as goal

pub new-requires-clause-few_entries : goal.new-requires-clause-few_entries
new-requires-clause-few_entries c =
    let town = c.args.town.now in
    few_entries town (λ a. (tail_of town a, head_of town a)) (is_of_required town) c.as_slice.result.now (c.as_slice.ensures.value ∙ c.in_ok-ends.ensures)

pub new-requires-clause-keys : goal.new-requires-clause-keys
new-requires-clause-keys c =
    let town = c.args.town.now in
    entry_keys-below town (λ a. (tail_of town a, head_of town a)) (is_of_required town) c.len.result c.as_slice.result.now (c.as_slice.ensures.value ∙ c.in_ok-ends.ensures) (λ a below. omega (arith, tail_of-below town a below))

pub returns : goal.returns
returns c =
    IfOk-weaker c.new.result _ (λ rows. rows ≡ neighbours_of c.args.town.now) (λ rows sorted. sorted ∙ sorted_rows c.args.town.now c.len.result c.as_slice.result.now c.len.ensures (c.as_slice.ensures.value ∙ c.in_ok-ends.ensures)) c.new.ensures
