use Rattle.wrp_town.specs.Arcs.{tail_of, head_of}
use Rattle.wrp_graph.proofs.Keyed.{collected_more}
use Rattle.wrp_parts.specs.RequiredParts.{is_of_required}
use Rattle.wrp_parts.proofs.neighbours.required_ends.Goals as goal

pub loop-arc-preserved : goal.loop-arc-preserved
loop-arc-preserved c =
    let town = c.args.town.now in
    collected_more (λ a. (tail_of town a, head_of town a)) (is_of_required town) c.loop-arc.arc c.loop-arc.ends.items c.add_ends.new.ends.items c.loop-arc.invariant c.in_ok-add_ends.ensures
