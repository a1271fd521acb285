use Rattle.wrp_town.specs.Arcs.{tail_of, head_of, is_legal}
use Rattle.wrp_graph.proofs.Keyed.{collected_more}
use Rattle.wrp_graph.proofs.ends.Ends.of_town.Goals as goal

pub loop-arc-preserved : goal.loop-arc-preserved
loop-arc-preserved c = record {
  tails = collected_more (λ a. (tail_of c.args.town.now a, a)) (is_legal c.args.town.now) c.loop-arc.arc c.loop-arc.ends.tails.items c.add.new.self.tails.items c.loop-arc.invariant.tails c.in_ok-add.ensures.tails;
  heads = collected_more (λ a. (head_of c.args.town.now a, a)) (is_legal c.args.town.now) c.loop-arc.arc c.loop-arc.ends.heads.items c.add.new.self.heads.items c.loop-arc.invariant.heads c.in_ok-add.ensures.heads;
}
