use Rattle.std.proofs.Common.{cond}
use Rattle.wrp_rules.specs.Sets.{is_in}
use Rattle.wrp_webs.specs.Searching.{reading}
use Rattle.wrp_minodd.proofs.Pushed.{AreValues}
use Rattle.wrp_minodd.proofs.sides.side_of.Given as goal

-- the labels so far
abbrev pub invariant-loop-node : goal.invariant-loop-node
invariant-loop-node l = AreValues (λ j. cond (is_in l.nodes (reading l.map j)) l.inside l.outside) l.node-index l.labels.items
