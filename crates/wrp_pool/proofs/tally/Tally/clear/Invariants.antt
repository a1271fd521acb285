use Rattle.std.proofs.Common.{length}
use Rattle.wrp_pool.specs.Tallies.{IsTally}
use Rattle.wrp_pool.proofs.tally.Tally.clear.Given as goal

-- what is left is a tally
abbrev pub invariant-loop-arc : goal.invariant-loop-arc
invariant-loop-arc l = IsTally l.town l.self

abbrev pub decreases-loop-arc : goal.decreases-loop-arc
decreases-loop-arc l = length l.self.listed.items
