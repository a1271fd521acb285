use Rattle.wrp_flow.proofs.Stars.{IsStarBelow}
use Rattle.wrp_flow.proofs.star.star_of.Given as goal

-- the star of the sides so far
abbrev pub invariant-loop-side : goal.invariant-loop-side
invariant-loop-side l = IsStarBelow l.net l.side l.last.items l.before.items
