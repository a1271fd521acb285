use Rattle.std.proofs.Common.{◌≡◌, ℕ, ◌<◌, pos, false, get_or}
use Rattle.wrp_town.specs.Arcs.{is_legal}
use Rattle.wrp_trials.proofs.points.are_on_legal_arcs.Given as goal

-- no illegal arc so far has a number
abbrev pub invariant-loop-arc : goal.invariant-loop-arc
invariant-loop-arc l = (k : ℕ) → k < l.arc → is_legal l.town k ≡ false → get_or l.at k (pos 0) ≡ pos 0
