use Rattle.std.proofs.Common.{◌≡◌, ℕ, ◌<◌}
use Rattle.wrp_town.specs.Arcs.{arc_of}
use Rattle.wrp_tour.specs.Thinning.{step_at}
use Rattle.wrp_tour.proofs.thinning.piece_end.Given as goal

-- no step between the start and this place drives the arc
abbrev pub invariant-loop-at : goal.invariant-loop-at
invariant-loop-at l = (k : ℕ) → l.start < k → k < l.at → arc_of (step_at l.steps k) ≡ l.arc → ⊥
