use Rattle.std.proofs.Common.{◌≡◌, ℕ, ◌<◌, ◌≤◌, slice_index}
use Rattle.wrp_euler.proofs.trail.first_left.Given as goal

-- no arc before the place is left
abbrev pub invariant-loop-place : goal.invariant-loop-place
invariant-loop-place l = (k : ℕ) → l.from ≤ k → k < l.place → slice_index l.left (slice_index l.arcs k) ≡ 0
