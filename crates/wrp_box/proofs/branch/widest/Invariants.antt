use Rattle.std.proofs.Common.{◌≡◌, ℕ, ◌+◌, ◌<◌, ◌≤◌, length}
use Rattle.std.specs.Prelude.{slice_index}
use Rattle.wrp_box.proofs.branch.widest.Given as goal

abbrev pub invariant-loop-arc : goal.invariant-loop-arc
invariant-loop-arc l =
    ((a : ℕ) → a < l.arc → slice_index l.bounds.hi a ≤ slice_index l.bounds.lo a + l.width)
    × (0 < l.width → (l.best < length l.bounds.lo) × (slice_index l.bounds.lo l.best + l.width ≡ slice_index l.bounds.hi l.best))
