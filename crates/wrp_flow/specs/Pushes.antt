-- A flow that is pushed along a way, from its end back to its beginning.
use Rattle.std.specs.Prelude.{◌≡◌, ◌≢◌, ℕ, ◌+◌, ◌<◌, ◌≤◌, cond, ◌==◌, List, length, slice_index}
use Rattle.wrp_webs.specs.Nets.{sum_at_end}
use Rattle.wrp_flow.specs.Sides.{twin_of}

-- the flow with another number at one arc
abbrev pub changed : (ℕ → ℕ) → ℕ → ℕ → ℕ → ℕ
changed flow a x b = cond (b == a) x (flow b)

-- more enters the sink by d than before, and node v owes d: it sends on more than it gets
pub record IsPushed
    (nodes n : ℕ) (tail head capacity flow : ℕ → ℕ) (s t value d v : ℕ)
    : Type 0 where
  pub within : (a : ℕ) → a < n → flow a ≤ capacity a
  pub kept : (j : ℕ) → j < nodes → j ≢ s → j ≢ t → j ≢ v
      → sum_at_end n tail flow j ≡ sum_at_end n head flow j
  pub owes : v ≢ s → v ≢ t → sum_at_end n tail flow v ≡ sum_at_end n head flow v + d
  pub worth : v ≢ s → sum_at_end n tail flow s ≡ sum_at_end n head flow s + value
  pub done : v ≡ s → sum_at_end n tail flow s ≡ sum_at_end n head flow s + (value + d)

-- room goes from a side to the other side of its arc
pub record IsShifted (side much : ℕ) (old new : List ℕ) : Type 0 where
  pub long : length new ≡ length old
  pub here : slice_index new side + much ≡ slice_index old side
  pub there : slice_index new (twin_of side) ≡ slice_index old (twin_of side) + much
  pub others : (k : ℕ) → k ≢ side → k ≢ twin_of side → slice_index new k ≡ slice_index old k
