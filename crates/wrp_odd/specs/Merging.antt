-- Junctions that are joined to lesser ones, and the least of those that are joined.
use Rattle.std.specs.Prelude.{◌≡◌, ℕ, ◌<◌, ◌≤◌, List, length, slice_index}

-- each junction has one that isn't greater
pub record AreParents (n : ℕ) (parents : List ℕ) : Type 0 where
  pub long : length parents ≡ n
  pub low : (j : ℕ) → j < n → slice_index parents j ≤ j

-- each junction has a label that isn't greater, which is its own label, and that of its parent
pub record AreLabels (parents labels : List ℕ) : Type 0 where
  pub long : length labels ≡ length parents
  pub low : (j : ℕ) → j < length parents → slice_index labels j ≤ j
  pub still : (j : ℕ) → j < length parents
      → slice_index labels (slice_index labels j) ≡ slice_index labels j
  pub same : (j : ℕ) → j < length parents
      → slice_index labels (slice_index parents j) ≡ slice_index labels j
