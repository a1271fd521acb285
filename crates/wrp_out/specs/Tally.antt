-- What contracts see of a sink that tells no bytes.
use Rattle.std.specs.Prelude.{ℕ}

-- the counts of its faults and of its empty takes
pub record Tally : Type 0 where
  pub faults : ℕ
  pub empties : ℕ
