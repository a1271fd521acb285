-- Counts of faults and of empty takes. A count never falls, and one at its last value stays there.
use Rattle.std.specs.Prelude.{◌≡◌, ℕ, ◌+◌, ◌-◌, ◌^◌, ◌<◌, ◌≤◌, ◌⊎◌, min}

-- the last value of a count
abbrev pub last_count : ℕ
last_count = 2 ^ 64 - 1

-- a count after one more
abbrev pub one_more : ℕ → ℕ
one_more count = min (count + 1) last_count

-- the count rose, or stands at its last value
abbrev pub Rose : ℕ → ℕ → Type 0
Rose old new = (old < new) ⊎ (new ≡ last_count)

-- the count did not fall, and stays at its last value
pub record NeverFalls (old new : ℕ) : Type 0 where
  pub later : old ≤ new
  pub stays : old ≡ last_count → new ≡ last_count
