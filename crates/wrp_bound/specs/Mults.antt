-- Multipliers of rows that fit a record, made of greater ones.
use Rattle.std.specs.Prelude.{◌≡◌, ℕ, ◌+◌, ◌/◌, ◌^◌, ◌<◌, ◌≤◌, max, true, ◌&&◌, not, ◌==◌, nat_le, nat_lt, if◌then◌else◌, ℤ, List, [], ◌∷◌, ◌++◌, map, take, length, unsigned_abs}
use Rattle.std.specs.List.{filter, All}
use Rattle.wrp_rules.specs.Ranges.{most_multipliers, is_from_one, are_multipliers}
use Rattle.wrp_bound.specs.declared.mult.Mult.{Mult}

-- the greatest denominator and the greatest multiplier of a bound
abbrev pub most_denominator : ℕ
most_denominator = 2 ^ 40

abbrev pub most_multiplier : ℕ
most_multiplier = 2 ^ 60

-- the greatest size of a multiplier
abbrev pub greatest : List (ℕ × ℤ) → ℕ
greatest [] = 0
greatest (q ∷ mult) = max (unsigned_abs q.1) (greatest mult)

-- by what to divide so that a denominator and multipliers fit: 1 where they do
abbrev pub scale_of : ℕ → ℕ → ℕ
scale_of den most =
    if nat_le den most_denominator && nat_le most most_multiplier then 1
    else max (den / most_denominator) (most / most_multiplier) + 1

-- the multipliers divided by that and rounded down, those that aren't 0
abbrev pub scaled : ℕ → List (ℕ × ℤ) → List (ℕ × ℕ)
scaled scale mult =
    filter (λ q. not (q.1 == 0)) (map (λ q. (q.0, unsigned_abs q.1 / scale)) mult)

-- the pairs with one more, where its number isn't 0 and there is room for it
abbrev pub with_pair : List (ℕ × ℕ) → ℕ × ℕ → List (ℕ × ℕ)
with_pair pairs q =
    if not (q.1 == 0) && nat_lt (length pairs) most_multipliers then pairs ++ q ∷ [] else pairs

-- each pair has a row's number
abbrev pub HaveRowNumbers : List (ℕ × ℕ) → Type 0
HaveRowNumbers pairs = All (λ q. q.0 < 2 ^ 32) pairs

-- the multipliers as they are, those that aren't 0
abbrev pub without_zeros : List (ℕ × ℤ) → List (ℕ × ℕ)
without_zeros mult =
    filter (λ q. not (q.1 == 0)) (map (λ q. (q.0, unsigned_abs q.1)) mult)

-- a denominator and multipliers that fit a bound
pub record IsInRanges (m : Mult) : Type 0 where
  pub den : is_from_one most_denominator m.den ≡ true
  pub mult : are_multipliers most_multiplier m.mult ≡ true

pub record FitABound (den : ℤ) (mult : List (ℕ × ℤ)) : Type 0 where
  pub low : unsigned_abs den ≤ most_denominator
  pub light : All (λ q. unsigned_abs q.1 ≤ most_multiplier) mult
  pub few : length (without_zeros mult) ≤ most_multipliers

-- the same denominator, and the multipliers that aren't 0
pub record IsSame (den : ℤ) (mult : List (ℕ × ℤ)) (m : Mult) : Type 0 where
  pub denominator : m.den ≡ unsigned_abs den
  pub multipliers : m.mult ≡ without_zeros mult

-- both divided by the scale, at least 1 for the denominator, and not more multipliers than fit
pub record IsScaled (den : ℤ) (mult : List (ℕ × ℤ)) (scale : ℕ) (m : Mult) : Type 0 where
  pub denominator : m.den ≡ max (unsigned_abs den / scale) 1
  pub multipliers : m.mult ≡ take most_multipliers (scaled scale mult)
