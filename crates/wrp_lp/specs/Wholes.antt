-- The numbers that make fractions whole are the multiples of one.
use Rattle.std.specs.Prelude.{ℕ, ◌<◌, ◌≤◌, ◌↔◌, ◌^◌, ℤ, pos, ◌*ℤ◌, ◌≤ℤ◌, unsigned_abs}
use Rattle.std.specs.Int.{◌∣◌}
use Rattle.wrp_tableau.specs.Systems.{System, basic}
use Rattle.wrp_rows.specs.Points.{most_denominator}
use Rattle.wrp_lp.specs.Reading.{IsWhole, IsValueWhole, IsMultiplierWhole}

-- a denominator of a point
pub record IsDen (den : ℤ) : Type 0 where
  pub positive : pos 1 ≤ℤ den
  pub low : den ≤ℤ pos most_denominator

-- the numbers with this property are the multiples of the denominator
pub record IsDenOf (P : ℕ → Type 0) (den : ℤ) : Type 0 where
  pub is_den : IsDen den
  pub multiples : (d : ℕ) → (unsigned_abs den ∣ d) ↔ P d

-- each number from 1 on with this property is above each denominator of a point
abbrev pub AreLarge : (ℕ → Type 0) → Type 0
AreLarge P = (d : ℕ) → 0 < d → P d → most_denominator < d

-- d is a multiple of den, and makes p over q whole
abbrev pub IsWholeMultiple : ℤ → ℤ → ℤ → ℕ → Type 0
IsWholeMultiple den p q d = (unsigned_abs den ∣ d) × IsWhole d p q

-- the multiples of den times the factor are the multiples of den that make p over q whole
pub record IsFactorFor (den p q factor : ℤ) : Type 0 where
  pub positive : pos 1 ≤ℤ factor
  pub small : unsigned_abs factor ≤ 2 ^ 60
  pub multiples : (d : ℕ) → (unsigned_abs (den *ℤ factor) ∣ d) ↔ IsWholeMultiple den p q d

-- the values of the structural variables of the first k rows, times d, are whole
abbrev pub AreValuesWhole : System → ℕ → ℕ → Type 0
AreValuesWhole s k d = (r : ℕ) → r < k → basic s r < s.width → IsValueWhole s d r

-- d is a multiple of den, and makes the multipliers of the first n lines whole
pub record AreMultipliersWhole (s : System) (den : ℤ) (n d : ℕ) : Type 0 where
  pub multiple : unsigned_abs den ∣ d
  pub each : (i : ℕ) → i < n → IsMultiplierWhole s d i
