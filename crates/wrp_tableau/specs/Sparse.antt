-- Equations as ascending lists of a number and an entry that isn't 0.
use Rattle.std.specs.Prelude.{ℕ, ◌^◌, ◌≤◌, ◌<◌, ◌≡◌, ◌≢◌, ℤ, pos, unsigned_abs, int_div, List, length, map, slice_index_or, All, AllPairs}
use Rattle.wrp_sums.specs.Sums.{coef_at}
use Rattle.wrp_tableau.specs.Equations.{Equation}

pub record IsSparse (limit : ℕ) (terms : List (ℕ × ℤ)) : Type 0 where
  pub ascending : AllPairs (λ s t. s.0 < t.0) terms
  pub some : All (λ t. t.1 ≢ pos 0) terms
  pub small : All (λ t. unsigned_abs t.1 ≤ limit) terms

-- each number of the terms is below n
abbrev pub AreBelow : ℕ → List (ℕ × ℤ) → Type 0
AreBelow n terms = All (λ t. t.0 < n) terms

-- the number of a term
abbrev pub number_at : List (ℕ × ℤ) → ℕ → ℕ
number_at terms k = (slice_index_or terms k (0, pos 0)).0

-- the equation that a list of terms and a right side stand for
abbrev pub dense : List (ℕ × ℤ) → ℤ → Equation
dense terms right = record { entry = coef_at terms; right = right }

-- the terms with each entry divided by g
abbrev pub divided_terms : ℤ → List (ℕ × ℤ) → List (ℕ × ℤ)
divided_terms g terms = map (λ t. (t.0, int_div t.1 g)) terms

-- the new terms are the old ones, divided by g, and at most 2 ^ 60 in size
pub record AreDivided (g : ℤ) (old new : List (ℕ × ℤ)) : Type 0 where
  pub divided : new ≡ divided_terms g old
  pub small : All (λ t. unsigned_abs t.1 ≤ 2 ^ 60) new

-- an entry is above 2 ^ 60 in size when it is divided by g
abbrev pub IsSomeWideDivided : ℤ → List (ℕ × ℤ) → Type 0
IsSomeWideDivided g terms = (k : ℕ) × (k < length terms)
    × (2 ^ 60 < unsigned_abs (int_div (slice_index_or terms k (0, pos 0)).1 g))
