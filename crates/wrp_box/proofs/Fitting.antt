-- Whether a denominator and multipliers fit a record can be told.
use Rattle.std.proofs.Common.{ℕ, ◌≤◌, ℤ, unsigned_abs, List, [], ◌∷◌, length, ◌⊎◌, inl, inr, arith}
use Rattle.std.specs.List.{All}
use Rattle.std.proofs.lemmas.Bool.{cases_lt}
use Rattle.std.proofs.lemmas.List.Elements.{All-nil, All-cons, All-head, All-tail}
use Rattle.wrp_rules.specs.Ranges.{most_multipliers}
use Rattle.wrp_bound.specs.Mults.{most_denominator, most_multiplier, without_zeros, FitABound}

abbrev IsLight : ℕ × ℤ → Type 0
IsLight q = unsigned_abs q.1 ≤ most_multiplier

all_light : (mult : List (ℕ × ℤ)) → All IsLight mult ⊎ (All IsLight mult → ⊥)
all_light [] = inl (All-nil IsLight)
all_light (q ∷ mult) = elim (cases_lt most_multiplier (unsigned_abs q.1)) [
  | inl heavy ↦ inr (λ all. let low = All-head IsLight q mult all in omega arith)
  | inr light ↦ elim (all_light mult) [
    | inl others ↦ inl (All-cons IsLight q mult light others)
    | inr none ↦ inr (λ all. none (All-tail IsLight q mult all))
  ]
]

pub fits_or_not : (den : ℤ) (mult : List (ℕ × ℤ)) → FitABound den mult ⊎ (FitABound den mult → ⊥)
fits_or_not den mult = elim (cases_lt most_denominator (unsigned_abs den)) [
  | inl large ↦ inr (λ fit. let low = fit.low in omega arith)
  | inr low ↦ elim (cases_lt most_multipliers (length (without_zeros mult))) [
    | inl many ↦ inr (λ fit. let few = fit.few in omega arith)
    | inr few ↦ elim (all_light mult) [
      | inl light ↦ inl (record { low = low; light = light; few = few })
      | inr heavy ↦ inr (λ fit. heavy fit.light)
    ]
  ]
]
