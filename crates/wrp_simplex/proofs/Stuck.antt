-- A row without a dual simplex step has no entry with the sign of its right side.
use Rattle.std.proofs.Common.{ℕ, zero, suc, ◌<◌, true, Option, None, Some, ℤ, pos, ◌*ℤ◌, ◌≤ℤ◌, ap, refl, arith, subst, inl, inr, ◌⊎◌, add-one}
use Rattle.std.proofs.lemmas.Int.{by_lt_z}
use Rattle.std.proofs.lemmas.Bool.{cases_lt}
use Rattle.wrp_sums.proofs.Integers.{linear, times_zero}
use Rattle.wrp_tableau.specs.Equations.{sign_of}
use Rattle.wrp_tableau.specs.Systems.{System, variables, row}
use Rattle.wrp_tableau.specs.Soundness.{IsSound}
use Rattle.wrp_simplex.specs.declared.candidate.Candidate.{Candidate}
use Rattle.wrp_simplex.specs.Steps.{IsBroken, IsDualFeasible, HasNoStep}
use Rattle.wrp_simplex.specs.Candidates.{IsNoLater, IsFirstOf, IsChosen, IsBest, column_candidate, signed_entry, HasRightSign}
use Rattle.wrp_simplex.proofs.Choosing.{best_none, best_some, best_start}
use Rattle.wrp_simplex.proofs.Ratios.{dual_of_ratio}

-- of two candidates one comes first
either_first : (a b : Candidate) → IsNoLater true a b ⊎ IsNoLater true b a
either_first a b =
    by_lt_z (a.numerator *ℤ b.denominator) (b.numerator *ℤ a.denominator)
    (λ less. inl (record { least = λ counts. omega (arith, linear, less); first = λ back. absurd (let h = back refl in omega (arith, linear, less, h)) }))
    (λ past. by_lt_z (b.numerator *ℤ a.denominator) (a.numerator *ℤ b.denominator)
    (λ less. inr (record { least = λ counts. omega (arith, linear, less); first = λ back. absurd (let h = back refl in omega (arith, linear, less, h)) }))
    (λ equal. elim (cases_lt b.variable a.variable) [
      | inl below ↦ inr (record { least = λ counts. past; first = λ back. omega arith })
      | inr above ↦ inl (record { least = λ counts. equal; first = λ back. above })
    ]))

first_there : (best : Option Candidate) (next : Candidate) → (result : Option Candidate) × IsFirstOf true best (Some next) result
first_there None next = (Some next, refl)
first_there (Some a) next = elim (either_first a next) [
  | inl before ↦ (Some a, inl (refl, before))
  | inr before ↦ (Some next, inr (refl, before))
]

skip_there : (best : Option Candidate) → (result : Option Candidate) × IsFirstOf true best None result
skip_there None = (None, refl)
skip_there (Some a) = (Some a, refl)

module _ (s : System) (r : ℕ) where
  abbrev column_of : ℕ → Candidate
  column_of j = column_candidate s j (signed_entry s r j)

  -- there is a best column
  best_there : (n : ℕ) → (best : Option Candidate) × IsBest true (HasRightSign s r) column_of n best
  best_there zero = (None, best_start true (HasRightSign s r) column_of)
  best_there (suc n) =
      let before = best_there n in
      subst (λ m. (best : Option Candidate) × IsBest true (HasRightSign s r) column_of m best) (add-one n)
      (by_lt_z (pos 0) (signed_entry s r n)
      (λ above. let next = first_there before.0 (column_of n) in
      (next.0, best_some true (HasRightSign s r) column_of n (λ k h. h) before.0 (column_of n) next.0 before.1 above refl next.1))
      (λ past. let next = skip_there before.0 in
      (next.0, best_none true (HasRightSign s r) column_of n (λ k h. h) before.0 next.0 before.1 (λ above. absurd (omega (arith, linear, above, past))) next.1)))

  module _ (sound : IsSound s) (broken : IsBroken s r) (dual : IsDualFeasible s) (none : HasNoStep s r) where
    not_chosen : (a : Candidate) → IsChosen true (HasRightSign s r) column_of (variables s) a → ⊥
    not_chosen a is =
        none is.at
        (dual_of_ratio s r is.at sound broken
        (λ zero_there. absurd (let h = is.eligible in omega (arith, linear, h, ap (λ (z : ℤ). sign_of (row s r).right *ℤ z) zero_there, times_zero (sign_of (row s r).right))))
        dual
        (record {
          there = is.below;
          candidate = is.eligible;
          least = λ j h above. (subst (λ b. IsNoLater true b (column_of j)) is.is (is.first j h above)).least refl;
        }))

    from_best : (best : Option Candidate) → IsBest true (HasRightSign s r) column_of (variables s) best → (j : ℕ) → j < variables s → HasRightSign s r j → ⊥
    from_best None is j h above = is.none refl j h above
    from_best (Some a) is j h above = not_chosen a is.some

    pub stuck_row : (j : ℕ) → j < variables s → signed_entry s r j ≤ℤ pos 0
    stuck_row j h = by_lt_z (pos 0) (signed_entry s r j)
        (λ above. absurd (from_best (best_there (variables s)).0 (best_there (variables s)).1 j h above))
        (λ past. past)
