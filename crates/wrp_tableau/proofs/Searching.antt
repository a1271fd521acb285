-- A number searched among ascending terms.
use Rattle.std.proofs.Common.{◌≡◌, ◌≢◌, ◌≤◌, ◌<◌, ℕ, ℤ, pos, true, false, List, get_or, length, AllPairs, arith, eq-or-lt_of_le, inl, inr, ap, sym, subst}
use Rattle.std.specs.List.{AllWithin}
use Rattle.std.specs.List.Sorted.{IsNonDecreasingBy}
use Rattle.std.proofs.lemmas.Bool.{cases_lt, ltb-true, ltb-false}
use Rattle.std.proofs.lemmas.List.Elements.{All-from_get_or}
use Rattle.std.proofs.Math.Dec.{ltb}
use Rattle.wrp_sums.specs.Sums.{coef_at}
use Rattle.wrp_tableau.specs.Sparse.{number_at}
use Rattle.wrp_tableau.proofs.Factoring.{coef_absent}

pub numbers_rise : (terms : List (ℕ × ℤ)) → AllPairs (λ s t. s.0 < t.0) terms → IsNonDecreasingBy (λ t. t.0) terms
numbers_rise terms ascending i j d h below = elim (eq-or-lt_of_le h) [
  | inl same ↦ (let e = ap (λ (k : ℕ). (get_or terms k d).0) same in omega arith)
  | inr less ↦ (let e = ascending i j d less below in omega arith)
]

-- behind those below it and before those that are not, a number has a term at that place or none
pub not_there : (terms : List (ℕ × ℤ)) (number at : ℕ) → AllPairs (λ s t. s.0 < t.0) terms
    → AllWithin (λ t. ltb t.0 number ≡ true) terms 0 at → AllWithin (λ t. ltb t.0 number ≡ false) terms at (length terms)
    → (at < length terms → number_at terms at ≢ number) → coef_at terms number ≡ pos 0
not_there terms number at ascending below above other =
    coef_absent terms number (All-from_get_or (λ t. t.0 ≢ number) terms (0, pos 0) (λ k h. elim (cases_lt k at) [
      | inl before ↦ (let less : (get_or terms k (0, pos 0)).0 < number = ltb-true (get_or terms k (0, pos 0)).0 number (below k (0, pos 0) (omega arith) before) in λ (e : (get_or terms k (0, pos 0)).0 ≡ number). absurd (omega arith))
      | inr past ↦ elim (eq-or-lt_of_le past) [
        | inl same ↦ subst (λ i. number_at terms i ≢ number) same (other (subst (λ i. i < length terms) (sym same) h))
        | inr later ↦
            (let here : at < length terms = omega arith in
            let up : (get_or terms at (0, pos 0)).0 < (get_or terms k (0, pos 0)).0 = ascending at k (0, pos 0) later h in
            let least : number ≤ (get_or terms at (0, pos 0)).0 = ltb-false (get_or terms at (0, pos 0)).0 number (above at (0, pos 0) (omega arith) here) in
            λ (e : (get_or terms k (0, pos 0)).0 ≡ number). absurd (omega arith))
      ]
    ]))
