-- Places among ascending terms.
use Rattle.std.proofs.Common.{◌≡◌, ◌≢◌, ℕ, ◌+◌, ◌<◌, ◌≤◌, ℤ, pos, true, false, List, length, get_or, AllPairs, arith, eq-or-lt_of_le, inl, inr, subst}
use Rattle.std.specs.List.{AllWithin}
use Rattle.std.proofs.lemmas.Bool.{cases_lt, ltb-true, ltb-false}
use Rattle.std.proofs.lemmas.List.Elements.{All-from_get_or}
use Rattle.std.proofs.Math.Dec.{ltb}
use Rattle.wrp_sums.specs.Sums.{coef_at}
use Rattle.wrp_tableau.specs.Sparse.{number_at}
use Rattle.wrp_tableau.proofs.Factoring.{coef_absent, entry_at_term}
use Rattle.wrp_round.specs.Places.{IsPlace}

-- a partition by a number is its place
pub place_from_partition : (terms : List (ℕ × ℤ)) (at number : ℕ) → at ≤ length terms
    → AllWithin (λ t. ltb t.0 number ≡ true) terms 0 at → AllWithin (λ t. ltb t.0 number ≡ false) terms at (length terms) → IsPlace terms at number
place_from_partition terms at number within below above = record {
  within = within;
  before = λ k h. ltb-true (get_or terms k (0, pos 0)).0 number (below k (0, pos 0) (omega arith) h);
  behind = λ k low h. ltb-false (get_or terms k (0, pos 0)).0 number (above k (0, pos 0) low h);
}

module _ (terms : List (ℕ × ℤ)) (at number : ℕ) (ascending : AllPairs (λ s t. s.0 < t.0) terms) (place : IsPlace terms at number) where
  -- a term at the place with the number has the number's entry
  pub entry_there : at < length terms → number_at terms at ≡ number → coef_at terms number ≡ (get_or terms at (0, pos 0)).1
  entry_there here same = subst (λ n. coef_at terms n ≡ (get_or terms at (0, pos 0)).1) same (entry_at_term terms at ascending here)

  -- where the term there has another number, so has every term
  differs : (at < length terms → number_at terms at ≢ number) → (k : ℕ) → k < length terms → number_at terms k ≢ number
  differs other k h = elim (cases_lt k at) [
    | inl before ↦ (let less = place.before k before in λ (e : number_at terms k ≡ number). absurd (omega arith))
    | inr past ↦ elim (eq-or-lt_of_le past) [
      | inl same ↦ subst (λ i. number_at terms i ≢ number) same (other (omega arith))
      | inr later ↦
          (let here : at < length terms = omega arith in
          let up : number_at terms at < number_at terms k = ascending at k (0, pos 0) later h in
          let least = place.behind at (omega arith) here in
          λ (e : number_at terms k ≡ number). absurd (omega arith))
    ]
  ]

  pub entry_absent : (at < length terms → number_at terms at ≢ number) → coef_at terms number ≡ pos 0
  entry_absent other = coef_absent terms number (All-from_get_or (λ t. t.0 ≢ number) terms (0, pos 0) (differs other))

  pub place_after : at < length terms → number_at terms at ≡ number → IsPlace terms (at + 1) (number + 1)
  place_after here same = record {
    within = omega arith;
    before = λ k h. elim (cases_lt k at) [
      | inl before ↦ (let less = place.before k before in omega arith)
      | inr past ↦ (let e : at ≡ k = omega arith in subst (λ i. number_at terms i < number + 1) e (omega arith))
    ];
    behind = λ k low h. (let up : number_at terms at < number_at terms k = ascending at k (0, pos 0) (omega arith) h in omega arith);
  }

  pub place_still : (at < length terms → number_at terms at ≢ number) → IsPlace terms at (number + 1)
  place_still other = record {
    within = place.within;
    before = λ k h. (let less = place.before k h in omega arith);
    behind = λ k low h. (let least = place.behind k low h in let apart = differs other k h in omega arith);
  }
