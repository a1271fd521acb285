-- The coefficient of an arc in terms that ascend, as a binary search finds it.
use Rattle.std.proofs.Common.{◌≡◌, ◌≢◌, ℕ, suc, zero, ◌<◌, ◌≤◌, Bool, true, false, cond, ◌==◌, AllPairs, ℤ, pos, List, [], ◌∷◌, length, get_or, ap, refl, sym, ◌∙◌, inl, inr, arith, eq-eqb, eq-or-lt_of_le}
use Rattle.std.specs.declared.cmp.Ordering.TheVariants.{Less, Equal, Greater}
use Rattle.std.specs.List.Sorted.{IsNonDecreasingBy, IsPartitionPoint}
use Rattle.std.specs.Ordering.{nat_cmp, ordering_index}
use Rattle.std.proofs.lemmas.Bool.{ne_eqb, cases_lt}
use Rattle.std.proofs.lemmas.Bool.Decides.{nat_tests}
use Rattle.std.proofs.lemmas.Cmp.{ranked}
use Rattle.wrp_sums.specs.Sums.{coef_at}
use Rattle.wrp_sums.proofs.Integers.{linear}
use Rattle.wrp_sums.proofs.SumsOver.{sum_over-all_zero}

-- an arc that no term has
pub coef_missed : (terms : List (ℕ × ℤ)) (arc : ℕ) → ((k : ℕ) (d : ℕ × ℤ) → k < length terms → (get_or terms k d).0 ≢ arc) → coef_at terms arc ≡ pos 0
coef_missed terms arc others =
    sum_over-all_zero (λ t. cond (t.0 == arc) t.1 (pos 0)) terms
    (λ t inside. ap (λ (b : Bool). cond b t.1 (pos 0)) (ne_eqb t.0 arc (λ same. others inside.0 t inside.1 (ap (λ (u : ℕ × ℤ). u.0) inside.2 ∙ same))))

-- the arc of a term
pub coef_hit : (terms : List (ℕ × ℤ)) (i : ℕ) (d : ℕ × ℤ) → AllPairs (λ t u. t.0 < u.0) terms → i < length terms → coef_at terms (get_or terms i d).0 ≡ (get_or terms i d).1
coef_hit [] i d ascending below = absurd (omega arith)
coef_hit (t ∷ terms) zero d ascending below =
    let own : (t.0 == t.0) ≡ true = eq-eqb t.0 t.0 refl in
    let rest : coef_at terms t.0 ≡ pos 0 = coef_missed terms t.0 (λ k e inside same. let less : t.0 < (get_or terms k e).0 = ascending 0 (suc k) e (omega arith) (omega arith) in omega arith) in
    omega (arith, linear, ap (λ (b : Bool). cond b t.1 (pos 0)) own)
coef_hit (t ∷ terms) (suc i) d ascending below =
    let less : t.0 < (get_or terms i d).0 = ascending 0 (suc i) d (omega arith) (omega arith) in
    let other : (t.0 == (get_or terms i d).0) ≡ false = ne_eqb t.0 (get_or terms i d).0 (λ e. absurd (omega arith)) in
    omega (arith, linear, ap (λ (b : Bool). cond b t.1 (pos 0)) other, coef_hit terms i d (λ k j e early late. ascending (suc k) (suc j) e (omega arith) (omega arith)) (omega arith))

-- ---- what a binary search by arc answers

module _ (terms : List (ℕ × ℤ)) (ascending : AllPairs (λ t u. t.0 < u.0) terms) (arc : ℕ) where
  -- the comparisons with the arc rise along the terms
  comparisons_rise : IsNonDecreasingBy (λ t. ordering_index (nat_cmp t.0 arc)) terms
  comparisons_rise i j d le inside =
      let rise : (get_or terms i d).0 ≤ (get_or terms j d).0 = arcs_rise i j d le inside in
      grind (arith, nat_tests)
    where
      arcs_rise : (i j : ℕ) (d : ℕ × ℤ) → i ≤ j → j < length terms → (get_or terms i d).0 ≤ (get_or terms j d).0
      arcs_rise i j d le inside =
          elim (eq-or-lt_of_le le) [
            | inl same ↦ omega (arith, ap (λ (k : ℕ). (get_or terms k d).0) same)
            | inr less ↦ (let h = ascending i j d less inside in omega arith)
          ]

  pub found : (at : ℕ) → at < length terms → ((d : ℕ × ℤ) → nat_cmp (get_or terms at d).0 arc ≡ Equal) → coef_at terms arc ≡ (get_or terms at (0, pos 0)).1
  found at inside equal =
      let same : (get_or terms at (0, pos 0)).0 ≡ arc = ranked (get_or terms at (0, pos 0)).0 arc Equal (sym (equal (0, pos 0))) in
      ap (coef_at terms) (sym same) ∙ coef_hit terms at (0, pos 0) ascending inside

  pub absent : (at : ℕ) → (IsNonDecreasingBy (λ t. ordering_index (nat_cmp t.0 arc)) terms → IsPartitionPoint (λ t. nat_cmp t.0 arc ≡ Less) (λ t. nat_cmp t.0 arc ≡ Greater) terms at) → coef_at terms arc ≡ pos 0
  absent at parted =
      coef_missed terms arc (λ k d inside same.
      elim (cases_lt k at) [
        | inl before ↦ (let less = ranked (get_or terms k d).0 arc Less (sym ((parted comparisons_rise).0 k d (omega arith) before)) in omega arith)
        | inr behind ↦ (let more = ranked (get_or terms k d).0 arc Greater (sym ((parted comparisons_rise).1 k d behind inside)) in omega arith)
      ])
