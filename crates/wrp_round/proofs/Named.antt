-- The multipliers of a rounding, one after another.
use Rattle.std.proofs.Common.{◌≡◌, ℕ, ◌+◌, ◌*◌, ◌%◌, ◌==◌, Bool, cond, not, ℤ, unsigned_abs, List, [], ◌∷◌, ◌++◌, ap, sym, ◌∙◌, subst, arith, eq-eqb}
use Rattle.std.specs.Prelude.{slice_index, nat_eq, IsTrue}
use Rattle.std.specs.Int.{◌∣◌}
use Rattle.std.proofs.lemmas.Bool.{ne_eqb, eqb-true}
use Rattle.std.proofs.lemmas.Nat.Gcd.{dvd_of_mod-eq-zero, mod-eq-zero_of_dvd}
use Rattle.std.proofs.lemmas.List.{append-nil}
use Rattle.std.proofs.lemmas.List.FromFn.{filter_of_map_range_with_len_more}
use Rattle.wrp_tableau.specs.Systems.{System, row, basic}
use Rattle.wrp_simplex.specs.Steps.{pivot_entry}
use Rattle.wrp_lp.specs.Reading.{IsWhole, IsValueWhole}
use Rattle.wrp_round.specs.Roundings.{multiplier, rounding_multiplier, first_pairs}

-- ---- one more line

module _ (s : System) (chosen : List ℕ) (r i : ℕ) (pairs : List (ℕ × ℕ)) (so_far : pairs ≡ first_pairs s chosen r i) where
  more : first_pairs s chosen r (i + 1) ≡ pairs ++ cond (not (rounding_multiplier s r i == 0)) ((slice_index chosen i, rounding_multiplier s r i) ∷ []) []
  more =
      filter_of_map_range_with_len_more (λ (q : ℕ × ℕ). not (q.1 == 0)) (λ (k : ℕ). (slice_index chosen k, rounding_multiplier s r k)) 0 i i (omega arith)
      ∙ ap (λ (xs : List (ℕ × ℕ)). xs ++ cond (not (rounding_multiplier s r i == 0)) ((slice_index chosen i, rounding_multiplier s r i) ∷ []) []) (sym so_far)

  pub pairs_push : (m : ℕ) → m ≡ rounding_multiplier s r i → (m ≡ 0 → ⊥) → pairs ++ (slice_index chosen i, m) ∷ [] ≡ first_pairs s chosen r (i + 1)
  pairs_push m is some =
      ap (λ (n : ℕ). pairs ++ (slice_index chosen i, n) ∷ []) is
      ∙ ap (λ (t : Bool). pairs ++ cond (not t) ((slice_index chosen i, rounding_multiplier s r i) ∷ []) []) (sym (ne_eqb (rounding_multiplier s r i) 0 (λ e. some (is ∙ e))))
      ∙ sym more

  pub pairs_same : rounding_multiplier s r i ≡ 0 → pairs ≡ first_pairs s chosen r (i + 1)
  pairs_same none =
      sym (append-nil pairs)
      ∙ ap (λ (t : Bool). pairs ++ cond (not t) ((slice_index chosen i, rounding_multiplier s r i) ∷ []) []) (sym (eq-eqb (rounding_multiplier s r i) 0 none))
      ∙ sym more

-- ---- the multiplier

-- the multiplier of a line, from what the code reads
pub multiplier_is : (s : System) (r width i : ℕ) (pivot entry : ℤ) (m : ℕ) → width ≡ s.width → pivot ≡ pivot_entry s r → entry ≡ (row s r).entry (width + i) → m ≡ multiplier pivot entry → m ≡ rounding_multiplier s r i
multiplier_is s r width i pivot entry m same is here told =
    told
    ∙ ap (λ (p : ℤ). multiplier p entry) is
    ∙ ap (multiplier (pivot_entry s r)) (here ∙ ap (λ (w : ℕ). (row s r).entry (w + i)) same)

-- ---- whole values

pub whole_test : (p q : ℤ) (a b : ℕ) → a ≡ unsigned_abs p → b ≡ unsigned_abs q → (IsTrue (nat_eq (a % b) 0) → IsWhole 1 p q) × (IsWhole 1 p q → IsTrue (nat_eq (a % b) 0))
whole_test p q a b first second = ((λ none. forth none), (λ whole. back whole))
  where
    once : 1 * unsigned_abs p ≡ a
    once = omega (arith, first)

    forth : IsTrue (nat_eq (a % b) 0) → unsigned_abs q ∣ 1 * unsigned_abs p
    forth none =
        let divides : b ∣ a = dvd_of_mod-eq-zero b (eqb-true (a % b) 0 none) in
        subst (λ n. unsigned_abs q ∣ n) (sym once) (subst (λ m. m ∣ a) second divides)

    back : unsigned_abs q ∣ 1 * unsigned_abs p → IsTrue (nat_eq (a % b) 0)
    back whole = eq-eqb (a % b) 0 (mod-eq-zero_of_dvd b (subst (λ m. m ∣ a) (sym second) (subst (λ n. unsigned_abs q ∣ n) once whole)))

pub whole_at : (s : System) (r b : ℕ) (numerator pivot : ℤ) → b ≡ basic s r → pivot ≡ (row s r).entry b → numerator ≡ (row s r).right → IsWhole 1 numerator pivot → IsValueWhole s 1 r
whole_at s r b numerator pivot same own side whole =
    subst (λ (z : ℤ). IsWhole 1 z (pivot_entry s r)) side
    (subst (λ (z : ℤ). IsWhole 1 numerator z) (own ∙ ap (λ (n : ℕ). (row s r).entry n) same) whole)
