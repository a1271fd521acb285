-- The equation that a merge makes, with the code's casts.
use Rattle.std.proofs.Common.{◌≡◌, ◌≢◌, ℕ, ◌<◌, ◌≤◌, ◌^◌, unsigned_abs, ℤ, pos, ◌+ℤ◌, ◌*ℤ◌, neg_ℤ, List, [], ◌∷◌, length, get_or, All, ap, sym, ◌∙◌, arith, inl, inr, ◌⊎◌}
use Rattle.std.specs.Int.{w128}
use Rattle.std.proofs.Math.Path.{fun_ext}
use Rattle.std.proofs.lemmas.Bool.{cases_lt}
use Rattle.std.proofs.lemmas.List.Elements.{All-from_get_or}
use mir.Val.{to_z, of_z}
use Rattle.wrp_sums.specs.Sums.{coef_at}
use Rattle.wrp_sums.proofs.Integers.{linear, neg_ℤ-*ℤ, times_zero}
use Rattle.wrp_tableau.specs.Equations.{Equation, sign_of, combined, without}
use Rattle.wrp_tableau.specs.Sparse.{IsSparse, dense}
use Rattle.wrp_tableau.proofs.Factoring.{cast, coef_absent, entry_at_term}

combined_is : (p e a b x y : ℤ) → a ≡ pos (unsigned_abs p) → b ≡ neg_ℤ (sign_of p *ℤ e) → a *ℤ x +ℤ b *ℤ y ≡ combined p e x y
combined_is p e a b x y h i = rw (h, i) (omega (arith, linear, neg_ℤ-*ℤ (sign_of p *ℤ e) y))

-- the terms and the right side w are xs and rx without their entry at c, by means of ys and ry
pub record IsCombination (c : ℕ) (xs ys : List (ℕ × ℤ)) (rx ry : ℤ) (terms : List (ℕ × ℤ)) (w : ℤ) : Type 0 where
  pub is : dense terms w ≡ without c (dense ys ry) (dense xs rx)
  -- and have no new numbers
  pub within : (n : ℕ) → All (λ t. t.0 < n) xs → All (λ t. t.0 < n) ys → All (λ t. t.0 < n) terms

module _ (c : ℕ) (xs ys : List (ℕ × ℤ)) (rx ry : ℤ) (terms : List (ℕ × ℤ)) (p e a b w : ℤ) (x_small : unsigned_abs rx ≤ 2 ^ 60) (y_small : unsigned_abs ry ≤ 2 ^ 60) (p_is : p ≡ coef_at ys c) (p_small : unsigned_abs p ≤ 2 ^ 60) (e_is : e ≡ coef_at xs c) (e_small : unsigned_abs e ≤ 2 ^ 60)
    (a_is : a ≡ pos (unsigned_abs (to_z w128 (of_z w128 p)))) (b_is : b ≡ neg_ℤ (sign_of (to_z w128 (of_z w128 p)) *ℤ to_z w128 (of_z w128 e))) (b_small : unsigned_abs b ≤ 2 ^ 60)
    (coefs : (j : ℕ) → coef_at terms j ≡ to_z w128 (of_z w128 a) *ℤ coef_at xs j +ℤ to_z w128 (of_z w128 b) *ℤ coef_at ys j)
    (w_is : w ≡ to_z w128 (of_z w128 a) *ℤ to_z w128 (of_z w128 rx) +ℤ to_z w128 (of_z w128 b) *ℤ to_z w128 (of_z w128 ry)) (w_small : unsigned_abs w ≤ 2 ^ 121) where
  p_cast : to_z w128 (of_z w128 p) ≡ coef_at ys c
  p_cast = cast p (omega arith) ∙ p_is

  e_cast : to_z w128 (of_z w128 e) ≡ coef_at xs c
  e_cast = cast e (omega arith) ∙ e_is

  a_value : to_z w128 (of_z w128 a) ≡ pos (unsigned_abs (coef_at ys c))
  a_value =
      let is : a ≡ pos (unsigned_abs p) = a_is ∙ ap (λ (z : ℤ). pos (unsigned_abs z)) (cast p (omega arith)) in
      let small : unsigned_abs a ≤ 2 ^ 60 = rw is p_small in
      cast a (omega arith) ∙ is ∙ ap (λ (z : ℤ). pos (unsigned_abs z)) p_is

  b_value : to_z w128 (of_z w128 b) ≡ neg_ℤ (sign_of (coef_at ys c) *ℤ coef_at xs c)
  b_value = cast b (omega arith) ∙ b_is ∙ ap (λ (z : ℤ). neg_ℤ (sign_of z *ℤ to_z w128 (of_z w128 e))) p_cast ∙ ap (λ (z : ℤ). neg_ℤ (sign_of (coef_at ys c) *ℤ z)) e_cast

  right_value : to_z w128 (of_z w128 w) ≡ combined (coef_at ys c) (coef_at xs c) rx ry
  right_value =
      cast w w_small ∙ w_is
      ∙ rw (cast rx (omega arith), cast ry (omega arith)) (combined_is (coef_at ys c) (coef_at xs c) (to_z w128 (of_z w128 a)) (to_z w128 (of_z w128 b)) rx ry a_value b_value)

  pub without_is : dense terms (to_z w128 (of_z w128 w)) ≡ without c (dense ys ry) (dense xs rx)
  unfolding without
  without_is =
      ap (λ (r : ℤ). dense terms r) right_value
      ∙ ap (λ (f : ℕ → ℤ). record { entry = f; right = combined (coef_at ys c) (coef_at xs c) rx ry })
      (fun_ext (λ j. coefs j ∙ combined_is (coef_at ys c) (coef_at xs c) (to_z w128 (of_z w128 a)) (to_z w128 (of_z w128 b)) (coef_at xs j) (coef_at ys j) a_value b_value))

  -- no new numbers
  pub within : (n limit : ℕ) → IsSparse limit terms → All (λ t. t.0 < n) xs → All (λ t. t.0 < n) ys → All (λ t. t.0 < n) terms
  within n limit sparse x_within y_within = All-from_get_or (λ t. t.0 < n) terms (0, pos 0) (λ k h. by k h (cases_lt (get_or terms k (0, pos 0)).0 n))
    where
      by : (k : ℕ) → k < length terms → ((get_or terms k (0, pos 0)).0 < n) ⊎ (n ≤ (get_or terms k (0, pos 0)).0) → (get_or terms k (0, pos 0)).0 < n
      by k h (inl below) = below
      by k h (inr past) =
          let j = (get_or terms k (0, pos 0)).0 in
          let x_none : coef_at xs j ≡ pos 0 = coef_absent xs j (λ i d m. let b = x_within i d m in λ (same : (get_or xs i d).0 ≡ j). absurd (omega arith)) in
          let y_none : coef_at ys j ≡ pos 0 = coef_absent ys j (λ i d m. let b = y_within i d m in λ (same : (get_or ys i d).0 ≡ j). absurd (omega arith)) in
          let none : coef_at terms j ≡ pos 0 = coefs j ∙ rw (x_none, y_none) (omega (arith, linear, times_zero (to_z w128 (of_z w128 a)), times_zero (to_z w128 (of_z w128 b)))) in
          absurd (sparse.some k (0, pos 0) h (sym (entry_at_term terms k sparse.ascending h) ∙ none))

  pub combination : (limit : ℕ) → IsSparse limit terms → IsCombination c xs ys rx ry terms (to_z w128 (of_z w128 w))
  combination limit sparse = record { is = without_is; within = λ n. within n limit sparse }

-- an equation with an entry has a term
pub has_term : (terms : List (ℕ × ℤ)) (right : ℤ) (e : Equation) → dense terms right ≡ e → (j : ℕ) × (e.entry j ≢ pos 0) → 0 < length terms
has_term [] right e is (j, some) = absurd (some (ap (λ (f : Equation). f.entry j) (sym is)))
has_term (t ∷ terms) right e is some = omega arith
