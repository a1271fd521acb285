-- The ratio test finds exactly the dual simplex steps.
use Rattle.std.proofs.Common.{◌≡◌, ◌≢◌, ℕ, zero, suc, ◌<◌, unsigned_abs, ℤ, pos, negsuc, ◌-ℤ◌, ◌*ℤ◌, ◌≤ℤ◌, ◌<ℤ◌, ap, refl, sym, ◌∙◌, arith, subst, length}
use Rattle.std.proofs.lemmas.Int.{ints, by_lt_z}
use Rattle.std.proofs.Math.IntN.{*ℤ_comm}
use Rattle.wrp_sums.proofs.Integers.{linear, times_zero, *ℤ_assoc, *ℤ_left_comm, scale_le, scale_le_by, cancel_le, neg_ℤ-*ℤ, *ℤ-neg_ℤ, one-*ℤ}
use Rattle.wrp_tableau.specs.Equations.{common_factor, combined, without, sign_of}
use Rattle.wrp_tableau.specs.Systems.{System, variables, row, pivoted}
use Rattle.wrp_tableau.specs.Soundness.{IsSound}
use Rattle.wrp_simplex.specs.Steps.{pivot_entry, numerator, IsBroken, IsDualStep}
use Rattle.wrp_simplex.specs.Candidates.{signed_entry}
use Rattle.wrp_tableau.proofs.Factors.{factor_above, reduced_entry, reduced_right}
use Rattle.wrp_tableau.proofs.Pivots.{variables_kept, row_same, cost_is, basic_here, without_some, column}

-- column c has an entry with the sign of the right side, and the least reduced cost over such an
-- entry
pub record IsRatioLeast (t : System) (r c : ℕ) : Type 0 where
  pub there : c < variables t
  pub candidate : pos 0 <ℤ signed_entry t r c
  pub least : (j : ℕ) → j < variables t → pos 0 <ℤ signed_entry t r j
      → (t.cost.entry c *ℤ signed_entry t r j) ≤ℤ (t.cost.entry j *ℤ signed_entry t r c)

-- ---- signs

sign_positive : (s : ℤ) → pos 0 <ℤ s → sign_of s ≡ pos 1
sign_positive (pos s) h = refl
sign_positive (negsuc s) h = absurd (omega (arith, linear))

sign_negative : (s : ℤ) → s <ℤ pos 0 → sign_of s ≡ negsuc 0
sign_negative (pos s) h = absurd (omega (arith, ints))
sign_negative (negsuc s) h = refl

-- a number with the sign of b, times that sign, is its size
same_sign : (b p : ℤ) → pos 0 <ℤ (sign_of b *ℤ p) → sign_of p ≡ sign_of b
same_sign (pos b) p h = sign_positive p (omega (arith, linear, one-*ℤ p))
same_sign (negsuc b) p h = sign_negative p (omega (arith, linear, one-*ℤ p, neg_ℤ-*ℤ (pos 1) p))

size_is : (p : ℤ) → pos (unsigned_abs p) ≡ sign_of p *ℤ p
size_is (pos p) = sym (one-*ℤ (pos p))
size_is (negsuc p) = omega (arith, ints)

size_negative : (p : ℤ) → p ≢ pos 0 → pos 0 <ℤ (sign_of p *ℤ p)
size_negative (pos zero) h = absurd (h refl)
size_negative (pos (suc p)) h = omega (arith, linear, one-*ℤ (pos (suc p)))
size_negative (negsuc p) h = omega (arith, ints)

-- a positive multiple has the same sign
scaled_sign : (g : ℕ) (x y : ℤ) → 0 < g → pos g *ℤ x ≡ y → sign_of x ≡ sign_of y
scaled_sign g (pos x) y positive e = ap sign_of e
scaled_sign g (negsuc x) y positive e = sym (sign_negative y (omega (arith, linear, e, scale_le g (negsuc x) (negsuc 0) (omega (arith, linear)), *ℤ-neg_ℤ (pos g) (pos 1), *ℤ_comm (pos g) (pos 1), one-*ℤ (pos g))))

positive_from_scaled : (g : ℕ) (x : ℤ) → pos 0 <ℤ (pos g *ℤ x) → pos 0 <ℤ x
positive_from_scaled g (pos zero) h = absurd (omega (arith, linear, times_zero (pos g)))
positive_from_scaled g (pos (suc x)) h = omega (arith, linear)
positive_from_scaled g (negsuc x) h = absurd (omega (arith, ints))

scaled_positive : (g : ℕ) (x : ℤ) → 0 < g → pos 0 <ℤ x → pos 0 <ℤ (pos g *ℤ x)
scaled_positive g x positive above = omega (arith, linear, scale_le g (pos 1) x (omega (arith, linear)), *ℤ_comm (pos g) (pos 1), one-*ℤ (pos g))

scaled_not_negative : (g : ℕ) (x : ℤ) → pos 0 ≤ℤ x → pos 0 ≤ℤ (pos g *ℤ x)
scaled_not_negative g x above = omega (arith, linear, scale_le g (pos 0) x above, times_zero (pos g))

not_negative_from_scaled : (g : ℕ) (x : ℤ) → 0 < g → pos 0 ≤ℤ (pos g *ℤ x) → pos 0 ≤ℤ x
not_negative_from_scaled g x positive h = cancel_le g (pos 0) x positive (omega (arith, linear, times_zero (pos g)))

-- the new reduced cost in terms of the signed entries
new_cost : (p e x y s : ℤ) → sign_of p ≡ s → combined p e x y ≡ (s *ℤ p) *ℤ x -ℤ e *ℤ (s *ℤ y)
new_cost p e x y s h =
    omega (arith, linear, ap (λ (z : ℤ). z *ℤ x) (size_is p), ap (λ (z : ℤ). (z *ℤ p) *ℤ x) h, ap (λ (z : ℤ). (z *ℤ e) *ℤ y) h, *ℤ_assoc s e y, *ℤ_left_comm s e y)

module _ (t : System) (r c : ℕ) (sound : IsSound t) (broken : IsBroken t r) (entered : (row t r).entry c ≢ pos 0) where
  here : r < length t.rows
  here = broken.there

  right_some : (row t r).right ≢ pos 0
  right_some none = absurd (omega (arith, linear, broken.negative, ap (λ (z : ℤ). sign_of (pivot_entry t r) *ℤ z) none, times_zero (sign_of (pivot_entry t r))))

  within : c < variables t
  within = column t r c sound here entered

  g_row : ℕ
  g_row = common_factor (suc (variables t)) (row t r)

  g_row_above : 0 < g_row
  unfolding g_row
  g_row_above = factor_above (suc (variables t)) (row t r) c (let h = within in omega arith) entered

  g_cost : ℕ
  g_cost = common_factor (suc (variables t)) (without c (row t r) t.cost)

  g_cost_above : 0 < g_cost
  unfolding g_cost
  g_cost_above = factor_above (suc (variables t)) (without c (row t r) t.cost) (variables t) (omega arith)
      (without_some t r c sound here entered t.cost (variables t) (sound.in_range r (variables t) here (omega arith)) (λ none. absurd (omega (arith, linear, none, sound.scaled))))

  new_entry : pos g_row *ℤ (row (pivoted t r c) r).entry c ≡ (row t r).entry c
  unfolding g_row
  new_entry = subst (λ e. pos (common_factor (suc (variables t)) (row t r)) *ℤ e.entry c ≡ (row t r).entry c) (sym (row_same t r c here)) (reduced_entry (suc (variables t)) (row t r) c (let h = within in omega arith))

  new_right : pos g_row *ℤ (row (pivoted t r c) r).right ≡ (row t r).right
  unfolding g_row
  new_right = subst (λ e. pos (common_factor (suc (variables t)) (row t r)) *ℤ e.right ≡ (row t r).right) (sym (row_same t r c here)) (reduced_right (suc (variables t)) (row t r))

  -- the new numerator, in terms of the old right side
  new_numerator : pos g_row *ℤ numerator (pivoted t r c) r ≡ sign_of ((row t r).entry c) *ℤ (row t r).right
  new_numerator =
      ap (λ (b : ℕ). pos g_row *ℤ (sign_of ((row (pivoted t r c) r).entry b) *ℤ (row (pivoted t r c) r).right)) (basic_here t r c sound here entered)
      ∙ ap (λ (s : ℤ). pos g_row *ℤ (s *ℤ (row (pivoted t r c) r).right)) (scaled_sign g_row ((row (pivoted t r c) r).entry c) ((row t r).entry c) g_row_above new_entry)
      ∙ *ℤ_left_comm (pos g_row) (sign_of ((row t r).entry c)) ((row (pivoted t r c) r).right)
      ∙ ap (λ (z : ℤ). sign_of ((row t r).entry c) *ℤ z) new_right

  new_reduced : (j : ℕ) → j < variables t → pos g_cost *ℤ (pivoted t r c).cost.entry j ≡ combined ((row t r).entry c) (t.cost.entry c) (t.cost.entry j) ((row t r).entry j)
  unfolding g_cost without
  new_reduced j h = subst (λ e. pos (common_factor (suc (variables t)) (without c (row t r) t.cost)) *ℤ e.entry j ≡ combined ((row t r).entry c) (t.cost.entry c) (t.cost.entry j) ((row t r).entry j)) (sym (cost_is t r c)) (reduced_entry (suc (variables t)) (without c (row t r) t.cost) j (omega arith))

  pub ratio_of_dual : IsDualStep t r c → IsRatioLeast t r c
  ratio_of_dual is =
      let p = (row t r).entry c in
      let b = (row t r).right in
      let up : pos 0 <ℤ (sign_of p *ℤ b) = subst (λ z. pos 0 <ℤ z) new_numerator (scaled_positive g_row (numerator (pivoted t r c) r) g_row_above is.positive) in
      let same : sign_of p ≡ sign_of b = sym (same_sign p b up) in
      record {
        there = within;
        candidate = subst (λ s. pos 0 <ℤ (s *ℤ p)) same (size_negative p entered);
        least = λ j h above.
            let new : pos 0 ≤ℤ combined p (t.cost.entry c) (t.cost.entry j) ((row t r).entry j) = subst (λ z. pos 0 ≤ℤ z) (new_reduced j h) (scaled_not_negative g_cost ((pivoted t r c).cost.entry j) (is.dual j (subst (λ n. j < n) (sym (variables_kept t r c)) h))) in
            omega (arith, linear, new, new_cost p (t.cost.entry c) (t.cost.entry j) ((row t r).entry j) (sign_of b) same, *ℤ_comm (sign_of b *ℤ p) (t.cost.entry j));
      }

  pub dual_of_ratio : ((j : ℕ) → j < variables t → pos 0 ≤ℤ t.cost.entry j) → IsRatioLeast t r c → IsDualStep t r c
  dual_of_ratio dual is =
      let p = (row t r).entry c in
      let b = (row t r).right in
      let same : sign_of p ≡ sign_of b = same_sign b p is.candidate in
      record {
        there = within;
        entry = entered;
        broken = broken;
        positive = positive_from_scaled g_row (numerator (pivoted t r c) r) (subst (λ z. pos 0 <ℤ z) (sym (new_numerator ∙ ap (λ (s : ℤ). s *ℤ b) same)) (size_negative b right_some));
        dual = λ j i. let h : j < variables t = subst (λ n. j < n) (variables_kept t r c) i in not_negative_from_scaled g_cost ((pivoted t r c).cost.entry j) g_cost_above (subst (λ z. pos 0 ≤ℤ z) (sym (new_reduced j h))
            (by_lt_z (pos 0) (signed_entry t r j)
            (λ above. omega (arith, linear, is.least j h above, new_cost p (t.cost.entry c) (t.cost.entry j) ((row t r).entry j) (sign_of b) same, *ℤ_comm (sign_of b *ℤ p) (t.cost.entry j)))
            (λ below. omega (
              arith,
              linear,
              new_cost p (t.cost.entry c) (t.cost.entry j) ((row t r).entry j) (sign_of b) same,
              scale_le_by (t.cost.entry c) (signed_entry t r j) (pos 0) (dual c within) below,
              times_zero (t.cost.entry c),
              scale_le_by (sign_of b *ℤ p) (pos 0) (t.cost.entry j) (omega (arith, linear, is.candidate)) (dual j h),
              times_zero (sign_of b *ℤ p),
            ))));
      }
