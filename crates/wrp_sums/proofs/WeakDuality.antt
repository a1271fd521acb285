-- Weak duality: the value of multipliers is at most the cost of each solution.
use Rattle.std.proofs.Common.{◌≡◌, ℕ, ◌*◌, ◌≤◌, ◌<◌, Bool, true, false, cond, ℤ, pos, ◌+ℤ◌, ◌-ℤ◌, ◌*ℤ◌, neg_ℤ, ◌≤ℤ◌, ◌<ℤ◌, int_lt, int_le, List, Contains, ap, refl, sym, ◌∙◌, arith, zero-mul}
use Rattle.std.proofs.lemmas.Bool.{false_from_ne_true}
use Rattle.std.proofs.lemmas.Int.{ints}
use Rattle.wrp_sums.specs.Sums.{sum_over}
use Rattle.wrp_sums.specs.Rounding.{ceil_div}
use Rattle.wrp_sums.specs.Duality.{Program, IsSolution, least_term, reduced_cost, dual_value, row_sum, cost_sum}
use Rattle.wrp_sums.proofs.Integers.{linear, tests, *ℤ-+ℤ, +ℤ-*ℤ, neg_ℤ-*ℤ, *ℤ_assoc, *ℤ_left_comm, scale_le, scale_le_by, scale_ge_by, lt-true, lt-false}
use Rattle.wrp_sums.proofs.SumsOver.{sum_over-+ℤ, sum_over-*ℤ, sum_over-*ℤ_right, sum_over-ext, sum_over-≤ℤ, sum_over_exchange, sum_over-all_zero}
use Rattle.wrp_sums.proofs.RoundedUp.{IsCeilDiv-ceil_div}

-- the least term, scaled by e, is at most z times any number from lo e to hi e
pub least_term-≤ℤ : (z : ℤ) (lo hi e x : ℕ) → lo * e ≤ x → x ≤ hi * e → (pos e *ℤ least_term z lo hi) ≤ℤ (z *ℤ pos x)
least_term-≤ℤ z lo hi e x low high = by (int_lt z (pos 0)) refl
  where
    by : (t : Bool) → int_lt z (pos 0) ≡ t → (pos e *ℤ (z *ℤ pos (cond t hi lo))) ≤ℤ (z *ℤ pos x)
    by true negative =
        omega (
          arith,
          linear,
          *ℤ_left_comm (pos e) z (pos hi),
          scale_ge_by z (pos x) (pos e *ℤ pos hi) (omega (arith, linear, lt-true)) (omega (arith, ints)),
        )
    by false positive =
        omega (
          arith,
          linear,
          *ℤ_left_comm (pos e) z (pos lo),
          scale_le_by z (pos e *ℤ pos lo) (pos x) (omega (arith, linear, lt-false)) (omega (arith, ints)),
        )

-- where z isn't negative, it is that at lo
pub least_term_at_lo : (z : ℤ) (lo hi : ℕ) → int_le (pos 0) z ≡ true → least_term z lo hi ≡ z *ℤ pos lo
least_term_at_lo z lo hi positive =
    let test : int_lt z (pos 0) ≡ false = false_from_ne_true (int_lt z (pos 0)) (λ negative. omega (arith, tests)) in
    ap (λ (t : Bool). z *ℤ pos (cond t hi lo)) test

module _ (p : Program) (d e : ℕ) (mult : List (ℕ × ℕ)) (x : ℕ → ℕ) where
  -- the sums that the proof goes through
  least_sum : ℤ
  least_sum = sum_over (λ a. least_term (reduced_cost p d mult a) (p.lo a) (p.hi a)) p.arcs

  reduced_sum : ℤ
  reduced_sum = sum_over (λ a. reduced_cost p d mult a *ℤ pos (x a)) p.arcs

  side_sum : ℤ
  side_sum = sum_over (λ q. pos q.1 *ℤ p.right_side q.0) mult

  weighted_rows : ℤ
  weighted_rows = sum_over (λ q. pos q.1 *ℤ row_sum p q.0 x) mult

  -- the share of each arc in the weighted rows
  shares : ℤ
  shares = sum_over (λ a. sum_over (λ q. pos q.1 *ℤ p.coef q.0 a) mult *ℤ pos (x a)) p.arcs

  least-≤-reduced : IsSolution p e mult x → (pos e *ℤ least_sum) ≤ℤ reduced_sum
  unfolding least_sum reduced_sum
  least-≤-reduced s =
      let least = λ (a : ℕ). least_term (reduced_cost p d mult a) (p.lo a) (p.hi a) in
      omega (
        arith,
        linear,
        sum_over-*ℤ (pos e) least p.arcs,
        sum_over-≤ℤ (λ a. pos e *ℤ least a) (λ a. reduced_cost p d mult a *ℤ pos (x a)) p.arcs
            (λ a inside. least_term-≤ℤ (reduced_cost p d mult a) (p.lo a) (p.hi a) e (x a) (s.at_least a inside) (s.at_most a inside)),
      )

  sides-≤-rows : IsSolution p e mult x → (pos e *ℤ side_sum) ≤ℤ weighted_rows
  unfolding side_sum weighted_rows
  sides-≤-rows s =
      omega (
        arith,
        linear,
        sum_over-*ℤ (pos e) (λ q. pos q.1 *ℤ p.right_side q.0) mult,
        sum_over-≤ℤ (λ q. pos e *ℤ (pos q.1 *ℤ p.right_side q.0)) (λ q. pos q.1 *ℤ row_sum p q.0 x) mult
            (λ q inside. omega (
              arith,
              linear,
              *ℤ_left_comm (pos e) (pos q.1) (p.right_side q.0),
              scale_le q.1 (pos e *ℤ p.right_side q.0) (row_sum p q.0 x) (s.meets q inside),
            )),
      )

  rows-are-shares : weighted_rows ≡ shares
  unfolding weighted_rows shares
  rows-are-shares =
      sum_over-ext (λ q. pos q.1 *ℤ row_sum p q.0 x) (λ q. sum_over (λ a. (pos q.1 *ℤ p.coef q.0 a) *ℤ pos (x a)) p.arcs)
      (λ q. sym (sum_over-*ℤ (pos q.1) (λ a. p.coef q.0 a *ℤ pos (x a)) p.arcs)
      ∙ sum_over-ext (λ a. pos q.1 *ℤ (p.coef q.0 a *ℤ pos (x a))) (λ a. (pos q.1 *ℤ p.coef q.0 a) *ℤ pos (x a))
      (λ a. sym (*ℤ_assoc (pos q.1) (p.coef q.0 a) (pos (x a)))) p.arcs) mult
      ∙ sum_over_exchange (λ q a. (pos q.1 *ℤ p.coef q.0 a) *ℤ pos (x a)) mult p.arcs
      ∙ sum_over-ext (λ a. sum_over (λ q. (pos q.1 *ℤ p.coef q.0 a) *ℤ pos (x a)) mult)
      (λ a. sum_over (λ q. pos q.1 *ℤ p.coef q.0 a) mult *ℤ pos (x a))
      (λ a. sum_over-*ℤ_right (λ q. pos q.1 *ℤ p.coef q.0 a) (pos (x a)) mult) p.arcs

  -- d times a cost is the reduced cost and the share of the rows
  split_cost : (c : ℕ) (share : ℤ) (n : ℕ) → pos d *ℤ pos (c * n) ≡ (pos (d * c) -ℤ share) *ℤ pos n +ℤ share *ℤ pos n
  split_cost c share n =
      omega (arith, linear, +ℤ-*ℤ (pos (d * c)) (neg_ℤ share) (pos n), neg_ℤ-*ℤ share (pos n), *ℤ_assoc (pos d) (pos c) (pos n))

  cost-is-split : pos d *ℤ cost_sum p x ≡ reduced_sum +ℤ shares
  unfolding reduced_sum shares
  cost-is-split =
      sym (sum_over-*ℤ (pos d) (λ a. pos (p.cost a * x a)) p.arcs)
      ∙ sum_over-ext (λ a. pos d *ℤ pos (p.cost a * x a))
      (λ a. reduced_cost p d mult a *ℤ pos (x a) +ℤ sum_over (λ q. pos q.1 *ℤ p.coef q.0 a) mult *ℤ pos (x a))
      (λ a. split_cost (p.cost a) (sum_over (λ q. pos q.1 *ℤ p.coef q.0 a) mult) (x a)) p.arcs
      ∙ sum_over-+ℤ (λ a. reduced_cost p d mult a *ℤ pos (x a))
      (λ a. sum_over (λ q. pos q.1 *ℤ p.coef q.0 a) mult *ℤ pos (x a)) p.arcs

  value-is-sum : dual_value p d mult ≡ side_sum +ℤ least_sum
  unfolding side_sum least_sum
  value-is-sum = refl

  -- the value of multipliers, scaled by e, is at most the cost of a solution over e, scaled by d
  pub weak_duality : IsSolution p e mult x → (pos e *ℤ dual_value p d mult) ≤ℤ (pos d *ℤ cost_sum p x)
  weak_duality s =
      omega (
        arith,
        linear,
        ap (λ (z : ℤ). pos e *ℤ z) value-is-sum,
        *ℤ-+ℤ (pos e) side_sum least_sum,
        least-≤-reduced s,
        sides-≤-rows s,
        rows-are-shares,
        cost-is-split,
      )

-- the value over d, rounded up, is at most the cost of a solution in whole numbers
pub whole_weak_duality : (p : Program) (d : ℕ) (mult : List (ℕ × ℕ)) (x : ℕ → ℕ) → 0 < d → IsSolution p 1 mult x → ceil_div (dual_value p d mult) d ≤ℤ cost_sum p x
whole_weak_duality p d mult x positive s =
    (IsCeilDiv-ceil_div (dual_value p d mult) d positive).least (cost_sum p x) (omega (arith, ints, weak_duality p d 1 mult x s))

-- where no arc has a cost, a value above 0 leaves no solution
pub no_solution : (p : Program) (e : ℕ) (mult : List (ℕ × ℕ)) (x : ℕ → ℕ) → 0 < e → ((a : ℕ) → Contains p.arcs a → p.cost a ≡ 0) → pos 0 <ℤ dual_value p 1 mult → IsSolution p e mult x → ⊥
no_solution p e mult x positive free above s =
    let none : cost_sum p x ≡ pos 0 = sum_over-all_zero (λ a. pos (p.cost a * x a)) p.arcs (λ a inside. rw (free a inside) (ap pos (zero-mul (x a)))) in
    omega (arith, ints, weak_duality p 1 e mult x s, scale_le e (pos 1) (dual_value p 1 mult) (omega (arith, linear)))
