-- The cost of a solution, by the cost row.
use Rattle.std.proofs.Common.{◌≡◌, ◌≢◌, ℕ, suc, ◌<◌, ◌==◌, cond, ℤ, pos, ◌+ℤ◌, ◌*ℤ◌, neg_ℤ, List, length, ap, refl, sym, ◌∙◌, arith, subst, eq-eqb, ◌↔◌}
use Rattle.std.proofs.lemmas.Bool.{ne_eqb}
use Rattle.wrp_sums.specs.Sums.{numbers_below}
use Rattle.wrp_sums.proofs.Integers.{linear, neg_ℤ-*ℤ, *ℤ-neg_ℤ, zero_times}
use Rattle.wrp_sums.proofs.SumsOver.{sum_over-same, sum_over-push}
use Rattle.wrp_sums.proofs.FirstNumbers.{below_of_inside}
use Rattle.wrp_tableau.specs.Equations.{Equation}
use Rattle.wrp_tableau.specs.Systems.{System, variables, row, pivoted}
use Rattle.wrp_tableau.specs.Solutions.{left_side, Solves, IsSolution, HaveSameSolutions, cost_at, HasCosts}
use Rattle.wrp_tableau.specs.Soundness.{IsSound}
use Rattle.wrp_tableau.proofs.Pivots.{rows_kept, variables_kept, solves_old, solves_new, cost_new}

-- x with the cost as number n
abbrev with_cost : ℕ → ℤ → (ℕ → ℤ) → ℕ → ℤ
with_cost n cost x j = cond (j == n) cost (x j)

with_cost-before : (n : ℕ) (cost : ℤ) (x : ℕ → ℤ) (e : Equation) → left_side n e (with_cost n cost x) ≡ left_side n e x
with_cost-before n cost x e =
    sum_over-same (λ j. e.entry j *ℤ with_cost n cost x j) (λ j. e.entry j *ℤ x j) (numbers_below n)
    (λ j inside. let below : j < n = below_of_inside n j inside in rw (ne_eqb j n (λ (same : j ≡ n). absurd (omega arith))) refl)

with_cost-after : (n : ℕ) (cost : ℤ) (x : ℕ → ℤ) (e : Equation) → left_side (suc n) e (with_cost n cost x) ≡ left_side n e x +ℤ e.entry n *ℤ cost
with_cost-after n cost x e =
    sum_over-push (λ j. e.entry j *ℤ with_cost n cost x j) (numbers_below n) n
    ∙ (let last : e.entry n *ℤ with_cost n cost x n ≡ e.entry n *ℤ cost = rw (eq-eqb n n refl) refl in
    omega (arith, linear, last, with_cost-before n cost x e))

-- the cost row says what the cost is
cost_row_is : (n : ℕ) (d cost : ℤ) (x : ℕ → ℤ) (e : Equation)
    → Solves (suc n) d (with_cost n cost x) e ↔ (neg_ℤ (e.entry n) *ℤ cost ≡ d *ℤ neg_ℤ e.right +ℤ left_side n e x)
cost_row_is n d cost x e = (
  (λ s. omega (arith, linear, s, with_cost-after n cost x e, neg_ℤ-*ℤ (e.entry n) cost, *ℤ-neg_ℤ d e.right)),
  (λ s. omega (arith, linear, s, with_cost-after n cost x e, neg_ℤ-*ℤ (e.entry n) cost, *ℤ-neg_ℤ d e.right)),
)

module _ (s : System) (r c : ℕ) (sound : IsSound s) (here : r < length s.rows) (some : (row s r).entry c ≢ pos 0) where
  old : (k : ℕ) → k < length (pivoted s r c).rows → k < length s.rows
  old k h = subst (λ n. k < n) (rows_kept s r c) h

  -- a pivot keeps the solutions
  pub same_solutions : HaveSameSolutions s (pivoted s r c)
  same_solutions d x = (
    (λ solves k h. subst (λ n. Solves n d x (row (pivoted s r c) k)) (sym (variables_kept s r c))
        (solves_new s r c sound here some (variables s) d x k (omega arith) (old k h) (solves r here) (solves k (old k h)))),
    (λ solves. solves_old s r c d x here some solves),
  )

  -- and what they cost
  pub costs_kept : (costs : List ℤ) → HasCosts costs s → HasCosts costs (pivoted s r c)
  costs_kept costs has d x solves =
      let n = variables s in
      let cost = cost_at costs x in
      let before : IsSolution s d x = solves_old s r c d x here some solves in
      let none : (row s r).entry n ≡ pos 0 = sound.in_range r n here (omega arith) in
      let own : Solves (suc n) d (with_cost n cost x) (row s r) =
      with_cost-after n cost x (row s r) ∙ omega (arith, linear, before r here, ap (λ (z : ℤ). z *ℤ cost) none, zero_times cost) in
      let last : Solves (suc n) d (with_cost n cost x) s.cost = (cost_row_is n d cost x s.cost).1 (has d x before) in
      let new : Solves (suc n) d (with_cost n cost x) (pivoted s r c).cost = cost_new s r c sound here some (suc n) d (with_cost n cost x) (omega arith) own last in
      subst (λ m. neg_ℤ ((pivoted s r c).cost.entry m) *ℤ cost ≡ d *ℤ neg_ℤ (pivoted s r c).cost.right +ℤ left_side m (pivoted s r c).cost x) (sym (variables_kept s r c))
      ((cost_row_is n d cost x (pivoted s r c).cost).0 new)
