-- What the multipliers are worth: at least the value of the cost row, and above 0 at a row without a dual simplex step.
use Rattle.std.proofs.Common.{◌≡◌, ◌≢◌, ℕ, zero, suc, ◌+◌, ◌*◌, ◌<◌, ◌≤◌, true, unsigned_abs, ℤ, pos, negsuc, ◌+ℤ◌, ◌*ℤ◌, neg_ℤ, ◌≤ℤ◌, ◌<ℤ◌, List, map, length, get_or, ap, refl, sym, ◌∙◌, arith, subst, zero-mul}
use Rattle.std.proofs.lemmas.Int.{ints}
use Rattle.wrp_sums.specs.Sums.{sum_over, numbers_below}
use Rattle.wrp_sums.specs.Duality.{dual_value, combine_rows, cost_sum}
use Rattle.wrp_sums.proofs.Integers.{linear, one-*ℤ, *ℤ_assoc, *ℤ_left_comm, neg_ℤ-*ℤ, *ℤ-+ℤ, scale_le}
use Rattle.wrp_sums.proofs.SumsOver.{sum_over-map, sum_over-same, sum_over-ext, sum_over-*ℤ, sum_over-all_zero}
use Rattle.wrp_sums.proofs.FirstNumbers.{below_of_inside, passes_of_inside}
use Rattle.wrp_town.specs.declared.town.Town.{Town}
use Rattle.wrp_town.specs.Arcs.{arcs, is_legal, legal_arcs, cost_or_zero}
use Rattle.wrp_town.proofs.TownLaws.{legal_below}
use Rattle.wrp_rows.specs.Pools.{SparseRow, sparse_at}
use Rattle.wrp_tableau.specs.declared.line.Line.{Line}
use Rattle.wrp_tableau.specs.Equations.{Equation, sign_of}
use Rattle.wrp_tableau.specs.Systems.{System, variables, row, scale, value, reduced_cost}
use Rattle.wrp_tableau.specs.Solutions.{left_side, IsSolution, cost_at, HasCosts}
use Rattle.wrp_tableau.proofs.Starts.{length-line_rows}
use Rattle.wrp_tableau.proofs.Differences.{*ℤ_minus}
use Rattle.wrp_simplex.specs.Steps.{IsDualFeasible}
use Rattle.wrp_lp.specs.Relaxed.{width, row_line, lines_of, costs_of, relaxation}
use Rattle.wrp_lp.specs.Programs.{program, free_program}
use Rattle.wrp_lp.proofs.Slacks.{surplus, extended, extended_variable, extended_solves}
use Rattle.wrp_simplex.specs.Follows.{Follows}
use Rattle.wrp_lp.proofs.ArcLines.{row_sum_is, costs_sum_is, lines_long}
use Rattle.wrp_lp.proofs.Boxes.{chosen_part}
use Rattle.wrp_lp.proofs.Values.{cheapest, cheapest_within, left_over, value_of_cheapest}

-- what numbers leave over in a row is by how much they more than meet its line
pub left_over_is : (town : Town) (rows : List SparseRow) (lo hi x : ℕ → ℕ) (r : ℕ) → left_over (program town rows lo hi) x r ≡ surplus (width town) (row_line town (sparse_at rows r)) (pos 1) (λ a. pos (x a))
unfolding row_line
left_over_is town rows lo hi x r = omega (arith, linear, row_sum_is town (sparse_at rows r) (λ a. pos (x a)), one-*ℤ (sparse_at rows r).right_side)

-- each chosen row with a number for its place
abbrev pub paired : List ℕ → (ℕ → ℕ) → List (ℕ × ℕ)
paired chosen y = map (λ i. (get_or chosen i 0, y i)) (numbers_below (length chosen))

module _ (town : Town) (rows : List SparseRow) (chosen : List ℕ) (lo hi : ℕ → ℕ) (ordered : (arc : ℕ) → is_legal town arc ≡ true → lo arc ≤ hi arc) (t : System) (follows : Follows (relaxation town rows chosen lo hi) t) where
  abbrev w : ℕ
  w = width town

  abbrev lines : List Line
  lines = lines_of town rows chosen lo hi

  variables_are : variables t ≡ w + length lines
  variables_are = let a = follows.width in let b = follows.rows in let c = length-line_rows w lines in omega arith

  abbrev surplus_at : (ℕ → ℕ) → ℕ → ℤ
  surplus_at x i = surplus w (row_line town (sparse_at rows (get_or chosen i 0))) (pos 1) (λ a. pos (x a))

  combined_is : (x y : ℕ → ℕ) → combine_rows (paired chosen y) (left_over (program town rows lo hi) x) ≡ sum_over (λ i. pos (y i) *ℤ surplus_at x i) (numbers_below (length chosen))
  combined_is x y =
      sum_over-map (λ q. pos q.1 *ℤ left_over (program town rows lo hi) x q.0) (λ i. (get_or chosen i 0, y i)) (numbers_below (length chosen))
      ∙ sum_over-ext (λ i. pos (y i) *ℤ left_over (program town rows lo hi) x (get_or chosen i 0)) (λ i. pos (y i) *ℤ surplus_at x i)
      (λ i. ap (λ (z : ℤ). pos (y i) *ℤ z) (left_over_is town rows lo hi x (get_or chosen i 0))) (numbers_below (length chosen))

  abbrev point : (ℕ → ℕ) → ℕ → ℤ
  point x = extended w lines (pos 1) (λ a. pos (x a))

  point_solves : (x : ℕ → ℕ) → IsSolution t (pos 1) (point x)
  point_solves x = (follows.solutions (pos 1) (point x)).0 (extended_solves w lines (costs_of town) (lines_long town rows chosen lo hi) (pos 1) (λ a. pos (x a)))

  point_costs : (x : ℕ → ℕ) → cost_at (costs_of town) (point x) ≡ cost_sum (program town rows lo hi) x
  point_costs x =
      costs_sum_is town (point x)
      ∙ sum_over-same (λ a. pos (cost_or_zero town a) *ℤ point x a) (λ a. pos (cost_or_zero town a * x a)) (legal_arcs town)
      (λ a inside. ap (λ (z : ℤ). pos (cost_or_zero town a) *ℤ z)
      (extended_variable w lines (costs_of town) (lines_long town rows chosen lo hi) (pos 1) (λ a. pos (x a)) a (legal_below town a (passes_of_inside (is_legal town) (arcs town) a inside))))

  -- the multipliers over den are worth at least the value of the cost row over its scale
  pub worth_the_value : (den : ℕ) (y : ℕ → ℕ) → HasCosts (costs_of town) t → IsDualFeasible t
      → ((i : ℕ) → i < length chosen → scale t *ℤ pos (y i) ≡ pos den *ℤ reduced_cost t (w + i))
      → (pos den *ℤ value t) ≤ℤ (scale t *ℤ dual_value (program town rows lo hi) den (paired chosen y))
  worth_the_value den y costs dual scaled =
      let p = program town rows lo hi in
      let s = scale t in
      let x = cheapest p den (paired chosen y) in
      let n = length chosen in
      let left = left_side (w + length lines) t.cost (point x) in
      let spent : s *ℤ cost_sum p x ≡ pos 1 *ℤ value t +ℤ left =
      ap (λ (z : ℤ). s *ℤ z) (sym (point_costs x)) ∙ costs (pos 1) (point x) (point_solves x) ∙ ap (λ (m : ℕ). pos 1 *ℤ value t +ℤ left_side m t.cost (point x)) variables_are in
      let part = chosen_part town rows chosen lo hi x (λ arc legal. cheapest_within p den (paired chosen y) arc (ordered arc legal)) t.cost
      (λ j below. dual j (let e = variables_are in omega arith)) in
      let sums : s *ℤ sum_over (λ i. pos (y i) *ℤ surplus_at x i) (numbers_below n) ≡ pos den *ℤ sum_over (λ i. reduced_cost t (w + i) *ℤ surplus_at x i) (numbers_below n) =
      sym (sum_over-*ℤ s (λ i. pos (y i) *ℤ surplus_at x i) (numbers_below n))
      ∙ sum_over-same (λ i. s *ℤ (pos (y i) *ℤ surplus_at x i)) (λ i. pos den *ℤ (reduced_cost t (w + i) *ℤ surplus_at x i)) (numbers_below n)
      (λ i inside. sym (*ℤ_assoc s (pos (y i)) (surplus_at x i)) ∙ ap (λ (z : ℤ). z *ℤ surplus_at x i) (scaled i (below_of_inside n i inside)) ∙ *ℤ_assoc (pos den) (reduced_cost t (w + i)) (surplus_at x i))
      ∙ sum_over-*ℤ (pos den) (λ i. reduced_cost t (w + i) *ℤ surplus_at x i) (numbers_below n) in
      let b = combine_rows (paired chosen y) (left_over p x) in
      omega (
        arith,
        linear,
        ap (λ (z : ℤ). s *ℤ z) (value_of_cheapest p den (paired chosen y)),
        *ℤ_minus s (pos den *ℤ cost_sum p x) b,
        *ℤ_left_comm s (pos den) (cost_sum p x),
        ap (λ (z : ℤ). pos den *ℤ z) spent,
        *ℤ-+ℤ (pos den) (pos 1 *ℤ value t) left,
        ap (λ (z : ℤ). pos den *ℤ z) (one-*ℤ (value t)),
        scale_le den (sum_over (λ i. reduced_cost t (w + i) *ℤ surplus_at x i) (numbers_below n)) left part,
        sums,
        ap (λ (z : ℤ). s *ℤ z) (combined_is x y),
      )

  -- an entry whose sign isn't that of the right side
  against : (b e : ℤ) → (sign_of b *ℤ e) ≤ℤ pos 0 → pos (unsigned_abs e) ≡ neg_ℤ (sign_of b *ℤ e)
  against (pos b) (pos e) h = omega (arith, linear, one-*ℤ (pos e))
  against (pos b) (negsuc e) h = omega (arith, ints)
  against (negsuc b) (pos e) h = omega (arith, ints)
  against (negsuc b) (negsuc e) h = omega (arith, ints)

  size_of_right : (b : ℤ) → b ≢ pos 0 → pos 0 <ℤ (sign_of b *ℤ (pos 1 *ℤ b))
  size_of_right (pos zero) some = absurd (some refl)
  size_of_right (pos (suc b)) some = omega (arith, linear, one-*ℤ (pos 1 *ℤ pos (suc b)), one-*ℤ (pos (suc b)))
  size_of_right (negsuc b) some = omega (arith, linear, neg_ℤ-*ℤ (pos 1) (pos 1 *ℤ negsuc b), one-*ℤ (pos 1 *ℤ negsuc b), one-*ℤ (negsuc b))

  -- the sizes of the entries of a row whose entries all go against its right side are worth more than 0
  pub worth_something : (r : ℕ) → r < length t.rows → (row t r).right ≢ pos 0
      → ((j : ℕ) → j < variables t → (sign_of (row t r).right *ℤ (row t r).entry j) ≤ℤ pos 0)
      → pos 0 <ℤ dual_value (free_program town rows lo hi) 1 (paired chosen (λ i. unsigned_abs ((row t r).entry (w + i))))
  worth_something r here some signs =
      let free = free_program town rows lo hi in
      let y = λ (i : ℕ). unsigned_abs ((row t r).entry (w + i)) in
      let x = cheapest free 1 (paired chosen y) in
      let e = row t r in
      let m = w + length lines in
      let sign = sign_of e.right in
      let sized : Equation = record { entry = λ j. pos (unsigned_abs (e.entry j)); right = pos 0 } in
      let below : (j : ℕ) → j < m → j < variables t = λ j h. let same = variables_are in omega arith in
      let part = chosen_part town rows chosen lo hi x (λ arc legal. cheapest_within free 1 (paired chosen y) arc (ordered arc legal)) sized (λ j h. omega (arith, linear)) in
      let solved : left_side m e (point x) ≡ pos 1 *ℤ e.right = subst (λ k. left_side k e (point x) ≡ pos 1 *ℤ e.right) variables_are (point_solves x r here) in
      let turned : left_side m sized (point x) ≡ neg_ℤ sign *ℤ left_side m e (point x) =
      sum_over-same (λ j. pos (unsigned_abs (e.entry j)) *ℤ point x j) (λ j. neg_ℤ sign *ℤ (e.entry j *ℤ point x j)) (numbers_below m)
      (λ j inside. ap (λ (z : ℤ). z *ℤ point x j) (against e.right (e.entry j) (signs j (below j (below_of_inside m j inside))))
      ∙ ap (λ (z : ℤ). z *ℤ point x j) (sym (neg_ℤ-*ℤ sign (e.entry j)))
      ∙ *ℤ_assoc (neg_ℤ sign) (e.entry j) (point x j))
      ∙ sum_over-*ℤ (neg_ℤ sign) (λ j. e.entry j *ℤ point x j) (numbers_below m) in
      let none : cost_sum free x ≡ pos 0 = sum_over-all_zero (λ a. pos (0 * x a)) (legal_arcs town) (λ a inside. ap pos (zero-mul (x a))) in
      omega (
        arith,
        linear,
        value_of_cheapest free 1 (paired chosen y),
        one-*ℤ (cost_sum free x),
        none,
        combined_is x y,
        part,
        turned,
        ap (λ (z : ℤ). neg_ℤ sign *ℤ z) solved,
        neg_ℤ-*ℤ sign (pos 1 *ℤ e.right),
        size_of_right e.right some,
      )
