-- Where no row is broken, what is read off is an optimum of the program.
use Rattle.std.proofs.Common.{◌≡◌, ◌≢◌, ℕ, zero, suc, ◌+◌, ◌*◌, ◌<◌, ◌≤◌, true, unsigned_abs, ℤ, pos, negsuc, ◌*ℤ◌, ◌≤ℤ◌, ◌<ℤ◌, List, length, get_or, All, Contains, ap, refl, sym, ◌∙◌, arith, subst}
use Rattle.std.proofs.lemmas.List.{get_or_default}
use Rattle.std.proofs.lemmas.List.Elements.{All-map, All-contains}
use Rattle.wrp_sums.specs.Sums.{sum_over, numbers_below, coef_at}
use Rattle.wrp_sums.specs.Duality as duality
use Rattle.wrp_sums.specs.Duality.{dual_value, row_sum, cost_sum}
use Rattle.wrp_sums.proofs.Integers.{linear, *ℤ_left_comm, *ℤ_assoc, scale_le, cancel_le, times_zero, at_most_antisym}
use Rattle.wrp_sums.proofs.SumsOver.{sum_over-same, sum_over-*ℤ}
use Rattle.wrp_sums.proofs.FirstNumbers.{below_of_inside, passes_of_inside, length-numbers_below, get_or-numbers_below}
use Rattle.wrp_sums.proofs.WeakDuality.{weak_duality}
use Rattle.wrp_town.specs.declared.town.Town.{Town}
use Rattle.wrp_town.specs.Arcs.{arcs, is_legal, legal_arcs, cost_or_zero}
use Rattle.wrp_town.proofs.TownLaws.{legal_below}
use Rattle.wrp_rows.specs.Pools.{SparseRow, sparse_at}
use Rattle.wrp_tableau.specs.declared.line.Line.{Line}
use Rattle.wrp_tableau.specs.Systems.{System, variables, scale, value, reduced_cost}
use Rattle.wrp_tableau.specs.Solutions.{IsSolution, cost_at, HasCosts}
use Rattle.wrp_tableau.proofs.Starts.{length-line_rows}
use Rattle.wrp_tableau.proofs.Differences.{cancel_same, *ℤ_minus}
use Rattle.wrp_simplex.specs.Steps.{IsFeasible, IsDualFeasible}
use Rattle.wrp_simplex.specs.Follows.{Follows}
use Rattle.wrp_simplex.specs.Lines.{no_line, line_at, line_sum}
use Rattle.wrp_simplex.specs.BasicSolutions.{IsBasicSolution}
use Rattle.wrp_simplex.proofs.Basics.{basic_solves, basic_not_negative}
use Rattle.wrp_lp.specs.Relaxed.{width, row_line, lines_of, costs_of, relaxation}
use Rattle.wrp_lp.specs.Reading.{MakesWhole, number_of, optimal_multiplier}
use Rattle.wrp_lp.specs.Programs.{program}
use Rattle.wrp_lp.proofs.Slacks.{surplus, slack_is}
use Rattle.wrp_lp.proofs.ArcLines.{row_sum_is, costs_sum_is, lines_long, lo_surplus, hi_surplus, line_at-row, length-lines_of, at_bounds}
use Rattle.wrp_lp.proofs.Exact.{times_is}
use Rattle.wrp_lp.proofs.Sides.{paired, worth_the_value}
use Rattle.wrp_lp.proofs.Numbers.{factor, factor_some, product_some, all_whole, numbers_solve, numbers_scaled, number_above, nothing_left}

size_is : (z : ℤ) → pos 0 ≤ℤ z → pos (unsigned_abs z) ≡ z
size_is (pos n) h = refl
size_is (negsuc n) h = absurd (omega (arith, linear))

-- a factor above 0, cancelled
cancel_le_by : (s a b : ℤ) → pos 0 <ℤ s → (s *ℤ a) ≤ℤ (s *ℤ b) → a ≤ℤ b
cancel_le_by (pos zero) a b some h = absurd (omega (arith, linear))
cancel_le_by (pos (suc n)) a b some h = cancel_le (suc n) a b (omega arith) h
cancel_le_by (negsuc n) a b some h = absurd (omega (arith, linear))

module _ (town : Town) (rows : List SparseRow) (chosen : List ℕ) (lo hi : ℕ → ℕ) (t : System) (follows : Follows (relaxation town rows chosen lo hi) t) (den : ℕ) (some : 0 < den) (whole : MakesWhole t (length chosen) den) (feasible : IsFeasible t) where
  abbrev w : ℕ
  w = width town

  abbrev lines : List Line
  lines = lines_of town rows chosen lo hi

  abbrev at : ℕ → ℤ
  at = number_of t den

  width_is : t.width ≡ w
  width_is = follows.width

  variables_are : variables t ≡ w + length lines
  variables_are = let a = follows.width in let b = follows.rows in let c = length-line_rows w lines in omega arith

  -- the denominator at which all variables are whole, and their numbers over it
  big : ℕ
  big = factor t follows.sound * den

  whole_number : ℕ → ℤ
  whole_number = number_of t big

  scaled : (j : ℕ) → j < w → whole_number j ≡ pos (factor t follows.sound) *ℤ at j
  unfolding big whole_number
  scaled j h = numbers_scaled t follows.sound den whole.values j (let e = width_is in omega arith)

  is_basic : IsBasicSolution t (pos big) whole_number
  unfolding big whole_number
  is_basic = numbers_solve t follows.sound big (all_whole t follows.sound den)

  solved : IsSolution t (pos big) whole_number
  solved = basic_solves t (pos big) whole_number follows.sound is_basic

  big_some : 0 < big
  unfolding big
  big_some = product_some (factor t follows.sound) den (factor_some t follows.sound) some

  above : (j : ℕ) → j < w → pos 0 ≤ℤ at j
  above j h = number_above t follows.sound den whole.values some feasible j (let e = width_is in omega arith)

  sum_scaled : (coefs : List ℤ) → line_sum w coefs whole_number ≡ pos (factor t follows.sound) *ℤ line_sum w coefs at
  unfolding line_sum
  sum_scaled coefs =
      let k = pos (factor t follows.sound) in
      sum_over-same (λ j. get_or coefs j (pos 0) *ℤ whole_number j) (λ j. k *ℤ (get_or coefs j (pos 0) *ℤ at j)) (numbers_below w)
      (λ j inside. ap (λ (z : ℤ). get_or coefs j (pos 0) *ℤ z) (scaled j (below_of_inside w j inside)) ∙ *ℤ_left_comm (get_or coefs j (pos 0)) k (at j))
      ∙ sum_over-*ℤ k (λ j. get_or coefs j (pos 0) *ℤ at j) (numbers_below w)

  surplus_scaled : (line : Line) → surplus w line (pos big) whole_number ≡ pos (factor t follows.sound) *ℤ surplus w line (pos den) at
  unfolding big
  surplus_scaled line =
      let k = pos (factor t follows.sound) in
      omega (arith, linear, sum_scaled line.coefs, *ℤ_assoc k (pos den) line.rhs, *ℤ_minus k (line_sum w line.coefs at) (pos den *ℤ line.rhs))

  -- each line is met
  pub lines_met : All (λ line. pos 0 ≤ℤ surplus w line (pos den) at) lines
  lines_met i d h =
      let line = line_at lines i in
      let slack : whole_number (w + i) ≡ surplus w line (pos big) whole_number =
      slack_is w lines (costs_of town) (lines_long town rows chosen lo hi) (pos big) whole_number ((follows.solutions (pos big) whole_number).1 solved) i h in
      let positive : pos 0 ≤ℤ whole_number (w + i) = basic_not_negative t big whole_number follows.sound is_basic big_some feasible (w + i) (let e = variables_are in omega arith) in
      let met : pos 0 ≤ℤ surplus w line (pos den) at =
      cancel_le (factor t follows.sound) (pos 0) (surplus w line (pos den) at) (factor_some t follows.sound)
      (omega (arith, linear, slack, positive, surplus_scaled line, times_zero (pos (factor t follows.sound)))) in
      subst (λ l. pos 0 ≤ℤ surplus w l (pos den) at) (get_or_default lines i no_line d h) met

  -- the numbers as natural numbers
  abbrev x : ℕ → ℕ
  x a = unsigned_abs (at a)

  number_is : (a : ℕ) → a < w → pos (x a) ≡ at a
  number_is a h = size_is (at a) (above a h)

  legal_inside : (a : ℕ) → Contains (legal_arcs town) a → is_legal town a ≡ true
  legal_inside a inside = passes_of_inside (is_legal town) (arcs town) a inside

  legal_number : (a : ℕ) → Contains (legal_arcs town) a → pos (x a) ≡ at a
  legal_number a inside = number_is a (legal_below town a (legal_inside a inside))

  -- each chosen row is met
  row_met : (i : ℕ) → i < length chosen → (pos den *ℤ (sparse_at rows (get_or chosen i 0)).right_side) ≤ℤ row_sum (program town rows lo hi) (get_or chosen i 0) x
  unfolding row_line
  row_met i h =
      let row = sparse_at rows (get_or chosen i 0) in
      let there : i < length lines = let e = length-lines_of town rows chosen lo hi in omega arith in
      let met : pos 0 ≤ℤ surplus w (row_line town row) (pos den) at = subst (λ l. pos 0 ≤ℤ surplus w l (pos den) at) (line_at-row town rows chosen lo hi i h) (lines_met i no_line there) in
      let same : sum_over (λ a. coef_at row.terms a *ℤ pos (x a)) (legal_arcs town) ≡ sum_over (λ a. coef_at row.terms a *ℤ at a) (legal_arcs town) =
      sum_over-same (λ a. coef_at row.terms a *ℤ pos (x a)) (λ a. coef_at row.terms a *ℤ at a) (legal_arcs town) (λ a inside. ap (λ (z : ℤ). coef_at row.terms a *ℤ z) (legal_number a inside)) in
      omega (arith, linear, met, same, row_sum_is town row at)

  pub solution_is : (y : ℕ → ℕ) → duality.IsSolution (program town rows lo hi) den (paired chosen y) x
  solution_is y = record {
    at_least = λ a inside.
        let legal = legal_inside a inside in
        let met = (at_bounds town rows chosen lo hi (λ line. pos 0 ≤ℤ surplus w line (pos den) at) lines_met a legal).0 in
        omega (arith, linear, met, lo_surplus town lo a (pos den) at legal, legal_number a inside);
    at_most = λ a inside.
        let legal = legal_inside a inside in
        let met = (at_bounds town rows chosen lo hi (λ line. pos 0 ≤ℤ surplus w line (pos den) at) lines_met a legal).1 in
        omega (arith, linear, met, hi_surplus town hi a (pos den) at legal, legal_number a inside);
    meets = λ q inside.
        All-contains (λ q. (pos den *ℤ (sparse_at rows q.0).right_side) ≤ℤ row_sum (program town rows lo hi) q.0 x) (paired chosen y) q
        (All-map (λ q. (pos den *ℤ (sparse_at rows q.0).right_side) ≤ℤ row_sum (program town rows lo hi) q.0 x) (λ i. (get_or chosen i 0, y i)) (numbers_below (length chosen))
        (λ i d h.
        let below : i < length chosen = rw (length-numbers_below (length chosen)) at h in
        subst (λ k. (pos den *ℤ (sparse_at rows (get_or chosen k 0)).right_side) ≤ℤ row_sum (program town rows lo hi) (get_or chosen k 0) x) (sym (get_or-numbers_below (length chosen) i d below)) (row_met i below)))
        inside;
  }

  module _ (costs : HasCosts (costs_of town) t) (dual : IsDualFeasible t) where
    -- what the point costs
    pub cost_is : scale t *ℤ cost_sum (program town rows lo hi) x ≡ pos den *ℤ value t
    unfolding big
    cost_is =
        let s = scale t in
        let k = factor t follows.sound in
        let c = cost_sum (program town rows lo hi) x in
        let cost : cost_at (costs_of town) whole_number ≡ pos k *ℤ c =
        costs_sum_is town whole_number
        ∙ sum_over-same (λ a. pos (cost_or_zero town a) *ℤ whole_number a) (λ a. pos k *ℤ pos (cost_or_zero town a * x a)) (legal_arcs town)
        (λ a inside.
        ap (λ (z : ℤ). pos (cost_or_zero town a) *ℤ z) (scaled a (legal_below town a (legal_inside a inside)) ∙ ap (λ (z : ℤ). pos k *ℤ z) (sym (legal_number a inside)))
        ∙ *ℤ_left_comm (pos (cost_or_zero town a)) (pos k) (pos (x a)))
        ∙ sum_over-*ℤ (pos k) (λ a. pos (cost_or_zero town a * x a)) (legal_arcs town) in
        cancel_same k (s *ℤ c) (pos den *ℤ value t) (factor_some t follows.sound)
        (omega (
          arith,
          linear,
          costs (pos big) whole_number solved,
          ap (λ (z : ℤ). s *ℤ z) cost,
          nothing_left t (pos big) whole_number follows.sound is_basic,
          *ℤ_left_comm s (pos k) c,
          *ℤ_assoc (pos k) (pos den) (value t),
        ))

    scale_above : pos 0 <ℤ scale t
    scale_above = omega (arith, linear, follows.sound.scaled)

    scale_some : scale t ≢ pos 0
    scale_some none = absurd (omega (arith, linear, scale_above, none))

    multiplier_is : (i : ℕ) → i < length chosen → scale t *ℤ optimal_multiplier t den i ≡ pos den *ℤ reduced_cost t (t.width + i)
    multiplier_is i h = times_is den (reduced_cost t (t.width + i)) (scale t) (whole.multipliers i h)

    -- no multiplier is below 0
    pub multiplier_above : (i : ℕ) → i < length chosen → pos 0 ≤ℤ optimal_multiplier t den i
    multiplier_above i h =
        let below : t.width + i < variables t = let e = variables_are in let f = length-lines_of town rows chosen lo hi in let g = width_is in omega arith in
        cancel_le_by (scale t) (pos 0) (optimal_multiplier t den i) scale_above
        (omega (arith, linear, multiplier_is i h, times_zero (scale t), scale_le den (pos 0) (reduced_cost t (t.width + i)) (dual (t.width + i) below), times_zero (pos den)))

    -- the multipliers are worth what the point costs
    pub value_is : ((arc : ℕ) → is_legal town arc ≡ true → lo arc ≤ hi arc)
        → dual_value (program town rows lo hi) den (paired chosen (λ i. unsigned_abs (optimal_multiplier t den i))) ≡ cost_sum (program town rows lo hi) x
    value_is ordered =
        let p = program town rows lo hi in
        let y = λ (i : ℕ). unsigned_abs (optimal_multiplier t den i) in
        let v = dual_value p den (paired chosen y) in
        let c = cost_sum p x in
        let enough = worth_the_value town rows chosen lo hi ordered t follows den y costs dual
        (λ i h. ap (λ (z : ℤ). scale t *ℤ z) (size_is (optimal_multiplier t den i) (multiplier_above i h)) ∙ multiplier_is i h ∙ ap (λ (n : ℕ). pos den *ℤ reduced_cost t (n + i)) width_is) in
        at_most_antisym v c
        (cancel_le den v c some (weak_duality p den den (paired chosen y) x (solution_is y)))
        (cancel_le_by (scale t) c v scale_above (omega (arith, linear, enough, cost_is)))
