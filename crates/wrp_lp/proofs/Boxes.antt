-- Numbers within the bounds, continued to the slacks.
use Rattle.std.proofs.Common.{◌≡◌, ℕ, ◌+◌, ◌<◌, ◌≤◌, true, ℤ, pos, ◌+ℤ◌, ◌*ℤ◌, ◌≤ℤ◌, List, length, get_or, All, ap, sym, ◌∙◌, arith, subst}
use Rattle.wrp_sums.specs.Sums.{sum_over, numbers_below}
use Rattle.wrp_sums.proofs.Integers.{linear, one-*ℤ, scale_le_by, times_zero}
use Rattle.wrp_sums.proofs.SumsOver.{sum_over-same, sum_over-at_least_zero}
use Rattle.wrp_sums.proofs.FirstNumbers.{below_of_inside}
use Rattle.wrp_town.specs.declared.town.Town.{Town}
use Rattle.wrp_town.specs.Arcs.{is_legal}
use Rattle.wrp_rows.specs.Pools.{SparseRow, sparse_at}
use Rattle.wrp_tableau.specs.declared.line.Line.{Line}
use Rattle.wrp_tableau.specs.Equations.{Equation}
use Rattle.wrp_tableau.specs.Solutions.{left_side}
use Rattle.wrp_lp.specs.Relaxed.{width, row_line, bound_lines, lines_of, costs_of}
use Rattle.wrp_simplex.specs.Lines.{no_line, line_at}
use Rattle.wrp_lp.proofs.Slacks.{surplus, sum_split, extended, left_of_extended}
use Rattle.wrp_lp.proofs.ArcLines.{lo_surplus, hi_surplus, all_bound_lines, lines_long, length-lines_of, line_at-row, line_at-bound}

-- the product of two numbers that aren't below 0
pub product_above : (a b : ℤ) → pos 0 ≤ℤ a → pos 0 ≤ℤ b → pos 0 ≤ℤ (a *ℤ b)
product_above a b h k = omega (arith, linear, scale_le_by a (pos 0) b h k, times_zero a)

module _ (town : Town) (rows : List SparseRow) (chosen : List ℕ) (lo hi : ℕ → ℕ) (x : ℕ → ℕ) (inside : (arc : ℕ) → is_legal town arc ≡ true → (lo arc ≤ x arc) × (x arc ≤ hi arc)) where
  abbrev w : ℕ
  w = width town

  abbrev lines : List Line
  lines = lines_of town rows chosen lo hi

  abbrev number : ℕ → ℤ
  number arc = pos (x arc)

  -- the lines of the bounds are met
  bounds_met : All (λ line. pos 0 ≤ℤ surplus w line (pos 1) number) (bound_lines town lo hi)
  bounds_met = all_bound_lines (λ line. pos 0 ≤ℤ surplus w line (pos 1) number) town lo hi
      (λ arc legal.
      let at = inside arc legal in (
        omega (arith, linear, at.0, lo_surplus town lo arc (pos 1) number legal, one-*ℤ (pos (lo arc))),
        omega (arith, linear, at.1, hi_surplus town hi arc (pos 1) number legal, one-*ℤ (pos (hi arc))),
      ))

  -- an equation without an entry below 0 is at least its part in the chosen rows
  pub chosen_part : (e : Equation) → ((j : ℕ) → j < w + length lines → pos 0 ≤ℤ e.entry j)
      → sum_over (λ i. e.entry (w + i) *ℤ surplus w (row_line town (sparse_at rows (get_or chosen i 0))) (pos 1) number) (numbers_below (length chosen))
      ≤ℤ left_side (w + length lines) e (extended w lines (pos 1) number)
  chosen_part e above =
      let n = length chosen in
      let k = length (bound_lines town lo hi) in
      let long : length lines ≡ n + k = length-lines_of town rows chosen lo hi in
      let f = λ (i : ℕ). e.entry (w + i) *ℤ surplus w (line_at lines i) (pos 1) number in
      let split : sum_over f (numbers_below (length lines)) ≡ sum_over f (numbers_below n) +ℤ sum_over (λ i. f (n + i)) (numbers_below k) =
      ap (λ (m : ℕ). sum_over f (numbers_below m)) (let turned : length lines ≡ k + n = omega arith in turned) ∙ sum_split w lines (costs_of town) (lines_long town rows chosen lo hi) (pos 1) number f n k in
      let first : sum_over f (numbers_below n) ≡ sum_over (λ i. e.entry (w + i) *ℤ surplus w (row_line town (sparse_at rows (get_or chosen i 0))) (pos 1) number) (numbers_below n) =
      sum_over-same f (λ i. e.entry (w + i) *ℤ surplus w (row_line town (sparse_at rows (get_or chosen i 0))) (pos 1) number) (numbers_below n)
      (λ i there. ap (λ (line : Line). e.entry (w + i) *ℤ surplus w line (pos 1) number) (line_at-row town rows chosen lo hi i (below_of_inside n i there))) in
      let rest : pos 0 ≤ℤ sum_over (λ i. f (n + i)) (numbers_below k) =
      sum_over-at_least_zero (λ i. f (n + i)) (numbers_below k)
      (λ i there.
      let below = below_of_inside k i there in
      product_above (e.entry (w + (n + i))) (surplus w (line_at lines (n + i)) (pos 1) number) (above (w + (n + i)) (omega arith))
      (subst (λ line. pos 0 ≤ℤ surplus w line (pos 1) number) (sym (line_at-bound town rows chosen lo hi i)) (bounds_met i no_line below))) in
      let arcs : pos 0 ≤ℤ left_side w e number =
      sum_over-at_least_zero (λ j. e.entry j *ℤ number j) (numbers_below w)
      (λ j there. product_above (e.entry j) (number j) (above j (let below = below_of_inside w j there in omega arith)) (omega (arith, linear))) in
      omega (arith, linear, left_of_extended w lines (costs_of town) (lines_long town rows chosen lo hi) (pos 1) number e, split, first, rest, arcs)
