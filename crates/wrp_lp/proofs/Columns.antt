-- The column of an illegal arc is empty, so the arc is never basic.
use Rattle.std.proofs.Common.{◌≡◌, ℕ, ◌+◌, ◌<◌, ◌==◌, true, false, cond, ℤ, pos, negsuc, ◌*ℤ◌, neg_ℤ, List, length, get_or, All, ap, refl, sym, ◌∙◌, arith, subst, eq-eqb}
use Rattle.std.proofs.lemmas.Bool.{ne_eqb, false≢true}
use Rattle.std.proofs.lemmas.Int.{ints}
use Rattle.std.proofs.lemmas.List.Elements.{All-append, All-map}
use Rattle.wrp_sums.specs.Sums.{sum_over, numbers_below, coef_at}
use Rattle.wrp_sums.proofs.Integers.{linear, zero_times, times_zero}
use Rattle.wrp_sums.proofs.SumsOver.{sum_over-all_zero, sum_over_only}
use Rattle.wrp_sums.proofs.FirstNumbers.{below_of_inside, passes_of_inside}
use Rattle.wrp_town.specs.declared.town.Town.{Town}
use Rattle.wrp_town.specs.Arcs.{arcs, is_legal, legal_arcs}
use Rattle.wrp_rows.specs.Pools.{SparseRow, sparse_at}
use Rattle.wrp_tableau.specs.declared.line.Line.{Line}
use Rattle.wrp_tableau.specs.Systems.{System, variables, row, basic}
use Rattle.wrp_tableau.specs.Solutions.{left_side, IsSolution}
use Rattle.wrp_tableau.proofs.Starts.{length-line_rows}
use Rattle.wrp_simplex.specs.Follows.{Follows}
use Rattle.wrp_simplex.specs.Lines.{no_line, line_at, line_sum}
use Rattle.wrp_simplex.specs.Steps.{pivot_entry}
use Rattle.wrp_lp.specs.Relaxed.{width, row_line, row_lines, arc_line, bound_lines, lines_of, costs_of, relaxation}
use Rattle.wrp_lp.specs.Reading.{times, number_of}
use Rattle.wrp_lp.proofs.Slacks.{surplus, extended, extended_solves, left_of_extended, once_below}
use Rattle.wrp_lp.proofs.ArcLines.{row_sum_is, arc_sum_is, all_bound_lines, lines_long}

module _ (town : Town) (rows : List SparseRow) (chosen : List ℕ) (lo hi : ℕ → ℕ) (arc : ℕ) (below : arc < width town) (illegal : is_legal town arc ≡ false) where
  -- 1 at the arc alone
  abbrev unit : ℕ → ℤ
  unit a = cond (a == arc) (pos 1) (pos 0)

  at_legal : (a : ℕ) → is_legal town a ≡ true → unit a ≡ pos 0
  at_legal a legal = ap (λ t. cond t (pos 1) (pos 0)) (ne_eqb a arc (λ same. false≢true (sym illegal ∙ ap (is_legal town) (sym same) ∙ legal)))

  abbrev IsFree : Line → Type 0
  IsFree line = line_sum (width town) line.coefs unit ≡ pos 0

  row_free : (i : ℕ) → IsFree (row_line town (sparse_at rows i))
  row_free i =
      row_sum_is town (sparse_at rows i) unit
      ∙ sum_over-all_zero (λ a. coef_at (sparse_at rows i).terms a *ℤ unit a) (legal_arcs town)
      (λ a inside. ap (λ (z : ℤ). coef_at (sparse_at rows i).terms a *ℤ z) (at_legal a (passes_of_inside (is_legal town) (arcs town) a inside)) ∙ times_zero (coef_at (sparse_at rows i).terms a))

  rows_free : All IsFree (row_lines town rows chosen)
  unfolding row_lines
  rows_free = All-map IsFree (λ i. row_line town (sparse_at rows i)) chosen (λ i d h. row_free (get_or chosen i d))

  arc_free : (a : ℕ) (coef rhs : ℤ) → is_legal town a ≡ true → IsFree (arc_line town a coef rhs)
  arc_free a coef rhs legal = arc_sum_is town a coef rhs unit legal ∙ ap (λ (z : ℤ). coef *ℤ z) (at_legal a legal) ∙ times_zero coef

  lines_free : All IsFree (lines_of town rows chosen lo hi)
  lines_free = All-append IsFree (row_lines town rows chosen) (bound_lines town lo hi) rows_free
      (all_bound_lines IsFree town lo hi (λ a legal. (arc_free a (pos 1) (pos (lo a)) legal, arc_free a (negsuc 0) (neg_ℤ (pos (hi a))) legal)))

  module _ (t : System) (follows : Follows (relaxation town rows chosen lo hi) t) where
    abbrev w : ℕ
    w = width town

    abbrev lines : List Line
    lines = lines_of town rows chosen lo hi

    abbrev y : ℕ → ℤ
    y = extended w lines (pos 0) unit

    solved : IsSolution t (pos 0) y
    solved = (follows.solutions (pos 0) y).0 (extended_solves w lines (costs_of town) (lines_long town rows chosen lo hi) (pos 0) unit)

    -- no row has an entry there
    pub column_empty : (r : ℕ) → r < length t.rows → (row t r).entry arc ≡ pos 0
    column_empty r here =
        let e = row t r in
        let variables_are : variables t ≡ w + length lines = let a = follows.width in let b = follows.rows in let c = length-line_rows w lines in omega arith in
        let left : left_side (w + length lines) e y ≡ pos 0 *ℤ e.right = subst (λ n. left_side n e y ≡ pos 0 *ℤ e.right) variables_are (solved r here) in
        let slacks : sum_over (λ i. e.entry (w + i) *ℤ surplus w (line_at lines i) (pos 0) unit) (numbers_below (length lines)) ≡ pos 0 =
        sum_over-all_zero (λ i. e.entry (w + i) *ℤ surplus w (line_at lines i) (pos 0) unit) (numbers_below (length lines))
        (λ i inside.
        let none : surplus w (line_at lines i) (pos 0) unit ≡ pos 0 = omega (arith, linear, lines_free i no_line (below_of_inside (length lines) i inside), zero_times (line_at lines i).rhs) in
        ap (λ (z : ℤ). e.entry (w + i) *ℤ z) none ∙ times_zero (e.entry (w + i))) in
        let own : left_side w e unit ≡ e.entry arc *ℤ unit arc =
        sum_over_only (λ j. e.entry j *ℤ unit j) arc (numbers_below w) (once_below w arc below)
        (λ j inside differs. ap (λ t. e.entry j *ℤ cond t (pos 1) (pos 0)) (ne_eqb j arc differs) ∙ times_zero (e.entry j)) in
        let one : e.entry arc *ℤ unit arc ≡ e.entry arc = ap (λ t. e.entry arc *ℤ cond t (pos 1) (pos 0)) (eq-eqb arc arc refl) ∙ omega (arith, ints) in
        omega (arith, linear, left_of_extended w lines (costs_of town) (lines_long town rows chosen lo hi) (pos 0) unit e, left, slacks, own, one, zero_times e.right)

    pub number_none : (den : ℕ) → number_of t den arc ≡ pos 0
    number_none den =
        sum_over-all_zero (λ r. cond (basic t r == arc) (times den (row t r).right (pivot_entry t r)) (pos 0)) (numbers_below (length t.rows))
        (λ r inside.
        let here = below_of_inside (length t.rows) r inside in
        ap (λ b. cond b (times den (row t r).right (pivot_entry t r)) (pos 0))
        (ne_eqb (basic t r) arc (λ same. follows.sound.own r here (subst (λ j. (row t r).entry j ≡ pos 0) (sym same) (column_empty r here)))))
