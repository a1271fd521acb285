-- Rows and reduced costs in terms of the lines and the costs.
use Rattle.std.proofs.Common.{◌≡◌, ℕ, zero, suc, ◌+◌, ◌-◌, ◌<◌, ◌≤◌, ◌==◌, cond, ltb, true, false, ℤ, pos, ◌+ℤ◌, ◌-ℤ◌, ◌*ℤ◌, neg_ℤ, List, [], ◌∷◌, ap, refl, sym, ◌∙◌, arith, subst, eq-eqb, length, get_or, All}
use Rattle.std.proofs.lemmas.Bool.{ltb-true, lt-ltb, false_from_ne_true, ne_eqb}
use Rattle.std.proofs.Math.IntN.{*ℤ_comm}
use Rattle.wrp_simplex.proofs.Basics.{once_in_numbers}
use Rattle.wrp_sums.specs.Sums.{sum_over, numbers_below}
use Rattle.wrp_sums.proofs.Integers.{linear, zero_times, times_zero, one-*ℤ, *ℤ-neg_ℤ, neg_ℤ-*ℤ}
use Rattle.wrp_sums.proofs.SumsOver.{sum_over-push, sum_over-same, sum_over-ext, sum_over-all_zero, sum_over_only}
use Rattle.wrp_sums.proofs.FirstNumbers.{below_of_inside}
use Rattle.wrp_tableau.specs.Equations.{Equation}
use Rattle.wrp_tableau.specs.declared.line.Line.{Line}
use Rattle.wrp_tableau.specs.Systems.{System, line_rows, start_of, variables, row, scale, value, reduced_cost}
use Rattle.wrp_tableau.specs.Solutions.{left_side, Solves}
use Rattle.wrp_tableau.proofs.Starts.{get_or-line_rows, length-line_rows}
use Rattle.wrp_simplex.specs.Lines.{no_line, line_at, line_sum, IsCombination, IsPriced}
use Rattle.wrp_simplex.specs.Follows.{IsCostSolution, Follows}
use Rattle.wrp_simplex.proofs.Lines.{line_sum-zero, line_side}

sum_over-neg_ℤ : (f : ℕ → ℤ) (xs : List ℕ) → sum_over (λ x. neg_ℤ (f x)) xs ≡ neg_ℤ (sum_over f xs)
sum_over-neg_ℤ f [] = refl
sum_over-neg_ℤ f (x ∷ xs) = let e = sum_over-neg_ℤ f xs in omega (arith, linear, e)

ltb_not : (a b : ℕ) → b ≤ a → ltb a b ≡ false
ltb_not a b h = false_from_ne_true (ltb a b) (λ e. let less = ltb-true a b e in absurd (omega arith))

-- numbers of the structural variables, continued to the slacks and the cost
pub extended : (width : ℕ) (lines : List Line) (costs : List ℤ) → ℤ → (ℕ → ℤ) → ℕ → ℤ
extended width lines costs d x j = cond (ltb j width) (x j)
    (cond (ltb j (width + length lines)) (line_sum width (line_at lines (j - width)).coefs x -ℤ d *ℤ (line_at lines (j - width)).rhs)
    (line_sum width costs x))

module _ (width : ℕ) (lines : List Line) (costs : List ℤ) (fit : All (λ line. length line.coefs ≡ width) lines) (cost_fit : length costs ≡ width) (d : ℤ) (x : ℕ → ℤ) where
  abbrev pub y : ℕ → ℤ
  y = extended width lines costs d x

  at_variable : (j : ℕ) → j < width → y j ≡ x j
  unfolding extended
  at_variable j h = let t : ltb j width ≡ true = lt-ltb j width h in rw t refl

  at_slack : (i : ℕ) → i < length lines → y (width + i) ≡ line_sum width (line_at lines i).coefs x -ℤ d *ℤ (line_at lines i).rhs
  unfolding extended
  at_slack i h =
      let t : ltb (width + i) width ≡ false = ltb_not (width + i) width (omega arith) in
      let u : ltb (width + i) (width + length lines) ≡ true = lt-ltb (width + i) (width + length lines) (omega arith) in
      let e : width + i - width ≡ i = omega arith in
      rw (t, u, e) refl

  at_cost : y (width + length lines) ≡ line_sum width costs x
  unfolding extended
  at_cost =
      let t : ltb (width + length lines) width ≡ false = ltb_not (width + length lines) width (omega arith) in
      let u : ltb (width + length lines) (width + length lines) ≡ false = ltb_not (width + length lines) (width + length lines) (omega arith) in
      rw (t, u) refl

  same_sum : (coefs : List ℤ) → line_sum width coefs y ≡ line_sum width coefs x
  unfolding line_sum
  same_sum coefs = sum_over-same (λ j. get_or coefs j (pos 0) *ℤ y j) (λ j. get_or coefs j (pos 0) *ℤ x j) (numbers_below width)
      (λ j inside. ap (λ (z : ℤ). get_or coefs j (pos 0) *ℤ z) (at_variable j (below_of_inside width j inside)))

  -- the start is solved
  pub start_solved : IsCostSolution (start_of width lines costs) d y
  start_solved =
      let n = width + length (line_rows width lines) in
      let m = width + length lines in
      let same : n ≡ m = ap (λ (k : ℕ). width + k) (length-line_rows width lines) in
      record {
        rows = λ i there.
            let h : i < length lines = subst (λ k. i < k) (length-line_rows width lines) there in
            let line = line_at lines i in
            subst (λ e. left_side (suc n) e y ≡ d *ℤ e.right) (sym (get_or-line_rows width lines i no_line h))
            (line_side width (suc n) (width + i) line.coefs line.rhs y (fit i no_line h) (omega arith) (omega arith)
            ∙ omega (arith, linear, same_sum line.coefs, at_slack i h));
        cost = line_side width (suc n) m costs (pos 0) y cost_fit (omega arith) (omega arith)
            ∙ omega (arith, linear, same_sum costs, at_cost, times_zero d);
      }

  sum_split : (f : ℕ → ℤ) (w k : ℕ) → sum_over f (numbers_below (k + w)) ≡ sum_over f (numbers_below w) +ℤ sum_over (λ i. f (w + i)) (numbers_below k)
  sum_split f w zero = let e : 0 + w ≡ w = omega arith in rw e (omega (arith, linear))
  sum_split f w (suc k) =
      let e : suc k + w ≡ suc (k + w) = omega arith in
      let g : k + w ≡ w + k = omega arith in
      ap (λ (n : ℕ). sum_over f (numbers_below n)) e
      ∙ sum_over-push f (numbers_below (k + w)) (k + w)
      ∙ omega (arith, linear, sum_split f w k, ap f g, sum_over-push (λ i. f (w + i)) (numbers_below k) k)

  -- an equation that the continued numbers solve, in terms of the lines and the costs
  pub in_lines : (e : Equation) → Solves (suc (width + length lines)) d y e →
      (sum_over (λ j. e.entry j *ℤ x j) (numbers_below width)
      +ℤ sum_over (λ i. e.entry (width + i) *ℤ (line_sum width (line_at lines i).coefs x -ℤ d *ℤ (line_at lines i).rhs)) (numbers_below (length lines)))
      +ℤ e.entry (width + length lines) *ℤ line_sum width costs x
      ≡ d *ℤ e.right
  in_lines e solved =
      let m = width + length lines in
      let f = λ (j : ℕ). e.entry j *ℤ y j in
      let g : length lines + width ≡ m = omega arith in
      let whole : left_side (suc m) e y ≡ sum_over f (numbers_below m) +ℤ f m = sum_over-push f (numbers_below m) m in
      let parts : sum_over f (numbers_below m) ≡ sum_over f (numbers_below width) +ℤ sum_over (λ i. f (width + i)) (numbers_below (length lines)) = ap (λ (n : ℕ). sum_over f (numbers_below n)) (sym g) ∙ sum_split f width (length lines) in
      let one : sum_over f (numbers_below width) ≡ sum_over (λ j. e.entry j *ℤ x j) (numbers_below width) =
      sum_over-same f (λ j. e.entry j *ℤ x j) (numbers_below width) (λ j inside. ap (λ (z : ℤ). e.entry j *ℤ z) (at_variable j (below_of_inside width j inside))) in
      let two : sum_over (λ i. f (width + i)) (numbers_below (length lines)) ≡ sum_over (λ i. e.entry (width + i) *ℤ (line_sum width (line_at lines i).coefs x -ℤ d *ℤ (line_at lines i).rhs)) (numbers_below (length lines)) =
      sum_over-same (λ i. f (width + i)) (λ i. e.entry (width + i) *ℤ (line_sum width (line_at lines i).coefs x -ℤ d *ℤ (line_at lines i).rhs)) (numbers_below (length lines)) (λ i inside. ap (λ (z : ℤ). e.entry (width + i) *ℤ z) (at_slack i (below_of_inside (length lines) i inside))) in
      let three : f m ≡ e.entry m *ℤ line_sum width costs x = ap (λ (z : ℤ). e.entry m *ℤ z) at_cost in
      omega (arith, linear, solved, whole, parts, one, two, three)

-- the right side of an equation that follows from the lines: the slacks' entries, times the right sides, negated
pub side_of : (width : ℕ) (lines : List Line) (costs : List ℤ) (fit : All (λ line. length line.coefs ≡ width) lines) (cost_fit : length costs ≡ width) (e : Equation)
    → Solves (suc (width + length lines)) (pos 1) (extended width lines costs (pos 1) (λ j. pos 0)) e
    → e.right ≡ neg_ℤ (sum_over (λ i. e.entry (width + i) *ℤ (line_at lines i).rhs) (numbers_below (length lines)))
side_of width lines costs fit cost_fit e solved =
    let m = width + length lines in
    let none : (coefs : List ℤ) → line_sum width coefs (λ j. pos 0) ≡ pos 0 = λ coefs. line_sum-zero width coefs in
    let whole = in_lines width lines costs fit cost_fit (pos 1) (λ j. pos 0) e solved in
    let one : sum_over (λ j. e.entry j *ℤ pos 0) (numbers_below width) ≡ pos 0 = sum_over-all_zero (λ j. e.entry j *ℤ pos 0) (numbers_below width) (λ j inside. times_zero (e.entry j)) in
    let two : sum_over (λ i. e.entry (width + i) *ℤ (line_sum width (line_at lines i).coefs (λ j. pos 0) -ℤ pos 1 *ℤ (line_at lines i).rhs)) (numbers_below (length lines)) ≡ neg_ℤ (sum_over (λ i. e.entry (width + i) *ℤ (line_at lines i).rhs) (numbers_below (length lines))) =
    sum_over-ext (λ i. e.entry (width + i) *ℤ (line_sum width (line_at lines i).coefs (λ j. pos 0) -ℤ pos 1 *ℤ (line_at lines i).rhs)) (λ i. neg_ℤ (e.entry (width + i) *ℤ (line_at lines i).rhs))
    (λ i. ap (λ (z : ℤ). e.entry (width + i) *ℤ z) (turn (line_sum width (line_at lines i).coefs (λ j. pos 0)) (line_at lines i).rhs (none (line_at lines i).coefs)) ∙ *ℤ-neg_ℤ (e.entry (width + i)) (line_at lines i).rhs) (numbers_below (length lines))
    ∙ sum_over-neg_ℤ (λ i. e.entry (width + i) *ℤ (line_at lines i).rhs) (numbers_below (length lines)) in
    let three : e.entry m *ℤ line_sum width costs (λ j. pos 0) ≡ pos 0 = ap (λ (z : ℤ). e.entry m *ℤ z) (none costs) ∙ times_zero (e.entry m) in
    omega (arith, linear, whole, one, two, three, one-*ℤ e.right)
  where
    turn : (z b : ℤ) → z ≡ pos 0 → z -ℤ pos 1 *ℤ b ≡ neg_ℤ b
    turn z b h = omega (arith, linear, h, one-*ℤ b)

-- x is 1 at j alone
abbrev pub unit : ℕ → ℕ → ℤ
unit j k = cond (k == j) (pos 1) (pos 0)

pub line_sum-unit : (width : ℕ) (coefs : List ℤ) (j : ℕ) → j < width → line_sum width coefs (unit j) ≡ get_or coefs j (pos 0)
unfolding line_sum
line_sum-unit width coefs j h =
    sum_over_only (λ k. get_or coefs k (pos 0) *ℤ unit j k) j (numbers_below width) (once_in_numbers width j h)
    (λ k inside differs. rw (ne_eqb k j differs) (times_zero (get_or coefs k (pos 0))))
    ∙ rw (eq-eqb j j refl) (*ℤ_comm (get_or coefs j (pos 0)) (pos 1) ∙ one-*ℤ (get_or coefs j (pos 0)))

-- an entry of an equation that follows from the lines, and the cost's share: reduced costs and rows in terms of the slacks' entries
pub entry_of_lines : (width : ℕ) (lines : List Line) (costs : List ℤ) (fit : All (λ line. length line.coefs ≡ width) lines) (cost_fit : length costs ≡ width) (e : Equation) (j : ℕ) → j < width
    → Solves (suc (width + length lines)) (pos 0) (extended width lines costs (pos 0) (unit j)) e
    → (e.entry j +ℤ sum_over (λ i. e.entry (width + i) *ℤ get_or (line_at lines i).coefs j (pos 0)) (numbers_below (length lines))) +ℤ e.entry (width + length lines) *ℤ get_or costs j (pos 0) ≡ pos 0
entry_of_lines width lines costs fit cost_fit e j h solved =
    let m = width + length lines in
    let whole = in_lines width lines costs fit cost_fit (pos 0) (unit j) e solved in
    let one : sum_over (λ k. e.entry k *ℤ unit j k) (numbers_below width) ≡ e.entry j =
    sum_over_only (λ k. e.entry k *ℤ unit j k) j (numbers_below width) (once_in_numbers width j h) (λ k inside differs. rw (ne_eqb k j differs) (times_zero (e.entry k)))
    ∙ rw (eq-eqb j j refl) (*ℤ_comm (e.entry j) (pos 1) ∙ one-*ℤ (e.entry j)) in
    let two : sum_over (λ i. e.entry (width + i) *ℤ (line_sum width (line_at lines i).coefs (unit j) -ℤ pos 0 *ℤ (line_at lines i).rhs)) (numbers_below (length lines)) ≡ sum_over (λ i. e.entry (width + i) *ℤ get_or (line_at lines i).coefs j (pos 0)) (numbers_below (length lines)) =
    sum_over-ext (λ i. e.entry (width + i) *ℤ (line_sum width (line_at lines i).coefs (unit j) -ℤ pos 0 *ℤ (line_at lines i).rhs)) (λ i. e.entry (width + i) *ℤ get_or (line_at lines i).coefs j (pos 0))
    (λ i. ap (λ (z : ℤ). e.entry (width + i) *ℤ z) (plain (line_sum width (line_at lines i).coefs (unit j)) (line_at lines i).rhs ∙ line_sum-unit width (line_at lines i).coefs j h)) (numbers_below (length lines)) in
    let three : e.entry m *ℤ line_sum width costs (unit j) ≡ e.entry m *ℤ get_or costs j (pos 0) = ap (λ (z : ℤ). e.entry m *ℤ z) (line_sum-unit width costs j h) in
    omega (arith, linear, whole, one, two, three, zero_times e.right)
  where
    plain : (z b : ℤ) → z -ℤ pos 0 *ℤ b ≡ z
    plain z b = omega (arith, linear, zero_times b)

-- ---- what every system that follows from the lines has
module _ (width : ℕ) (lines : List Line) (costs : List ℤ) (fit : All (λ line. length line.coefs ≡ width) lines) (cost_fit : length costs ≡ width) (t : System) (follows : Follows (start_of width lines costs) t) where
  numbers : variables t ≡ width + length lines
  numbers = let w = follows.width in let r = follows.rows in let l = length-line_rows width lines in omega arith

  solved : (d : ℤ) (x : ℕ → ℤ) → IsCostSolution t d (extended width lines costs d x)
  solved d x = follows.with_cost d (extended width lines costs d x) (start_solved width lines costs fit cost_fit d x)

  row_solved : (d : ℤ) (x : ℕ → ℤ) (r : ℕ) → r < length t.rows → Solves (suc (width + length lines)) d (extended width lines costs d x) (row t r)
  row_solved d x r h = subst (λ n. Solves (suc n) d (extended width lines costs d x) (row t r)) numbers ((solved d x).rows r h)

  cost_solved : (d : ℤ) (x : ℕ → ℤ) → Solves (suc (width + length lines)) d (extended width lines costs d x) t.cost
  cost_solved d x = subst (λ n. Solves (suc n) d (extended width lines costs d x) t.cost) numbers (solved d x).cost

  -- the right side of a row, by the right sides of the lines
  pub row_right : (r : ℕ) → r < length t.rows → (row t r).right ≡ neg_ℤ (sum_over (λ i. (row t r).entry (width + i) *ℤ (line_at lines i).rhs) (numbers_below (length lines)))
  row_right r h = side_of width lines costs fit cost_fit (row t r) (row_solved (pos 1) (λ j. pos 0) r h)

  -- an entry of a row, by the coefficients of the lines
  pub row_entry : (r j : ℕ) → r < length t.rows → j < width → (row t r).entry j ≡ neg_ℤ (sum_over (λ i. (row t r).entry (width + i) *ℤ get_or (line_at lines i).coefs j (pos 0)) (numbers_below (length lines)))
  row_entry r j h below =
      let none : (row t r).entry (width + length lines) ≡ pos 0 = follows.sound.in_range r (width + length lines) h (let n = numbers in omega arith) in
      omega (
        arith,
        linear,
        entry_of_lines width lines costs fit cost_fit (row t r) j below (row_solved (pos 0) (unit j) r h),
        ap (λ (z : ℤ). z *ℤ get_or costs j (pos 0)) none,
        zero_times (get_or costs j (pos 0)),
      )

  -- the value is what the reduced costs of the slacks make of the right sides of the lines
  pub value_is : value t ≡ sum_over (λ i. reduced_cost t (width + i) *ℤ (line_at lines i).rhs) (numbers_below (length lines))
  value_is = omega (arith, linear, side_of width lines costs fit cost_fit t.cost (cost_solved (pos 1) (λ j. pos 0)))

  -- a reduced cost is the cost, times the scale, less what the slacks' make of the coefficients
  pub reduced_cost_is : (j : ℕ) → j < width → reduced_cost t j ≡ scale t *ℤ get_or costs j (pos 0) -ℤ sum_over (λ i. reduced_cost t (width + i) *ℤ get_or (line_at lines i).coefs j (pos 0)) (numbers_below (length lines))
  reduced_cost_is j below =
      let at : scale t *ℤ get_or costs j (pos 0) ≡ neg_ℤ (t.cost.entry (width + length lines)) *ℤ get_or costs j (pos 0) = ap (λ (n : ℕ). neg_ℤ (t.cost.entry n) *ℤ get_or costs j (pos 0)) numbers in
      omega (
        arith,
        linear,
        entry_of_lines width lines costs fit cost_fit t.cost j below (cost_solved (pos 0) (unit j)),
        at,
        neg_ℤ-*ℤ (t.cost.entry (width + length lines)) (get_or costs j (pos 0)),
      )

  pub row_combines : (r : ℕ) → r < length t.rows → IsCombination width lines (row t r)
  row_combines r h = record { right = row_right r h; entry = λ j below. row_entry r j h below }

  pub cost_priced : IsPriced width lines costs t
  cost_priced = record { value = value_is; reduced = reduced_cost_is }
