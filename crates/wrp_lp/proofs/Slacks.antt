-- The equations of a start: a line's sum less its slack is its right side.
use Rattle.std.proofs.Common.{◌≡◌, ℕ, zero, suc, ◌+◌, ◌-◌, ◌<◌, ◌≤◌, ◌==◌, cond, ltb, true, false, ℤ, pos, ◌+ℤ◌, ◌-ℤ◌, ◌*ℤ◌, List, ap, refl, sym, ◌∙◌, arith, subst, length, get_or, All, count_by}
use Rattle.std.proofs.lemmas.Bool.{ltb-true, lt-ltb, false_from_ne_true}
use Rattle.wrp_sums.specs.Sums.{sum_over, numbers_below}
use Rattle.wrp_sums.proofs.Integers.{linear}
use Rattle.wrp_sums.proofs.SumsOver.{sum_over-push, sum_over-same, sum_over-ext, count_once}
use Rattle.wrp_sums.proofs.FirstNumbers.{below_of_inside, ascending-numbers_below, distinct_of_ascending, inside_numbers_below}
use Rattle.wrp_tableau.specs.declared.line.Line.{Line}
use Rattle.wrp_tableau.specs.Equations.{Equation}
use Rattle.wrp_simplex.specs.Lines.{no_line, line_at, line_sum}
use Rattle.wrp_simplex.proofs.Lines.{line_side}
use Rattle.wrp_tableau.specs.Systems.{slack_row, line_rows, start_of, variables}
use Rattle.wrp_tableau.specs.Solutions.{left_side, IsSolution}
use Rattle.wrp_tableau.proofs.Starts.{length-line_rows, get_or-line_rows}

pub once_below : (n a : ℕ) → a < n → count_by (λ x. x == a) (numbers_below n) ≡ 1
once_below n a h = count_once a (numbers_below n) (distinct_of_ascending (numbers_below n) (ascending-numbers_below n)) (inside_numbers_below n a h)

ltb_not : (a b : ℕ) → b ≤ a → ltb a b ≡ false
ltb_not a b h = false_from_ne_true (ltb a b) (λ e. let less = ltb-true a b e in absurd (omega arith))

-- by how much x over d more than meets a line
abbrev pub surplus : ℕ → Line → ℤ → (ℕ → ℤ) → ℤ
surplus width line d x = line_sum width line.coefs x -ℤ d *ℤ line.rhs

-- numbers of the structural variables, continued to the slacks
unfoldable pub extended : ℕ → List Line → ℤ → (ℕ → ℤ) → ℕ → ℤ
extended width lines d x j = cond (ltb j width) (x j) (surplus width (line_at lines (j - width)) d x)

module _ (width : ℕ) (lines : List Line) (costs : List ℤ) (fit : All (λ line. length line.coefs ≡ width) lines) (d : ℤ) (x : ℕ → ℤ) where
  -- a solution of the start has the surplus of each line as its slack
  pub slack_is : IsSolution (start_of width lines costs) d x → (i : ℕ) → i < length lines → x (width + i) ≡ surplus width (line_at lines i) d x
  slack_is solved i h =
      let n = variables (start_of width lines costs) in
      let there : i < length (line_rows width lines) = rw (length-line_rows width lines) h in
      let line = line_at lines i in
      let side : left_side n (slack_row (width + i) line.coefs line.rhs) x ≡ d *ℤ line.rhs =
      subst (λ e. left_side n e x ≡ d *ℤ e.right) (get_or-line_rows width lines i no_line h) (solved i there) in
      omega (arith, linear, side, line_side width n (width + i) line.coefs line.rhs x (fit i no_line h) (omega arith) (omega arith))

  abbrev y : ℕ → ℤ
  y = extended width lines d x

  pub extended_variable : (j : ℕ) → j < width → extended width lines d x j ≡ x j
  unfolding extended
  extended_variable j h = let t : ltb j width ≡ true = lt-ltb j width h in rw t refl

  pub extended_slack : (i : ℕ) → extended width lines d x (width + i) ≡ surplus width (line_at lines i) d x
  unfolding extended
  extended_slack i =
      let t : ltb (width + i) width ≡ false = ltb_not (width + i) width (omega arith) in
      let e : width + i - width ≡ i = omega arith in
      rw (t, e) refl

  same_sum : (coefs : List ℤ) → line_sum width coefs y ≡ line_sum width coefs x
  unfolding line_sum
  same_sum coefs =
      sum_over-same (λ j. get_or coefs j (pos 0) *ℤ y j) (λ j. get_or coefs j (pos 0) *ℤ x j) (numbers_below width)
      (λ j inside. ap (λ (z : ℤ). get_or coefs j (pos 0) *ℤ z) (extended_variable j (below_of_inside width j inside)))

  -- any numbers, continued so, are a solution of the start
  pub extended_solves : IsSolution (start_of width lines costs) d (extended width lines d x)
  extended_solves i there =
      let n = variables (start_of width lines costs) in
      let h : i < length lines = subst (λ k. i < k) (length-line_rows width lines) there in
      let line = line_at lines i in
      subst (λ e. left_side n e y ≡ d *ℤ e.right) (sym (get_or-line_rows width lines i no_line h))
      (line_side width n (width + i) line.coefs line.rhs y (fit i no_line h) (omega arith) (omega arith)
      ∙ omega (arith, linear, same_sum line.coefs, extended_slack i))

  pub sum_split : (f : ℕ → ℤ) (w k : ℕ) → sum_over f (numbers_below (k + w)) ≡ sum_over f (numbers_below w) +ℤ sum_over (λ i. f (w + i)) (numbers_below k)
  sum_split f w zero = let e : 0 + w ≡ w = omega arith in rw e (omega (arith, linear))
  sum_split f w (suc k) =
      let e : suc k + w ≡ suc (k + w) = omega arith in
      let g : k + w ≡ w + k = omega arith in
      ap (λ (n : ℕ). sum_over f (numbers_below n)) e
      ∙ sum_over-push f (numbers_below (k + w)) (k + w)
      ∙ omega (arith, linear, sum_split f w k, ap f g, sum_over-push (λ i. f (w + i)) (numbers_below k) k)

  -- the left side of any equation at them
  pub left_of_extended : (e : Equation) → left_side (width + length lines) e (extended width lines d x) ≡ left_side width e x +ℤ sum_over (λ i. e.entry (width + i) *ℤ surplus width (line_at lines i) d x) (numbers_below (length lines))
  left_of_extended e =
      let m = width + length lines in
      let f = λ (j : ℕ). e.entry j *ℤ y j in
      let g : length lines + width ≡ m = omega arith in
      ap (λ (n : ℕ). sum_over f (numbers_below n)) (sym g)
      ∙ sum_split f width (length lines)
      ∙ omega (
        arith,
        linear,
        sum_over-same f (λ j. e.entry j *ℤ x j) (numbers_below width) (λ j inside. ap (λ (z : ℤ). e.entry j *ℤ z) (extended_variable j (below_of_inside width j inside))),
        sum_over-ext (λ i. f (width + i)) (λ i. e.entry (width + i) *ℤ surplus width (line_at lines i) d x) (λ i. ap (λ (z : ℤ). e.entry (width + i) *ℤ z) (extended_slack i)) (numbers_below (length lines)),
      )
