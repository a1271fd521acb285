-- The rows of lines at numbers of the variables.
use Rattle.std.proofs.Common.{◌≡◌, ◌≢◌, inl, inr, ℕ, zero, suc, ◌+◌, ◌-◌, ◌<◌, ◌≤◌, ◌==◌, cond, ℤ, pos, negsuc, ◌+ℤ◌, ◌-ℤ◌, ◌*ℤ◌, neg_ℤ, ◌≤ℤ◌, List, ap, sym, refl, ◌∙◌, arith, subst, length, get_or, All, eq-eqb}
use Rattle.std.proofs.lemmas.Int.{ints}
use Rattle.std.proofs.lemmas.Bool.{cases_lt, ne_eqb}
use Rattle.std.proofs.lemmas.List.{get_or_past}
use Rattle.wrp_sums.specs.Sums.{sum_over, numbers_below}
use Rattle.wrp_sums.proofs.Integers.{linear, at_most_refl, zero_times, times_zero, +ℤ-*ℤ}
use Rattle.wrp_sums.proofs.SumsOver.{sum_over-push, sum_over-all_zero, sum_over-ext, sum_over-+ℤ, sum_over_only}
use Rattle.wrp_tableau.specs.declared.line.Line.{Line}
use Rattle.wrp_tableau.specs.Systems.{slack_row, line_rows, start_of, variables}
use Rattle.wrp_tableau.specs.Solutions.{left_side, IsSolution, cost_at}
use Rattle.wrp_tableau.proofs.Starts.{length-line_rows, get_or-line_rows}
use Rattle.wrp_simplex.specs.Steps.{IsDualFeasible}
use Rattle.wrp_simplex.specs.Lines.{no_line, line_at, line_sum}
use Rattle.wrp_simplex.proofs.Basics.{once_in_numbers}

-- what costs are at numbers, as the sum of a line
pub cost_at-line_sum : (costs : List ℤ) (x : ℕ → ℤ) → cost_at costs x ≡ line_sum (length costs) costs x
unfolding line_sum
cost_at-line_sum costs x = refl

pub line_sum-zero : (width : ℕ) (coefs : List ℤ) → line_sum width coefs (λ j. pos 0) ≡ pos 0
unfolding line_sum
line_sum-zero width coefs = sum_over-all_zero (λ j. get_or coefs j (pos 0) *ℤ pos 0) (numbers_below width) (λ j inside. times_zero (get_or coefs j (pos 0)))

sum_past : (f : ℕ → ℤ) (w k : ℕ) → ((j : ℕ) → w ≤ j → f j ≡ pos 0) → sum_over f (numbers_below (k + w)) ≡ sum_over f (numbers_below w)
sum_past f w zero none = ap (λ (n : ℕ). sum_over f (numbers_below n)) (let e : 0 + w ≡ w = omega arith in e)
sum_past f w (suc k) none =
    let e : suc k + w ≡ suc (k + w) = omega arith in
    ap (λ (n : ℕ). sum_over f (numbers_below n)) e ∙ sum_over-push f (numbers_below (k + w)) (k + w) ∙ omega (arith, linear, none (k + w) (omega arith), sum_past f w k none)

-- the left side of a line's row: the line's sum less the slack
pub line_side : (width n slack : ℕ) (coefs : List ℤ) (right : ℤ) (x : ℕ → ℤ) → length coefs ≡ width → width ≤ slack → slack < n → left_side n (slack_row slack coefs right) x ≡ line_sum width coefs x -ℤ x slack
unfolding line_sum
line_side width n slack coefs right x fit past below =
    let c = λ (j : ℕ). get_or coefs j (pos 0) in
    let s = λ (j : ℕ). cond (j == slack) (negsuc 0) (pos 0) in
    sum_over-ext (λ j. (c j +ℤ s j) *ℤ x j) (λ j. c j *ℤ x j +ℤ s j *ℤ x j) (λ j. +ℤ-*ℤ (c j) (s j) (x j)) (numbers_below n)
    ∙ sum_over-+ℤ (λ j. c j *ℤ x j) (λ j. s j *ℤ x j) (numbers_below n)
    ∙ (let k : (n - width) + width ≡ n = omega arith in
    let one : sum_over (λ j. c j *ℤ x j) (numbers_below n) ≡ sum_over (λ j. c j *ℤ x j) (numbers_below width) =
    ap (λ (m : ℕ). sum_over (λ j. c j *ℤ x j) (numbers_below m)) (sym k)
    ∙ sum_past (λ j. c j *ℤ x j) width (n - width) (λ j h. rw (get_or_past coefs j (pos 0) (omega arith)) (zero_times (x j))) in
    let two : sum_over (λ j. s j *ℤ x j) (numbers_below n) ≡ s slack *ℤ x slack =
    sum_over_only (λ j. s j *ℤ x j) slack (numbers_below n) (once_in_numbers n slack below) (λ j inside differs. rw (ne_eqb j slack differs) (zero_times (x j))) in
    let three : s slack *ℤ x slack ≡ neg_ℤ (x slack) = rw (eq-eqb slack slack refl) (omega (arith, ints)) in
    omega (arith, linear, one, two, three))

-- a solution of the start whose slack is at least 0 meets the line
pub solution_meets : (width : ℕ) (lines : List Line) (costs : List ℤ) → All (λ line. length line.coefs ≡ width) lines → (d : ℤ) (x : ℕ → ℤ) → IsSolution (start_of width lines costs) d x → (i : ℕ) → i < length lines → pos 0 ≤ℤ x (width + i) → (d *ℤ (line_at lines i).rhs) ≤ℤ line_sum width (line_at lines i).coefs x
solution_meets width lines costs fit d x solved i h above =
    let n = variables (start_of width lines costs) in
    let line = line_at lines i in
    let there : i < length (line_rows width lines) = rw (length-line_rows width lines) h in
    let side : left_side n (slack_row (width + i) line.coefs line.rhs) x ≡ d *ℤ line.rhs = subst (λ e. left_side n e x ≡ d *ℤ e.right) (get_or-line_rows width lines i no_line h) (solved i there) in
    omega (arith, linear, side, line_side width n (width + i) line.coefs line.rhs x (fit i no_line h) (omega arith) (omega arith))

-- where no cost is below 0, no reduced cost of the start is
pub start_dual : (width : ℕ) (lines : List Line) (costs : List ℤ) → length costs ≡ width → All (λ z. pos 0 ≤ℤ z) costs → IsDualFeasible (start_of width lines costs)
start_dual width lines costs fit above j below =
    let other : j ≢ width + length lines = let l = length-line_rows width lines in λ (same : j ≡ width + length lines). absurd (omega arith) in
    let cost : pos 0 ≤ℤ get_or costs j (pos 0) = elim (cases_lt j (length costs)) [
      | inl there ↦ above j (pos 0) there
      | inr past ↦ rw (get_or_past costs j (pos 0) past) (at_most_refl (pos 0))
    ] in
    rw (ne_eqb j (width + length lines) other) (omega (arith, linear, cost))
