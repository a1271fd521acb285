-- The start of a tableau: it is sound, and its cost row tells the costs.
use Rattle.std.proofs.Common.{◌≡◌, ◌≢◌, ℕ, zero, suc, ◌+◌, ◌<◌, ◌≤◌, unsigned_abs, ℤ, pos, negsuc, ◌*ℤ◌, neg_ℤ, ◌<ℤ◌, List, [], ◌∷◌, ap, refl, sym, ◌∙◌, arith, subst, length, get_or, All, eq-eqb}
use Rattle.std.proofs.lemmas.Bool.{ne_eqb}
use Rattle.std.proofs.lemmas.List.{get_or_past}
use Rattle.std.proofs.Math.Nat.{eq-one_of_dvd-one}
use Rattle.std.specs.Int.{◌∣◌}
use Rattle.wrp_sums.specs.Sums.{numbers_below}
use Rattle.wrp_sums.proofs.Integers.{linear, zero_times, times_zero, one-*ℤ}
use Rattle.wrp_sums.proofs.SumsOver.{sum_over-push, sum_over-same}
use Rattle.wrp_sums.proofs.FirstNumbers.{below_of_inside}
use Rattle.wrp_tableau.specs.declared.line.Line.{Line}
use Rattle.wrp_tableau.specs.Equations.{Equation, nothing, common_factor}
use Rattle.wrp_tableau.specs.Systems.{slack_row, line_rows, slacks, start_of}
use Rattle.wrp_tableau.specs.Solutions.{left_side, cost_at, HasCosts}
use Rattle.wrp_tableau.specs.Soundness.{IsSound}
use Rattle.wrp_tableau.specs.Starts.{IsLine}
use Rattle.wrp_tableau.proofs.Factors.{factor_divides}

no_line : Line
no_line = record { coefs = []; rhs = pos 0 }

pub length-line_rows : (slack : ℕ) (lines : List Line) → length (line_rows slack lines) ≡ length lines
length-line_rows slack [] = refl
length-line_rows slack (line ∷ lines) = ap suc (length-line_rows (slack + 1) lines)

pub length-slacks : (slack : ℕ) (lines : List Line) → length (slacks slack lines) ≡ length lines
length-slacks slack [] = refl
length-slacks slack (line ∷ lines) = ap suc (length-slacks (slack + 1) lines)

pub get_or-line_rows : (slack : ℕ) (lines : List Line) (i : ℕ) (d : Line) → i < length lines → get_or (line_rows slack lines) i nothing ≡ slack_row (slack + i) (get_or lines i d).coefs (get_or lines i d).rhs
get_or-line_rows slack [] i d h = absurd (omega arith)
get_or-line_rows slack (line ∷ lines) zero d h = let e : slack ≡ slack + 0 = omega arith in ap (λ (n : ℕ). slack_row n line.coefs line.rhs) e
get_or-line_rows slack (line ∷ lines) (suc i) d h =
    let e : slack + 1 + i ≡ slack + suc i = omega arith in
    get_or-line_rows (slack + 1) lines i d (omega arith) ∙ ap (λ (n : ℕ). slack_row n (get_or lines i d).coefs (get_or lines i d).rhs) e

pub get_or-slacks : (slack : ℕ) (lines : List Line) (i : ℕ) → i < length lines → get_or (slacks slack lines) i 0 ≡ slack + i
get_or-slacks slack [] i h = absurd (omega arith)
get_or-slacks slack (line ∷ lines) zero h = omega arith
get_or-slacks slack (line ∷ lines) (suc i) h = let e : slack + 1 + i ≡ slack + suc i = omega arith in get_or-slacks (slack + 1) lines i (omega arith) ∙ e

-- ---- the entries of a slack's row
module _ (slack : ℕ) (coefs : List ℤ) (right : ℤ) where
  slack_own : length coefs ≤ slack → (slack_row slack coefs right).entry slack ≡ negsuc 0
  slack_own h = rw (get_or_past coefs slack (pos 0) h, eq-eqb slack slack refl) refl

  slack_other : (j : ℕ) → length coefs ≤ j → j ≢ slack → (slack_row slack coefs right).entry j ≡ pos 0
  slack_other j h other = rw (get_or_past coefs j (pos 0) h, ne_eqb j slack other) refl

  slack_before : (j : ℕ) → j < slack → (slack_row slack coefs right).entry j ≡ get_or coefs j (pos 0)
  slack_before j h = let other : j ≢ slack = omega arith in rw (ne_eqb j slack other) (omega (arith, linear))

  slack_primitive : (n : ℕ) → length coefs ≤ slack → slack < n → common_factor n (slack_row slack coefs right) ≡ 1
  slack_primitive n h below = eq-one_of_dvd-one
      (subst (λ z. common_factor n (slack_row slack coefs right) ∣ unsigned_abs z) (slack_own h) (factor_divides n (slack_row slack coefs right) slack below))

module _ (width : ℕ) (lines : List Line) (costs : List ℤ) (fit : All (IsLine width) lines) (cost_fit : length costs ≡ width) where
  below : (r : ℕ) → r < length (line_rows width lines) → r < length lines
  below r h = subst (λ n. r < n) (length-line_rows width lines) h

  fits : (r : ℕ) → r < length lines → length (get_or lines r no_line).coefs ≤ width
  fits r h = let e = (fit r no_line h).count in omega arith

  at_row : (r : ℕ) → r < length (line_rows width lines) → (j : ℕ) → width ≤ j → j ≢ width + r → (get_or (line_rows width lines) r nothing).entry j ≡ pos 0
  at_row r h j past other =
      rw (get_or-line_rows width lines r no_line (below r h))
      (slack_other (width + r) (get_or lines r no_line).coefs (get_or lines r no_line).rhs j (let e = fits r (below r h) in omega arith) other)

  cost_past : length costs ≤ width + length lines
  cost_past = omega arith

  pub start_sound : IsSound (start_of width lines costs)
  start_sound = record {
    basics = length-slacks width lines ∙ sym (length-line_rows width lines);
    in_range = λ r j h past. at_row r h j (let e = length-line_rows width lines in omega arith) (let e = length-line_rows width lines in let b = below r h in λ (same : j ≡ width + r). absurd (omega arith));
    cost_in_range = λ j past. slack_other (width + length lines) costs (pos 0) j (let e = length-line_rows width lines in omega arith) (let e = length-line_rows width lines in λ (same : j ≡ width + length lines). absurd (omega arith));
    named = λ r h. rw (get_or-slacks width lines r (below r h)) (let b = below r h in let e = length-line_rows width lines in omega arith);
    own = λ r h none.
        let e : (get_or (line_rows width lines) r nothing).entry (width + r) ≡ negsuc 0 = rw (get_or-line_rows width lines r no_line (below r h)) (slack_own (width + r) (get_or lines r no_line).coefs (get_or lines r no_line).rhs (let f = fits r (below r h) in omega arith)) in
        let f : (get_or (line_rows width lines) r nothing).entry (width + r) ≡ pos 0 = rw (get_or-slacks width lines r (below r h)) at none in
        absurd (omega (arith, linear, e, f));
    alone = λ r k h i differs. rw (get_or-slacks width lines r (below r h)) (at_row k i (width + r) (omega arith) (λ (same : width + r ≡ width + k). differs (omega arith)));
    priced = λ r h. rw (get_or-slacks width lines r (below r h)) (slack_other (width + length lines) costs (pos 0) (width + r) (omega arith) (let b = below r h in λ (same : width + r ≡ width + length lines). absurd (omega arith)));
    scaled =
        let e : (slack_row (width + length lines) costs (pos 0)).entry (width + length lines) ≡ negsuc 0 = slack_own (width + length lines) costs (pos 0) cost_past in
        subst (λ n. (slack_row (width + length lines) costs (pos 0)).entry n <ℤ pos 0) (ap (λ (k : ℕ). width + k) (sym (length-line_rows width lines)))
        (omega (arith, linear, e));
    primitive = λ r h.
        rw (get_or-line_rows width lines r no_line (below r h))
        (slack_primitive (width + r) (get_or lines r no_line).coefs (get_or lines r no_line).rhs (suc (width + length (line_rows width lines))) (let f = fits r (below r h) in omega arith) (omega arith));
    cost_primitive = slack_primitive (width + length lines) costs (pos 0) (suc (width + length (line_rows width lines))) cost_past (let e = length-line_rows width lines in omega arith);
  }

  abbrev cost_row : Equation
  cost_row = slack_row (width + length lines) costs (pos 0)

  -- the sum over all variables is that over the structural ones
  left_is : (x : ℕ → ℤ) (k : ℕ) → k ≤ length lines → left_side (k + width) cost_row x ≡ cost_at costs x
  left_is x zero h =
      ap (λ (n : ℕ). left_side n cost_row x) (let same : 0 + width ≡ length costs = omega arith in same)
      ∙ sum_over-same (λ j. cost_row.entry j *ℤ x j) (λ j. get_or costs j (pos 0) *ℤ x j) (numbers_below (length costs))
      (λ j inside. let b : j < length costs = below_of_inside (length costs) j inside in ap (λ (z : ℤ). z *ℤ x j) (slack_before (width + length lines) costs (pos 0) j (omega arith)))
  left_is x (suc k) h =
      let same : suc k + width ≡ suc (k + width) = omega arith in
      let none : cost_row.entry (k + width) ≡ pos 0 = slack_other (width + length lines) costs (pos 0) (k + width) (omega arith) (λ (f : k + width ≡ width + length lines). absurd (omega arith)) in
      ap (λ (n : ℕ). left_side n cost_row x) same
      ∙ sum_over-push (λ j. cost_row.entry j *ℤ x j) (numbers_below (k + width)) (k + width)
      ∙ omega (arith, linear, left_is x k (omega arith), ap (λ (z : ℤ). z *ℤ x (k + width)) none, zero_times (x (k + width)))

  pub start_costs : HasCosts costs (start_of width lines costs)
  start_costs d x solves =
      let n : length lines + width ≡ width + length (line_rows width lines) = let l = length-line_rows width lines in omega arith in
      let own : cost_row.entry (width + length (line_rows width lines)) ≡ negsuc 0 =
      subst (λ k. cost_row.entry (width + k) ≡ negsuc 0) (sym (length-line_rows width lines)) (slack_own (width + length lines) costs (pos 0) cost_past) in
      let left : left_side (width + length (line_rows width lines)) cost_row x ≡ cost_at costs x =
      subst (λ k. left_side k cost_row x ≡ cost_at costs x) n (left_is x (length lines) (omega arith)) in
      let one : neg_ℤ (cost_row.entry (width + length (line_rows width lines))) *ℤ cost_at costs x ≡ cost_at costs x =
      rw own (one-*ℤ (cost_at costs x)) in
      omega (arith, linear, one, left, times_zero d)
