-- The start of a relaxation is sound, whatever its rows and its box are.
use Rattle.std.proofs.Common.{◌≡◌, ℕ, suc, ◌+◌, ◌^◌, ◌<◌, ◌≤◌, unsigned_abs, ℤ, pos, negsuc, ◌<ℤ◌, List, [], ◌∷◌, map, length, get_or, All, ap, refl, sym, ◌∙◌, arith, subst, eq-eqb}
use Rattle.std.specs.Int.{◌∣◌}
use Rattle.std.proofs.Math.ListN.{get_or-map}
use Rattle.std.proofs.Math.Nat.{eq-one_of_dvd-one}
use Rattle.std.proofs.lemmas.List.{length-map, get_or_past}
use Rattle.std.proofs.lemmas.List.Elements.{All-map, All-weaker}
use Rattle.wrp_sums.proofs.Integers.{linear}
use Rattle.wrp_town.specs.declared.town.Town.{Town}
use Rattle.wrp_rules.specs.Nodes.{Standing, node_at}
use Rattle.wrp_tableau.specs.declared.line.Line.{Line}
use Rattle.wrp_tableau.specs.Equations.{Equation, common_factor}
use Rattle.wrp_tableau.specs.Systems.{System, row, basic, variables, slack_row, slacks, start_of}
use Rattle.wrp_tableau.specs.Soundness.{IsSound}
use Rattle.wrp_tableau.specs.Starts.{IsLine}
use Rattle.wrp_tableau.proofs.Factors.{factor_divides}
use Rattle.wrp_tableau.proofs.Starts.{length-line_rows, get_or-line_rows, get_or-slacks, start_sound}
use Rattle.wrp_simplex.specs.Lines.{no_line}
use Rattle.wrp_lp.specs.Relaxed.{width, lines_of, costs_of}
use Rattle.wrp_lp.proofs.ArcLines.{lines_long}
use Rattle.wrp_lp.proofs.Endings.{length-costs_of}
use Rattle.wrp_licence.specs.Runs.{kept_rows, row_numbers, start_at}

-- a line with coefficients and a right side of 0
abbrev blank : Line → Line
blank line = record { coefs = map (λ z. pos 0) line.coefs; rhs = pos 0 }

blank_fits : (w : ℕ) (line : Line) → length line.coefs ≡ w → IsLine w (blank line)
blank_fits w line long = record {
  count = length-map line.coefs (λ z. pos 0) ∙ long;
  coefs_small = All-map (λ z. unsigned_abs z ≤ 2 ^ 60) (λ z. pos 0) line.coefs (λ i d h. omega arith);
  rhs_small = omega arith;
}

blank_slacks : (slack : ℕ) (lines : List Line) → slacks slack (map blank lines) ≡ slacks slack lines
blank_slacks slack [] = refl
blank_slacks slack (line ∷ lines) = ap (λ (xs : List ℕ). slack ∷ xs) (blank_slacks (slack + 1) lines)

module _ (w : ℕ) (lines : List Line) (costs : List ℤ) (long : All (λ line. length line.coefs ≡ w) lines) (costs_long : length costs ≡ w) where
  abbrev s : System
  s = start_of w lines costs

  -- the same start of blank lines
  abbrev u : System
  u = start_of w (map blank lines) costs

  sound : IsSound u
  sound = start_sound w (map blank lines) costs (All-map (IsLine w) blank lines (All-weaker (λ line. length line.coefs ≡ w) (λ line. IsLine w (blank line)) (blank_fits w) lines long)) costs_long

  count : length lines ≡ length (map blank lines)
  count = sym (length-map lines blank)

  rows_count : length s.rows ≡ length u.rows
  rows_count = length-line_rows w lines ∙ count ∙ sym (length-line_rows w (map blank lines))

  below : (r : ℕ) → r < length s.rows → r < length lines
  below r h = omega (arith, length-line_rows w lines, h)

  there : (r : ℕ) → r < length s.rows → r < length u.rows
  there r h = omega (arith, rows_count, h)

  basic_is : (r : ℕ) → r < length s.rows → basic s r ≡ w + r
  basic_is r h = get_or-slacks w lines r (below r h)

  same_basics : s.basics ≡ u.basics
  same_basics = sym (blank_slacks w lines)

  same_cost : s.cost ≡ u.cost
  same_cost = ap (λ (n : ℕ). slack_row (w + n) costs (pos 0)) count

  row_is : (r : ℕ) → r < length s.rows → row s r ≡ slack_row (w + r) (get_or lines r no_line).coefs (get_or lines r no_line).rhs
  row_is r h = get_or-line_rows w lines r no_line (below r h)

  -- past the structural variables no coefficient counts
  past : (r j : ℕ) → r < length s.rows → w ≤ j → (row s r).entry j ≡ (slack_row (w + r) [] (pos 0)).entry j
  past r j h over =
      let short : length (get_or lines r no_line).coefs ≤ j = omega (arith, long r no_line (below r h), over) in
      rw (row_is r h, get_or_past (get_or lines r no_line).coefs j (pos 0) short) refl

  blank_past : (r j : ℕ) → r < length s.rows → w ≤ j → (row u r).entry j ≡ (slack_row (w + r) [] (pos 0)).entry j
  blank_past r j h over =
      let inside : r < length (map blank lines) = omega (arith, below r h, count) in
      let coefs : length (get_or (map blank lines) r no_line).coefs ≤ j =
      omega (arith, ap (λ (l : Line). length l.coefs) (get_or-map blank lines r no_line), length-map {B = ℤ} (get_or lines r no_line).coefs (λ z. pos 0), long r no_line (below r h), over) in
      rw (get_or-line_rows w (map blank lines) r no_line inside, get_or_past (get_or (map blank lines) r no_line).coefs j (pos 0) coefs) refl

  same : (r j : ℕ) → r < length s.rows → w ≤ j → (row s r).entry j ≡ (row u r).entry j
  same r j h over = past r j h over ∙ sym (blank_past r j h over)

  own_entry : (r : ℕ) → r < length s.rows → (row s r).entry (w + r) ≡ negsuc 0
  own_entry r h = past r (w + r) h (omega arith) ∙ rw (eq-eqb (w + r) (w + r) refl) refl

  basic_same : (r : ℕ) → basic s r ≡ basic u r
  basic_same r = ap (λ (xs : List ℕ). get_or xs r 0) same_basics

  basic_over : (r : ℕ) → r < length s.rows → w ≤ basic s r
  basic_over r h = omega (arith, basic_is r h)

  pub sound_of_lines : IsSound s
  sound_of_lines = record {
    basics = ap length same_basics ∙ sound.basics ∙ sym rows_count;
    in_range = λ r j h over. same r j h (omega arith) ∙ sound.in_range r j (there r h) (omega (arith, rows_count, over));
    cost_in_range = λ j over. ap (λ (e : Equation). e.entry j) same_cost ∙ sound.cost_in_range j (omega (arith, rows_count, over));
    named = λ r h. omega (arith, basic_is r h, h);
    own = λ r h none. absurd (omega (arith, linear, own_entry r h, subst (λ j. (row s r).entry j ≡ pos 0) (basic_is r h) none));
    alone = λ r k h i differs. same k (basic s r) i (basic_over r h) ∙ ap (row u k).entry (basic_same r) ∙ sound.alone r k (there r h) (there k i) differs;
    priced = λ r h. ap (λ (e : Equation). e.entry (basic s r)) same_cost ∙ ap u.cost.entry (basic_same r) ∙ sound.priced r (there r h);
    scaled = subst (λ (n : ℕ). s.cost.entry (w + n) <ℤ pos 0) (sym rows_count) (subst (λ (e : Equation). e.entry (variables u) <ℤ pos 0) (sym same_cost) sound.scaled);
    primitive = λ r h.
        eq-one_of_dvd-one
        (subst (λ z. common_factor (suc (variables s)) (row s r) ∣ unsigned_abs z) (own_entry r h) (factor_divides (suc (variables s)) (row s r) (w + r) (omega (arith, h))));
    cost_primitive = ap (λ (n : ℕ). common_factor (suc (w + n)) s.cost) rows_count ∙ ap (common_factor (suc (variables u))) same_cost ∙ sound.cost_primitive;
  }

pub sound_at : (town : Town) (s : Standing) (node : ℕ) → IsSound (start_at town s node)
unfolding start_at
sound_at town s node =
    sound_of_lines (width town) (lines_of town (kept_rows town s) (row_numbers s) (node_at town s node).lo (node_at town s node).hi) (costs_of town)
    (lines_long town (kept_rows town s) (row_numbers s) (node_at town s node).lo (node_at town s node).hi)
    (length-costs_of town)
