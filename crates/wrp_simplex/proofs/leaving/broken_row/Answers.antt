-- The basic value of a broken row, as its right side and the entry of its basic variable have it.
use Rattle.std.proofs.Common.{◌≡◌, ◌≢◌, ℕ, ◌<◌, ◌≤◌, ◌^◌, true, false, unsigned_abs, int_lt, length, ℤ, pos, negsuc, ◌-ℤ◌, ◌*ℤ◌, ◌<ℤ◌, arith, subst, sym, ap, ◌∙◌}
use Rattle.std.specs.Int.{w128}
use mir.Val.{to_z, of_z}
use mathlib.Core.Bool.{beq}
use Rattle.std.proofs.lemmas.Int.{ints}
use Rattle.std.proofs.lemmas.Bool.{false_from_ne_true, true_from_ne_false, true≢false}
use Rattle.std.proofs.lemmas.List.{length-map}
use Rattle.wrp_sums.proofs.Integers.{linear, lt-true, lt-false, one-*ℤ}
use Rattle.wrp_tableau.specs.Rows.{equation}
use Rattle.wrp_tableau.specs.Equations.{sign_of}
use Rattle.wrp_tableau.specs.Systems.{System, row, basic}
use Rattle.wrp_tableau.specs.Soundness.{IsSound}
use Rattle.wrp_tableau.specs.Kept.{system}
use Rattle.wrp_tableau.proofs.Factoring.{cast}
use Rattle.wrp_tableau.proofs.Combining.{size_above}
use Rattle.wrp_simplex.specs.Steps.{pivot_entry, numerator, denominator}
use Rattle.wrp_simplex.specs.declared.candidate.Candidate.{Candidate}
use Rattle.wrp_simplex.specs.Candidates.{IsSized, IsBrokenRow, row_candidate}
use Rattle.wrp_simplex.proofs.leaving.broken_row.Goals as goal

not_negative : (p : ℕ) → int_lt (pos p) (pos 0) ≡ false
not_negative p = false_from_ne_true (int_lt (pos p) (pos 0)) (λ e. absurd (omega (arith, linear, e, lt-true)))

negative : (p : ℕ) → int_lt (negsuc p) (pos 0) ≡ true
negative p = true_from_ne_false (int_lt (negsuc p) (pos 0)) (λ e. absurd (omega (arith, linear, e, lt-false)))

-- a number of another sign than p, times the sign of p, is its size below 0
turned : (p b : ℤ) → beq (int_lt p (pos 0)) (int_lt b (pos 0)) ≡ false → pos 0 -ℤ pos (unsigned_abs b) ≡ sign_of p *ℤ b
turned (pos p) (pos b) e = absurd (true≢false (rw (not_negative p, not_negative b) at e))
turned (pos p) (negsuc b) e = omega (arith, linear, one-*ℤ (negsuc b))
turned (negsuc p) (pos b) e = omega (arith, ints)
turned (negsuc p) (negsuc b) e = absurd (true≢false (rw (negative p, negative b) at e))

size_positive : (b : ℤ) → b ≢ pos 0 → (pos 0 -ℤ pos (unsigned_abs b)) <ℤ pos 0
size_positive b some = let h = size_above b some in omega (arith, linear)

module _ (s : System) (r v : ℕ) (x y a b : ℤ) (sound : IsSound s) (there : r < length s.rows) (v_is : v ≡ basic s r)
    (x_is : x ≡ (row s r).right) (x_small : unsigned_abs x ≤ 2 ^ 60) (y_is : y ≡ (row s r).entry v) (y_small : unsigned_abs y ≤ 2 ^ 60)
    (some : of_z w128 x ≡ 0 → ⊥) (differ : beq (int_lt (to_z w128 (of_z w128 y)) (pos 0)) (int_lt (to_z w128 (of_z w128 x)) (pos 0)) ≡ false)
    (a_is : a ≡ pos (unsigned_abs (to_z w128 (of_z w128 x)))) (b_is : b ≡ pos (unsigned_abs (to_z w128 (of_z w128 y)))) where
  abbrev made : Candidate
  made = record {
    place = r;
    variable = v;
    numerator = to_z w128 (of_z w128 (pos 0 -ℤ to_z w128 (of_z w128 a)));
    denominator = to_z w128 (of_z w128 b);
  }

  x_cast : to_z w128 (of_z w128 x) ≡ (row s r).right
  x_cast = cast x (omega arith) ∙ x_is

  y_cast : to_z w128 (of_z w128 y) ≡ pivot_entry s r
  y_cast = cast y (omega arith) ∙ y_is ∙ ap (row s r).entry v_is

  right_small : unsigned_abs (row s r).right ≤ 2 ^ 60
  right_small = subst (λ z. unsigned_abs z ≤ 2 ^ 60) x_is x_small

  entry_small : unsigned_abs (pivot_entry s r) ≤ 2 ^ 60
  entry_small = subst (λ z. unsigned_abs z ≤ 2 ^ 60) (y_is ∙ ap (row s r).entry v_is) y_small

  right_some : (row s r).right ≢ pos 0
  right_some none = some (ap (of_z w128) (x_is ∙ none))

  signs : pos 0 -ℤ pos (unsigned_abs (row s r).right) ≡ numerator s r
  signs = turned (pivot_entry s r) (row s r).right (rw (x_cast, y_cast) at differ)

  numerator_is : to_z w128 (of_z w128 (pos 0 -ℤ to_z w128 (of_z w128 a))) ≡ pos 0 -ℤ pos (unsigned_abs (row s r).right)
  numerator_is =
      let a_right : a ≡ pos (unsigned_abs (row s r).right) = a_is ∙ ap (λ (z : ℤ). pos (unsigned_abs z)) x_cast in
      let inner : to_z w128 (of_z w128 a) ≡ pos (unsigned_abs (row s r).right) = ap (λ (z : ℤ). to_z w128 (of_z w128 z)) a_right ∙ cast (pos (unsigned_abs (row s r).right)) (let h = right_small in omega arith) in
      ap (λ (z : ℤ). to_z w128 (of_z w128 (pos 0 -ℤ z))) inner
      ∙ cast (pos 0 -ℤ pos (unsigned_abs (row s r).right)) (let h = right_small in omega (arith, ints))

  denominator_is : to_z w128 (of_z w128 b) ≡ pos (denominator s r)
  denominator_is =
      ap (λ (z : ℤ). to_z w128 (of_z w128 z)) (b_is ∙ ap (λ (z : ℤ). pos (unsigned_abs z)) y_cast)
      ∙ cast (pos (denominator s r)) (let h = entry_small in omega arith)

  made_is : made ≡ row_candidate s r
  made_is =
      ap (λ (z : ℤ). record { place = r; variable = v; numerator = z; denominator = to_z w128 (of_z w128 b) }) (numerator_is ∙ signs)
      ∙ ap (λ (z : ℤ). record { place = r; variable = v; numerator = numerator s r; denominator = z }) denominator_is
      ∙ ap (λ (n : ℕ). record { place = r; variable = n; numerator = numerator s r; denominator = pos (denominator s r) }) v_is

  broken : IsBrokenRow s r made
  broken = record {
    broken = record { there = there; negative = subst (λ z. z <ℤ pos 0) signs (size_positive (row s r).right right_some) };
    is = made_is;
  }

  sized : IsSized made
  sized = subst IsSized (sym made_is) (record {
    positive = let h = size_above (pivot_entry s r) (sound.own r there) in omega (arith, linear);
    numerator_small = subst (λ z. unsigned_abs z ≤ 2 ^ 60) signs (let h = right_small in omega (arith, ints));
    denominator_small = entry_small;
  })

pub returns-clause-is : goal.returns-clause-is
returns-clause-is c =
    broken (system c.args.tableau.now) c.args.row c.basic-variable.result c.right-right.result c.entry-entry.result c.abs.result c.abs-2.result
    c.requires.sound (rw (length-map c.args.tableau.now.rows equation) c.requires.there) c.basic-variable.ensures c.right-right.ensures.value c.right-right.ensures.small c.entry-entry.ensures.value c.entry-entry.ensures.small
    c.if-right-eq0.false c.if-entry-right.false c.abs.ensures.value c.abs-2.ensures.value

pub returns-clause-sized : goal.returns-clause-sized
returns-clause-sized c =
    sized (system c.args.tableau.now) c.args.row c.basic-variable.result c.right-right.result c.entry-entry.result c.abs.result c.abs-2.result
    c.requires.sound (rw (length-map c.args.tableau.now.rows equation) c.requires.there) c.basic-variable.ensures c.right-right.ensures.value c.right-right.ensures.small c.entry-entry.ensures.value c.entry-entry.ensures.small
    c.if-right-eq0.false c.if-entry-right.false c.abs.ensures.value c.abs-2.ensures.value
