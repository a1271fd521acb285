use Rattle.std.proofs.Common.{◌≡◌, ℕ, Bool, sym, ◌∙◌, subst, arith, ℤ, pos, int_lt, true, false, ◌≤ℤ◌, ◌<ℤ◌, inl, inr}
use Rattle.std.proofs.lemmas.Bool.{cases_eq}
use Rattle.wrp_sums.proofs.Integers.{tests}
use Rattle.wrp_rules.specs.Nodes.{empty_value}
use Rattle.wrp_box.specs.Points.{alone}
use Rattle.wrp_box.proofs.single.emptying_row.Goals as goal

at_most_zero : (b : Bool) (v : ℤ) → b ≡ int_lt (pos 0) v → b ≡ false → v ≤ℤ pos 0
at_most_zero b v is none = omega (arith, tests, sym is ∙ none)

above_zero : (b : Bool) (v : ℤ) → b ≡ int_lt (pos 0) v → b ≡ true → pos 0 <ℤ v
above_zero b v is some = omega (arith, tests, sym is ∙ some)

pub loop-row-preserved : goal.loop-row-preserved
loop-row-preserved c s node i has are below =
    let town = c.args.rows.now.town in
    let row = c.loop-row.row in
    elim (cases_eq i row) [
      | inl same ↦ subst (λ (j : ℕ). empty_value town s.rows node (alone j) ≤ℤ pos 0) (sym same)
          (at_most_zero c.empties.result (empty_value town s.rows node (alone row)) (c.empties.ensures s node has are) c.if-empties.false)
      | inr differs ↦ c.loop-row.invariant s node i has are (omega arith)
    ]

pub returns-then-empties-clause-some : goal.returns-then-empties-clause-some
returns-then-empties-clause-some c s node has are =
    above_zero c.empties.result (empty_value c.args.rows.now.town s.rows node (alone c.loop-row.row)) (c.empties.ensures s node has are) c.if-empties.true
