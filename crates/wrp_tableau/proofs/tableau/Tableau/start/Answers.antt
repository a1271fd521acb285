use Rattle.std.proofs.Common.{◌≡◌, ◌+◌, ◌<◌, ◌^◌, ℕ, suc, List, length, ap, sym, ◌∙◌, subst, arith, pos}
use Rattle.std.proofs.lemmas.List.{length-map}
use Rattle.wrp_tableau.specs.Equations.{Equation}
use Rattle.wrp_tableau.specs.Systems.{variables, start_of, slack_row, line_rows, slacks}
use Rattle.wrp_tableau.specs.Solutions.{HasCosts}
use Rattle.wrp_tableau.specs.Soundness.{IsSound}
use Rattle.wrp_tableau.specs.Rows.{equation}
use Rattle.wrp_tableau.specs.Kept.{SparseSystem, system}
use Rattle.wrp_tableau.proofs.Starts.{length-line_rows, start_sound, start_costs}
use Rattle.wrp_tableau.proofs.tableau.Tableau.start.Goals as goal

module _ (c : goal.In_ok-cost) where
  abbrev fields : SparseSystem
  fields = record { width = c.args.width; rows = c.in_ok-rows.rows.items; basics = c.in_ok-basics.basics.items; cost = c.in_ok-cost.cost }

  cost_is : equation c.in_ok-cost.cost ≡ slack_row (c.args.width + length c.args.lines.now) c.args.costs.now (pos 0)
  cost_is = c.in_ok-cost.ensures.is

  system_is : system fields ≡ start_of c.args.width c.args.lines.now c.args.costs.now
  system_is =
      ap (λ (rows : List Equation). record { width = c.args.width; rows = rows; basics = c.in_ok-basics.basics.items; cost = equation c.in_ok-cost.cost }) c.in_ok-rows.ensures.are
      ∙ ap (λ (basics : List ℕ). record { width = c.args.width; rows = line_rows c.args.width c.args.lines.now; basics = basics; cost = equation c.in_ok-cost.cost }) c.in_ok-basics.ensures
      ∙ ap (λ (cost : Equation). record { width = c.args.width; rows = line_rows c.args.width c.args.lines.now; basics = slacks c.args.width c.args.lines.now; cost = cost }) cost_is

pub invariant_of-result : goal.invariant_of-result
invariant_of-result c = record {
  sound = subst IsSound (sym (system_is c)) (start_sound c.args.width c.args.lines.now c.args.costs.now c.requires.lines c.requires.costs);
  rows_stored = c.in_ok-rows.ensures.stored;
  cost_stored = c.in_ok-cost.ensures.stored;
  numbered =
      subst (λ s. suc (variables s) < 2 ^ 32) (sym (system_is c))
      (let l = length-line_rows c.args.width c.args.lines.now in let few = c.if-lines-width.false in omega arith);
}

pub returns-clause-costs : goal.returns-clause-costs
returns-clause-costs c =
    subst (HasCosts c.args.costs.now) (sym (system_is c))
    (start_costs c.args.width c.args.lines.now c.args.costs.now c.requires.lines c.requires.costs)

pub returns-clause-rows : goal.returns-clause-rows
returns-clause-rows c =
    sym (length-map c.in_ok-rows.rows.items equation)
    ∙ ap (λ (rows : List Equation). length rows) c.in_ok-rows.ensures.are
    ∙ length-line_rows c.args.width c.args.lines.now
