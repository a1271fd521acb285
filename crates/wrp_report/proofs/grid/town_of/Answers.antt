use Rattle.std.proofs.Common.{◌≤◌, ◌+◌, false, length, get_or, arith, ap, ◌∙◌, refl, subst, sym, List}
use Rattle.std.specs.List.{All}
use Rattle.std.proofs.lemmas.List.Elements.{All-get_or}
use Rattle.wrp_report.specs.declared.grid.Plan.{Plan}
use Rattle.wrp_report.specs.Grid.{grid_of}
use Rattle.wrp_report.proofs.Drawn.{IsInGrid, IsDrawing, plans_inside, few_plans, drawing_none, drawing_more}
use Rattle.wrp_report.proofs.grid.town_of.Goals as goal

pub loop-plan-init : goal.loop-plan-init
loop-plan-init c = drawing_none c.args.seed c.args.width c.args.height c.as_slice-plan-items.result.now c.new-rows.result (c.as_slice-plan-items.ensures.value ∙ c.in_ok-plans.ensures) c.new-rows.ensures.rows c.new-rows.ensures.growing

pub row_of-requires-clause-x : goal.row_of-requires-clause-x
row_of-requires-clause-x c =
    let d : Plan = record { east = false; x = 0; y = 0 } in
    let all = subst (λ (ps : List Plan). All IsInGrid ps) (sym (c.as_slice-plan-items.ensures.value ∙ c.in_ok-plans.ensures)) (plans_inside c.args.width c.args.height c.requires.width c.requires.height) in
    (All-get_or IsInGrid c.as_slice-plan-items.result.now c.loop-plan.plan-index d c.loop-plan-test.true all).0

pub row_of-requires-clause-y : goal.row_of-requires-clause-y
row_of-requires-clause-y c =
    let d : Plan = record { east = false; x = 0; y = 0 } in
    let all = subst (λ (ps : List Plan). All IsInGrid ps) (sym (c.as_slice-plan-items.ensures.value ∙ c.in_ok-plans.ensures)) (plans_inside c.args.width c.args.height c.requires.width c.requires.height) in
    (All-get_or IsInGrid c.as_slice-plan-items.result.now c.loop-plan.plan-index d c.loop-plan-test.true all).1

pub loop-plan-preserved : goal.loop-plan-preserved
loop-plan-preserved c =
    let d : Plan = record { east = false; x = 0; y = 0 } in
    let plans = c.as_slice-plan-items.result.now in
    let i = c.loop-plan.plan-index in
    let are = c.as_slice-plan-items.ensures.value ∙ c.in_ok-plans.ensures in
    let all = subst (λ (ps : List Plan). All IsInGrid ps) (sym are) (plans_inside c.args.width c.args.height c.requires.width c.requires.height) in
    let inside = All-get_or IsInGrid plans i d c.loop-plan-test.true all in
    let small : length plans ≤ 800 = omega (arith, ap (λ (ps : List Plan). length ps) are, few_plans c.args.width c.args.height c.requires.width c.requires.height) in
    subst (λ s. IsDrawing (grid_of c.args.seed c.args.width c.args.height) plans (i + 1) c.add.new.self s) (sym c.row_of.ensures.state)
    (drawing_more (grid_of c.args.seed c.args.width c.args.height) plans i c.loop-plan.rows c.add.new.self c.loop-plan.draws.state (get_or plans i d) d c.in_ok-row_of.field-0 c.loop-plan.invariant c.loop-plan-test.true small refl inside c.in_ok-row_of.ensures.row c.in_ok-add.ensures.rows c.in_ok-add.ensures.counted)
