use Rattle.std.proofs.Common.{◌≡◌, ◌*◌, ℕ, length, ap, sym, ◌∙◌, subst}
use Rattle.wrp_town.specs.declared.town.Town.{Town}
use Rattle.wrp_tableau.specs.Systems.{start_of}
use Rattle.wrp_tableau.specs.Kept.{SparseSystem, system}
use Rattle.wrp_tableau.specs.Solutions.{HasCosts}
use Rattle.wrp_simplex.specs.Steps.{IsDualFeasible}
use Rattle.wrp_lp.specs.Relaxed.{width, costs_of}
use Rattle.wrp_lp.specs.Answers.{relaxed}
use Rattle.wrp_lp.proofs.Endings.{length-costs_of, started, start_dual, if_ok}
use Rattle.wrp_lp.proofs.relaxation.start.Goals as goal

pub start-requires-clause-costs : goal.start-requires-clause-costs
start-requires-clause-costs c =
    ap length (c.as_slice-2.ensures.value ∙ c.in_ok-costs.ensures.costs) ∙ length-costs_of c.town-town.result.now ∙ ap (λ (n : ℕ). 2 * n) (sym c.len.ensures)

pub returns-clause-start : goal.returns-clause-start
returns-clause-start c =
    let pool = c.args.rows.now in
    let costs_are = c.as_slice-2.ensures.value ∙ c.in_ok-costs.ensures.costs ∙ ap costs_of c.town-town.ensures in
    let width_is : 2 * c.len.result ≡ width pool.town = ap (λ (n : ℕ). 2 * n) c.len.ensures ∙ ap (λ (t : Town). width t) c.town-town.ensures in
    if_ok (λ (t : SparseSystem). system t ≡ start_of (2 * c.len.result) c.as_slice.result.now c.as_slice-2.result.now) (λ t. system t ≡ relaxed pool c.args.chosen.now c.args.bounds.now) c.start.result
    (λ t is. is ∙ started pool c.args.chosen.now c.args.bounds.now (2 * c.len.result) c.as_slice.result.now c.as_slice-2.result.now width_is (c.as_slice.ensures.value ∙ c.in_ok-lines.ensures.lines) costs_are)
    c.start.ensures.is

pub returns-clause-costs : goal.returns-clause-costs
returns-clause-costs c =
    let costs_are = c.as_slice-2.ensures.value ∙ c.in_ok-costs.ensures.costs ∙ ap costs_of c.town-town.ensures in
    if_ok (λ (t : SparseSystem). HasCosts c.as_slice-2.result.now (system t)) (λ t. HasCosts (costs_of c.args.rows.now.town) (system t)) c.start.result
    (λ t has. subst (λ cs. HasCosts cs (system t)) costs_are has)
    c.start.ensures.costs

pub returns-clause-dual : goal.returns-clause-dual
returns-clause-dual c =
    let pool = c.args.rows.now in
    if_ok (λ (t : SparseSystem). system t ≡ relaxed pool c.args.chosen.now c.args.bounds.now) (λ t. IsDualFeasible (system t)) c.start.result
    (λ t is. start_dual (system t) pool c.args.chosen.now c.args.bounds.now is)
    (returns-clause-start c)
