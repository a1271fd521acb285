use Rattle.std.proofs.Common.{◌≡◌, ℕ, ℤ, List, length, ap, sym, ◌∙◌, subst}
use Rattle.wrp_tableau.specs.Systems.{System}
use Rattle.wrp_tableau.specs.Kept.{system}
use Rattle.wrp_simplex.specs.Steps.{after_steps}
use Rattle.wrp_simplex.specs.Ends.{IsStuck, EndsSo}
use Rattle.wrp_lp.specs.declared.lp.Lp.{Lp}
use Rattle.wrp_lp.specs.declared.lp.Lp.TheVariants.{Empty}
use Rattle.wrp_lp.specs.Reading.{empty_multiplier, multipliers_of}
use Rattle.wrp_lp.specs.Answers.{relaxed, steps_of, EndsAt, Shows}
use Rattle.wrp_lp.proofs.Endings.{if_ok_both, ends_so, shows_so}
use Rattle.wrp_lp.proofs.relaxation.relax.Goals as goal

pub returns-in-Optimal-clause-end : goal.returns-in-Optimal-clause-end
returns-in-Optimal-clause-end c =
    let pool = c.args.rows.now in
    let chosen = c.args.chosen.now in
    let bounds = c.args.bounds.now in
    let s = system c.in_ok-table.table in
    let t = system c.run.new.tableau in
    let steps = c.run.new.taken.items in
    if_ok_both (EndsAt t chosen c.args.pivots) (λ (lp : Lp). steps_of lp ≡ c.from_vec-taken.result)
    (λ (lp : Lp). EndsAt (after_steps (relaxed pool chosen bounds) (steps_of lp)) chosen c.args.pivots lp) c.optimal.result
    (λ lp ends took. ends_so pool chosen bounds s c.in_ok-table.ensures.start steps t c.in_ok-end.ensures.run c.args.pivots lp (took ∙ c.from_vec-taken.ensures) ends)
    (c.optimal.ensures.end c.args.pivots) c.optimal.ensures.steps

pub returns-in-Optimal-clause-shows : goal.returns-in-Optimal-clause-shows
returns-in-Optimal-clause-shows c =
    let pool = c.args.rows.now in
    let chosen = c.args.chosen.now in
    let bounds = c.args.bounds.now in
    let s = system c.in_ok-table.table in
    let t = system c.run.new.tableau in
    let steps = c.run.new.taken.items in
    if_ok_both (EndsAt t chosen c.args.pivots) (λ (lp : Lp). steps_of lp ≡ c.from_vec-taken.result) (Shows pool bounds) c.optimal.result
    (λ lp ends took. shows_so pool chosen bounds s c.in_ok-table.ensures.start steps t c.in_ok-end.ensures.run c.args.pivots lp (took ∙ c.from_vec-taken.ensures)
    c.requires.bounds c.in_ok-table.ensures.costs ends)
    (c.optimal.ensures.end c.args.pivots) c.optimal.ensures.steps

-- the run is stuck at a row, off which the multipliers are read
stuck_at : (t : System) (chosen : List ℕ) (limit : ℕ) (steps taken : List (ℕ × ℕ)) (row : ℕ) (mult : List (ℕ × ℤ)) → taken ≡ steps → IsStuck t limit (length steps) row → mult ≡ multipliers_of chosen (empty_multiplier t row) → EndsAt t chosen limit (Empty mult taken)
stuck_at t chosen limit steps taken row mult same stuck is =
    record { row = row; stuck = subst (λ n. IsStuck t limit n row) (ap length (sym same)) stuck; multipliers = is }

pub returns-in_ok-empty_mult-in-Empty-clause-end : goal.returns-in_ok-empty_mult-in-Empty-clause-end
returns-in_ok-empty_mult-in-Empty-clause-end c =
    let s = system c.in_ok-table.table in
    let t = system c.run.new.tableau in
    let steps = c.run.new.taken.items in
    let taken = c.from_vec-taken.result in
    let mult = c.in_ok-empty_mult-in-Empty.field-0 in
    let stuck = subst (EndsSo t c.args.pivots (length steps)) c.in-Empty.is c.in_ok-end.ensures.end in
    ends_so c.args.rows.now c.args.chosen.now c.args.bounds.now s c.in_ok-table.ensures.start steps t c.in_ok-end.ensures.run c.args.pivots (Empty mult taken) c.from_vec-taken.ensures
    (stuck_at t c.args.chosen.now c.args.pivots steps taken c.in-Empty.row mult c.from_vec-taken.ensures stuck c.in_ok-empty_mult-in-Empty.ensures)

pub returns-in_ok-empty_mult-in-Empty-clause-shows : goal.returns-in_ok-empty_mult-in-Empty-clause-shows
returns-in_ok-empty_mult-in-Empty-clause-shows c =
    let s = system c.in_ok-table.table in
    let t = system c.run.new.tableau in
    let steps = c.run.new.taken.items in
    let taken = c.from_vec-taken.result in
    let mult = c.in_ok-empty_mult-in-Empty.field-0 in
    let stuck = subst (EndsSo t c.args.pivots (length steps)) c.in-Empty.is c.in_ok-end.ensures.end in
    shows_so c.args.rows.now c.args.chosen.now c.args.bounds.now s c.in_ok-table.ensures.start steps t c.in_ok-end.ensures.run c.args.pivots (Empty mult taken) c.from_vec-taken.ensures
    c.requires.bounds c.in_ok-table.ensures.costs
    (stuck_at t c.args.chosen.now c.args.pivots steps taken c.in-Empty.row mult c.from_vec-taken.ensures stuck c.in_ok-empty_mult-in-Empty.ensures)
