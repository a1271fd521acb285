-- Each turn adds the next step to the run.
use Rattle.std.proofs.Common.{◌≡◌, List, ap, ℕ, [], ◌∷◌, ◌++◌, ◌-◌, length, take, arith, subst, sym, ◌∙◌, length-append}
use Rattle.std.proofs.Math.Seq.{take-append_seam}
use Rattle.wrp_tableau.specs.Systems.{System}
use Rattle.wrp_tableau.specs.Kept.{system}
use Rattle.wrp_simplex.specs.Steps.{IsNext}
use Rattle.wrp_simplex.specs.Ends.{IsRefused}
use Rattle.wrp_simplex.specs.Runs.{IsRunFrom}
use Rattle.wrp_simplex.proofs.Runs.{run_more}
use Rattle.wrp_simplex.proofs.dual_simplex.run.Goals as goal

-- what was pushed is popped
popped : (old new out : List (ℕ × ℕ)) (step : ℕ × ℕ) → new ≡ old ++ step ∷ [] → out ≡ take (length new - 1) new → out ≡ old
popped old new out step is taken =
    let n : length (old ++ step ∷ []) - 1 ≡ length old = let l = length-append old (step ∷ []) in omega arith in
    taken ∙ ap (λ (l : List (ℕ × ℕ)). take (length l - 1) l) is ∙ ap (λ (k : ℕ). take k (old ++ step ∷ [])) n ∙ take-append_seam old (step ∷ [])

pub returns-in-Wide-clause-end : goal.returns-in-Wide-clause-end
returns-in-Wide-clause-end c =
    let i = c.loop-steps.invariant in
    let h = c.in-Err.ensures in
    let step : ℕ × ℕ = (c.in-Some.row, c.in-Some-entering_column.column) in
    let next : IsNext (system c.loop-steps.tableau) c.loop-steps.steps step = record { leaving = c.in-Some.ensures; entering = c.in-Some-entering_column.ensures } in
    let items = popped c.loop-steps.taken.items c.push.new.self.items c.pop.new.self.items step c.in_ok-push.ensures.items (c.pop.ensures.rest ∙ ap (λ (n : ℕ). take (n - 1) c.push.new.self.items) c.push.new.self.ok.0) in
    subst (λ s. IsRefused (system s) c.args.limit (length c.pop.new.self.items)) (sym h.err)
    (record {
      within = rw items (omega arith);
      step = step;
      next = subst (λ k. IsNext (system c.loop-steps.tableau) k step) (i.count ∙ ap (λ (l : List (ℕ × ℕ)). length l) (sym items)) next;
      wide = h.wide c.in-Wide.is;
    })

pub loop-steps-preserved : goal.loop-steps-preserved
loop-steps-preserved c =
    let i = c.loop-steps.invariant in
    let h = c.in_default-pivot.ensures in
    let s = system c.args.tableau.now in
    let t = system c.loop-steps.tableau in
    let step : ℕ × ℕ = (c.in-Some.row, c.in-Some-entering_column.column) in
    let next : IsNext t c.loop-steps.steps step = record { leaving = c.in-Some.ensures; entering = c.in-Some-entering_column.ensures } in
    let items = c.in_ok-push.ensures.items in
    record {
      run = subst (λ l. IsRunFrom s l (system c.pivot.new.self)) (sym items)
          (subst (λ (u : System). IsRunFrom s (c.loop-steps.taken.items ++ step ∷ []) u) (sym h.ok)
          (run_more s c.loop-steps.taken.items t step.0 step.1 i.run (subst (λ k. IsNext t k step) i.count next) h.narrow));
      count = rw items (let l = length-append c.loop-steps.taken.items (step ∷ []) in let e = i.count in omega arith);
      rows = i.rows ∙ sym h.rows;
      within = omega arith;
    }
