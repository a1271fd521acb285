use Rattle.std.proofs.Common.{◌≡◌, ◌<◌, ℕ, ℤ, pos, to_z, of_z, List, AllPairs, sym, subst, arith}
use Rattle.std.specs.Int.{w128}
use Rattle.wrp_sums.proofs.Integers.{casts}
use Rattle.wrp_bound.specs.Mults.{FitABound, IsSame}
use Rattle.wrp_box.proofs.Relaxed.{optimal_ascends, optimal_point, empty_ascends}
use Rattle.wrp_box.proofs.Shown.{bound_shown, empty_shown}
use Rattle.wrp_box.proofs.records.shown_record.Goals as goal

pub to_mult-requires-clause-ascending : goal.to_mult-requires-clause-ascending
to_mult-requires-clause-ascending c =
    let (pool, bounds, pivots, relaxed) = c.requires.relaxed in
    subst (λ (mult : List (ℕ × ℤ)). AllPairs (λ p q. p.0 < q.0) mult) (sym c.as_slice.ensures)
    (optimal_ascends pool pivots c.in-Optimal.point c.in-Optimal.mult c.in-Optimal.table c.in-Optimal.taken c.args.lp.now c.in-Optimal.is bounds relaxed)

pub to_mult-requires-in-Empty-clause-ascending : goal.to_mult-requires-in-Empty-clause-ascending
to_mult-requires-in-Empty-clause-ascending c =
    let (pool, bounds, pivots, relaxed) = c.requires.relaxed in
    subst (λ (mult : List (ℕ × ℤ)). AllPairs (λ p q. p.0 < q.0) mult) (sym c.as_slice-in-Empty.ensures)
    (empty_ascends pool pivots c.in-Empty.mult c.in-Empty.taken c.args.lp.now c.in-Empty.is bounds relaxed)

pub returns-in_ok-fitted-in-Optimal : goal.returns-in_ok-fitted-in-Optimal
returns-in_ok-fitted-in-Optimal c =
    let answer = c.in-Optimal in
    let fitted = c.in_ok-fitted-in-Optimal.fitted in
    let told = c.in_ok-fitted-in-Optimal.ensures in
    let (pool, bounds, pivots, relaxed) = c.requires.relaxed in
    let is = optimal_point pool pivots answer.point answer.mult answer.table answer.taken c.args.lp.now answer.is bounds relaxed in
    let den : to_z w128 (of_z w128 answer.point.den) ≡ answer.point.den = omega (arith, casts, is.positive, is.low) in
    let exact : FitABound answer.point.den c.as_slice.result.now → IsSame answer.point.den c.as_slice.result.now fitted =
    subst (λ (d : ℤ). FitABound d c.as_slice.result.now → IsSame d c.as_slice.result.now fitted) den told.exact in
    bound_shown c.args.node c.requires.small fitted told.ranges answer.point answer.mult answer.table answer.taken
    (subst (λ (mult : List (ℕ × ℤ)). FitABound answer.point.den mult → IsSame answer.point.den mult fitted) c.as_slice.ensures exact)
    c.args.lp.now answer.is

pub returns-in_ok-fitted-in-Empty : goal.returns-in_ok-fitted-in-Empty
returns-in_ok-fitted-in-Empty c =
    let answer = c.in-Empty in
    let fitted = c.in_ok-fitted-in-Empty.fitted in
    let told = c.in_ok-fitted-in-Empty.ensures in
    empty_shown c.args.node c.requires.small fitted told.ranges answer.mult answer.taken
    (subst (λ (mult : List (ℕ × ℤ)). FitABound (pos 1) mult → IsSame (pos 1) mult fitted) c.as_slice-in-Empty.ensures told.exact)
    c.args.lp.now answer.is
