-- Pivots keep what a system has.
use Rattle.std.proofs.Common.{◌≡◌, ◌≢◌, ℕ, suc, ◌<◌, ℤ, pos, refl, sym, ◌∙◌, arith, subst, length}
use Rattle.wrp_tableau.specs.Systems.{System, variables, row, pivoted}
use Rattle.wrp_tableau.specs.Solutions.{Solves}
use Rattle.wrp_tableau.specs.Soundness.{IsSound}
use Rattle.wrp_tableau.proofs.Pivots.{rows_kept, width_kept, variables_kept, solves_new, cost_new, sound_kept}
use Rattle.wrp_tableau.proofs.Costs.{same_solutions, costs_kept}
use Rattle.wrp_simplex.specs.Follows.{IsCostSolution, Follows}

pub follows_itself : (s : System) → IsSound s → Follows s s
follows_itself s sound = record {
  sound = sound;
  width = refl;
  rows = refl;
  solutions = λ d x. ((λ h. h), (λ h. h));
  costs = λ costs h. h;
  with_cost = λ d x h. h;
}

pub variables_same : (s t : System) → Follows s t → variables t ≡ variables s
variables_same s t is = let w = is.width in let r = is.rows in omega arith

module _ (t : System) (r c : ℕ) (sound : IsSound t) (here : r < length t.rows) (some : (row t r).entry c ≢ pos 0) where
  at : (k : ℕ) → k < length (pivoted t r c).rows → k < length t.rows
  at k h = subst (λ n. k < n) (rows_kept t r c) h

  pub cost_solution_kept : (d : ℤ) (x : ℕ → ℤ) → IsCostSolution t d x → IsCostSolution (pivoted t r c) d x
  cost_solution_kept d x old = record {
    rows = λ k i. subst (λ n. Solves (suc n) d x (row (pivoted t r c) k)) (sym (variables_kept t r c))
        (solves_new t r c sound here some (suc (variables t)) d x k (omega arith) (at k i) (old.rows r here) (old.rows k (at k i)));
    cost = subst (λ n. Solves (suc n) d x (pivoted t r c).cost) (sym (variables_kept t r c))
        (cost_new t r c sound here some (suc (variables t)) d x (omega arith) (old.rows r here) old.cost);
  }

  pub follows_pivot : (s : System) → Follows s t → Follows s (pivoted t r c)
  follows_pivot s so_far = record {
    sound = sound_kept t r c sound here some;
    width = width_kept t r c ∙ so_far.width;
    rows = rows_kept t r c ∙ so_far.rows;
    solutions = λ d x. (
      (λ h. (same_solutions t r c sound here some d x).0 ((so_far.solutions d x).0 h)),
      (λ h. (so_far.solutions d x).1 ((same_solutions t r c sound here some d x).1 h)),
    );
    costs = λ costs h. costs_kept t r c sound here some costs (so_far.costs costs h);
    with_cost = λ d x h. cost_solution_kept d x (so_far.with_cost d x h);
  }
