-- Costs of 1 aren't below 0.
use Rattle.std.proofs.Common.{ℕ, zero, suc, ◌<◌, [], ◌∷◌, get_or, length, List, ap, ℤ, pos, ◌≤ℤ◌, All, sym, subst, arith}
use Rattle.wrp_sums.proofs.Integers.{linear}
use Rattle.wrp_simplex.specs.Steps.{IsDualFeasible}
use Rattle.wrp_simplex.proofs.Lines.{start_dual}
use Rattle.wrp_simplex.proofs.dual_simplex.tests.tableau.Goals as goal

not_below : (k : ℕ) (d : ℤ) → k < 2 → pos 0 ≤ℤ get_or (pos 1 ∷ pos 1 ∷ []) k d
not_below zero d h = omega (arith, linear)
not_below (suc zero) d h = omega (arith, linear)
not_below (suc (suc k)) d h = absurd (omega arith)

pub returns : goal.returns
returns c =
    subst IsDualFeasible (sym c.in_ok-tableau.ensures.is)
    (start_dual 2 c.as_slice.result.now c.as_slice-2.result.now (ap (λ (l : List ℤ). length l) c.as_slice-2.ensures) (subst (λ l. All (λ z. pos 0 ≤ℤ z) l) (sym c.as_slice-2.ensures) (λ k d h. not_below k d h)))
