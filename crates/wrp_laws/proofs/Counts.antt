-- A sum over the legal arcs by counts is a sum over the steps.
use Rattle.std.proofs.Common.{◌≡◌, ℕ, ◌+◌, true, cond, ◌==◌, ℤ, pos, ◌+ℤ◌, ◌*ℤ◌, List, [], ◌∷◌, ap, sym, ◌∙◌, arith, inl, inr, ◌⊎◌}
use Rattle.std.specs.List.{list_all}
use Rattle.std.proofs.lemmas.Bool.{cases_eq, eq-eqb, ne_eqb, and_parts}
use Rattle.std.proofs.lemmas.Int.{ints}
use Rattle.wrp_sums.specs.Sums.{sum_over}
use Rattle.wrp_sums.proofs.SumsOver.{sum_over-+ℤ, sum_over-ext, sum_over-all_zero, sum_over_single}
use Rattle.wrp_town.specs.declared.street.Step.{Step}
use Rattle.wrp_town.specs.declared.town.Town.{Town}
use Rattle.wrp_town.specs.Arcs.{is_legal, legal_arcs, arc_of}
use Rattle.wrp_town.specs.Walks.{count_of}
use Rattle.wrp_town.proofs.WalkLaws.{count_of-cons}
use Rattle.wrp_rules.proofs.LegalArcs.{legal_once}

-- one step more adds its arc's term
one_step_more : (f : ℕ → ℤ) (step : Step) (steps : List Step) (arc : ℕ) → f arc *ℤ pos (count_of (step ∷ steps) arc) ≡ cond (arc == arc_of step) (f arc) (pos 0) +ℤ f arc *ℤ pos (count_of steps arc)
one_step_more f step steps arc = ap (λ (n : ℕ). f arc *ℤ pos n) (count_of-cons step steps arc) ∙ by (cases_eq (arc_of step) arc)
  where
    by : (arc_of step ≡ arc) ⊎ (arc_of step ≡ arc → ⊥) → f arc *ℤ pos (cond (arc_of step == arc) 1 0 + count_of steps arc) ≡ cond (arc == arc_of step) (f arc) (pos 0) +ℤ f arc *ℤ pos (count_of steps arc)
    by (inl same) = rw (eq-eqb (arc_of step) arc same, eq-eqb arc (arc_of step) (sym same)) (omega (arith, ints))
    by (inr differs) = rw (ne_eqb (arc_of step) arc differs, ne_eqb arc (arc_of step) (λ same. differs (sym same))) (omega (arith, ints))

-- a sum over the legal arcs by counts is the sum over the steps
pub sum_by_counts : (town : Town) (f : ℕ → ℤ) (steps : List Step) → list_all (λ step. is_legal town (arc_of step)) steps ≡ true → sum_over (λ arc. f arc *ℤ pos (count_of steps arc)) (legal_arcs town) ≡ sum_over (λ step. f (arc_of step)) steps
sum_by_counts town f [] legal = sum_over-all_zero _ (legal_arcs town) (λ arc inside. omega (arith, ints))
sum_by_counts town f (step ∷ steps) legal =
    let parts = and_parts (is_legal town (arc_of step)) (list_all (λ s. is_legal town (arc_of s)) steps) legal in
    sum_over-ext (λ arc. f arc *ℤ pos (count_of (step ∷ steps) arc)) (λ arc. cond (arc == arc_of step) (f arc) (pos 0) +ℤ f arc *ℤ pos (count_of steps arc)) (one_step_more f step steps) (legal_arcs town)
    ∙ sum_over-+ℤ (λ arc. cond (arc == arc_of step) (f arc) (pos 0)) (λ arc. f arc *ℤ pos (count_of steps arc)) (legal_arcs town)
    ∙ ap (λ (z : ℤ). z +ℤ sum_over (λ arc. f arc *ℤ pos (count_of steps arc)) (legal_arcs town)) (sum_over_single f (arc_of step) (legal_arcs town) (legal_once town (arc_of step) parts.0))
    ∙ ap (λ (z : ℤ). f (arc_of step) +ℤ z) (sum_by_counts town f steps parts.1)
