-- Tours that use no arc more often than there are demands have few steps, and short lines.
use Rattle.std.proofs.Common.{◌≡◌, ◌∙◌, ℕ, ◌*◌, ◌^◌, ◌<◌, ◌≤◌, true, pos, ◌*ℤ◌, List, [], ◌∷◌, length, get_or, unsigned_abs, arith, ap, refl}
use Rattle.std.specs.List.{All}
use Rattle.std.proofs.lemmas.Int.{ints}
use Rattle.std.proofs.lemmas.List.Sums.{count_by-le-length, sum_by-le, length-filter}
use Rattle.std.proofs.lemmas.List.FromFn.{length-range_with_len}
use Rattle.wrp_sums.specs.Sums.{sum_over}
use Rattle.wrp_sums.proofs.Integers.{size_of_product}
use Rattle.wrp_sums.proofs.SumsOver.{size_of_sum_over}
use Rattle.wrp_town.specs.declared.street.Step.{Step}
use Rattle.wrp_town.specs.declared.town.Town.{Town}
use Rattle.wrp_town.specs.Limits.{cost_limit}
use Rattle.wrp_town.specs.Arcs.{arcs, is_legal, legal_arcs, arc_of, cost_or_zero, demands}
use Rattle.wrp_town.specs.Walks.{walk_cost, count_of}
use Rattle.wrp_town.proofs.TownLaws.{few_streets, few_demands, cost_or_zero-at_most, legal_step_below}
use Rattle.wrp_town.proofs.WalkLaws.{are_legal, tour_legal}
use Rattle.wrp_rules.specs.declared.record.Record.TheVariants.{Tour}
use Rattle.wrp_laws.proofs.Counts.{sum_by_counts}
use Rattle.wrp_writer.specs.Limits.{is_writable}
use Rattle.wrp_writer.proofs.ShortLines.{tour_writable}
use Rattle.wrp_tour.proofs.Uses.{legal_at}
use Rattle.wrp_tour.specs.Tours.{UsesFew, IsLeanTour, most_steps}

ones : {X : Type 0} (xs : List X) → sum_over (λ x. pos 1) xs ≡ pos (length xs)
ones [] = refl
ones (x ∷ xs) = omega (arith, ints, ones xs)

few_arcs : (town : Town) → length (legal_arcs town) ≤ 8000
few_arcs town = omega (arith, length-filter (is_legal town) (arcs town), count_by-le-length (is_legal town) (arcs town), length-range_with_len 0 (2 * length town.streets), few_streets town)

-- each step is counted at its arc
counted : (town : Town) (steps : List Step) → are_legal town steps ≡ true → UsesFew town steps → length steps ≤ length (legal_arcs town) * length (demands town)
counted town steps legal few =
    omega (
      arith,
      ap unsigned_abs (sum_by_counts town (λ arc. pos 1) steps legal ∙ ones steps),
      size_of_sum_over (λ arc. pos 1 *ℤ pos (count_of steps arc)) (length (demands town)) (legal_arcs town) (λ arc inside. omega (arith, ints, few arc)),
    )

within : (a b : ℕ) → a ≤ 8000 → b ≤ 4000 → a * b ≤ most_steps
within a b low small = size_of_product (pos a) (pos b) 8000 4000 low small

pub few_steps : (town : Town) (steps : List Step) → IsLeanTour town steps → length steps ≤ most_steps
few_steps town steps lean =
    omega (
      arith,
      counted town steps (tour_legal town steps lean.tour) lean.few,
      within (length (legal_arcs town)) (length (demands town)) (few_arcs town) (few_demands town),
    )

on_streets : (town : Town) (steps : List Step) → are_legal town steps ≡ true → All (λ step. step.street < 10 ^ 4) steps
on_streets town steps legal = λ k d inside. omega (arith, legal_step_below town (get_or steps k d) (legal_at town steps k d legal inside), few_streets town)

costs_few : (town : Town) (steps : List Step) → walk_cost town steps ≤ length steps * cost_limit
costs_few town steps = sum_by-le (λ step. cost_or_zero town (arc_of step)) cost_limit steps (λ k d inside. cost_or_zero-at_most town (arc_of (get_or steps k d)))

pub lean_writable : (town : Town) (steps : List Step) → IsLeanTour town steps → is_writable (Tour (walk_cost town steps) steps) ≡ true
lean_writable town steps lean =
    let few : length steps ≤ most_steps = few_steps town steps lean in
    tour_writable (walk_cost town steps) steps (omega (arith, few, costs_few town steps)) (on_streets town steps (tour_legal town steps lean.tour)) few
