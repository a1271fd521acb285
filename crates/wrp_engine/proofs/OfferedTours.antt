-- Tours that are offered to a list.
use Rattle.std.proofs.Common.{◌≡◌, ℕ, ◌≤◌, min, Bool, true, false, not, nat_lt, List, [], ◌∷◌, length, Option, None, Some, pos, ap, refl, sym, ◌∙◌, subst, inl, inr, ◌⊎◌, arith, eq-eqb}
use Rattle.std.specs.Prelude.{if◌then◌else◌}
use Rattle.std.specs.Option.{option_map_or, unwrap_or}
use Rattle.std.specs.List.{list_all, list_any}
use Rattle.std.proofs.lemmas.Bool.{and_parts, and_from, lt-ltb, cases_lt}
use Rattle.wrp_sums.proofs.Integers.{linear}
use Rattle.wrp_town.specs.declared.street.Step.{Step}
use Rattle.wrp_town.specs.declared.town.Town.{Town}
use Rattle.wrp_town.specs.Walks.{is_closed_walk, serves_all, walk_cost}
use Rattle.wrp_town.proofs.TownLaws.{legal_step_below}
use Rattle.wrp_town.proofs.WalkLaws.{are_legal, tour_legal}
use Rattle.wrp_rules.specs.declared.record.Record.{Record}
use Rattle.wrp_rules.specs.declared.record.Record.TheVariants.{Tour}
use Rattle.wrp_rules.specs.Nodes.{Standing, standing, is_below}
use Rattle.wrp_rules.specs.Rules.{broken_rule, is_labels}
use Rattle.wrp_rules.specs.Lists.{is_valid}
use Rattle.wrp_writer.specs.Limits.{is_writable}
use Rattle.wrp_laws.proofs.Rules.{all_rules}
use Rattle.wrp_tour.proofs.LeanTours.{lean_writable}
use Rattle.wrp_tour.specs.Tours.{IsLeanTour}
use Rattle.wrp_keep.specs.Keeps.{KeepState}
use Rattle.wrp_progress.proofs.Growing.{standing_records, standing_more}
use Rattle.wrp_progress.proofs.Keeping.{lt_test}
use Rattle.wrp_progress.proofs.Branching.{none_broken}
use Rattle.wrp_progress.proofs.Unlabelled.{unlabelled}
use Rattle.wrp_engine.specs.Offers.{Offers, HasUpper}

-- the cost of a tour, as it is told
abbrev told_cost : Town → List Step → Option ℕ
told_cost town steps = if are_legal town steps then Some (walk_cost town steps) else None

pub cost_is : (town shown : Town) (steps seen : List Step) (told : Option ℕ) (cost : ℕ) → IsLeanTour town steps → shown ≡ town → seen ≡ steps → told ≡ told_cost shown seen → cost ≡ unwrap_or told 0 → cost ≡ walk_cost town steps
cost_is town shown steps seen told cost lean same_town same_steps is taken =
    taken
    ∙ ap (λ (o : Option ℕ). unwrap_or o 0)
    (is ∙ ap (λ (t : Town). told_cost t seen) same_town ∙ ap (told_cost town) same_steps
    ∙ ap (λ (b : Bool). if b then Some (walk_cost town steps) else None) (tour_legal town steps lean.tour))

on_streets : (town : Town) (steps : List Step) → are_legal town steps ≡ true → list_all (λ step. nat_lt step.street (length town.streets)) steps ≡ true
on_streets town [] legal = refl
on_streets town (step ∷ steps) legal =
    let parts = and_parts _ _ legal in
    and_from _ _ (lt-ltb step.street (length town.streets) (legal_step_below town step parts.0)) (on_streets town steps parts.1)

-- a tour that is cheaper than those that stand may join them
tour_follows : (town : Town) (records : List Record) (cost : ℕ) (steps : List Step) → IsLeanTour town steps → is_valid town records ≡ true → cost ≡ walk_cost town steps → is_writable (Tour cost steps) ≡ true
    → is_below (pos cost) (standing town records).upper ≡ true → broken_rule town (standing town records) (Tour cost steps) ≡ None
tour_follows town records cost steps lean valid is writable below =
    let alone : not (list_any is_labels (standing town records).records) ≡ true =
    ap (λ (rs : List Record). not (list_any is_labels rs)) (standing_records town records) ∙ ap not (unlabelled town (λ none. none steps lean.tour) records valid) in
    let tour = and_parts (is_closed_walk town steps) (serves_all town steps) lean.tour in
    none_broken (all_rules town (standing town records) (Tour cost steps))
    (and_from _ _ (and_parts _ _ writable).0
    (and_from _ _ alone
    (and_from _ _ (on_streets town steps (tour_legal town steps lean.tour))
    (and_from _ _ tour.0
    (and_from _ _ tour.1
    (and_from _ _ (eq-eqb (walk_cost town steps) cost (sym is))
    (and_from _ _ below refl)))))))

-- a tour is cheaper, or one that is no dearer stands
cheaper_or_stands : (cost : ℕ) (upper : Option ℕ) → (is_below (pos cost) upper ≡ true) ⊎ ((u : ℕ) × (upper ≡ Some u) × (u ≤ cost))
cheaper_or_stands cost None = inl refl
cheaper_or_stands cost (Some u) =
    elim (cases_lt cost u) [
      | inl less ↦ inl (lt_test (pos cost) (pos u) (omega (arith, linear, less)))
      | inr least ↦ inr (u, refl, least)
    ]

no_dearer : (cost : ℕ) (upper : Option ℕ) → option_map_or (min cost) upper cost ≤ cost
no_dearer cost None = omega arith
no_dearer cost (Some u) = omega arith

module _ (old new : KeepState) (cost : ℕ) (steps : List Step) (lean : IsLeanTour old.town steps) (valid : is_valid old.town old.records ≡ true) (is : cost ≡ walk_cost old.town steps) (town : new.town ≡ old.town) where
  pub writable : is_writable (Tour cost steps) ≡ true
  writable = subst (λ (c : ℕ). is_writable (Tour c steps) ≡ true) (sym is) (lean_writable old.town steps lean)

  abbrev s : Standing
  s = standing old.town old.records

  pub offered_upper : (joined : Bool) → Offers (Tour cost steps) old new joined → HasUpper (walk_cost old.town steps) new
  offered_upper true offers = (
    option_map_or (min cost) s.upper cost,
    ap (λ (t : Standing). t.upper) (ap (λ (t : Town). standing t new.records) town ∙ ap (standing old.town) offers.1 ∙ standing_more old.town old.records (Tour cost steps)),
    omega (arith, is, no_dearer cost s.upper),
  )
  offered_upper false offers =
      let stays = ap (λ (t : Standing). t.upper) (ap (λ (t : Town). standing t new.records) town ∙ ap (standing old.town) offers.1) in
      elim (cheaper_or_stands cost s.upper) [
        | inl below ↦ absurd (offers.0 (tour_follows old.town old.records cost steps lean valid is writable below))
        | inr stands ↦ (stands.0, stays ∙ stands.1, omega (arith, is, stands.2))
      ]
