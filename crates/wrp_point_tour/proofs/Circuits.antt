-- Circuits of counts: how many traversals they have at most, and which of them are tours.
use Rattle.std.proofs.Common.{◌≡◌, ℕ, ◌*◌, ◌^◌, ◌<◌, ◌≤◌, Bool, true, false, cond, List, length, sum, ap, refl, sym, ◌∙◌, inl, inr, arith, eq-eqb, mul-le-mul}
use Rattle.std.specs.Prelude.{slice_index, nat_eq}
use Rattle.std.proofs.lemmas.Bool.{cases_lt, ltb-true}
use Rattle.std.proofs.lemmas.List.{get_or_default, get_or_past}
use Rattle.std.proofs.lemmas.List.Sums.{sum_by-le}
use Rattle.wrp_town.specs.declared.street.Step.{Step}
use Rattle.wrp_town.specs.declared.town.Town.{Town}
use Rattle.wrp_town.specs.Arcs.{arc_of, demands, has_arc, tail_of}
use Rattle.wrp_town.specs.Walks.{serves, is_tour}
use Rattle.wrp_town.proofs.Members.{all_from_members, any_from_member}
use Rattle.wrp_town.proofs.ServiceLaws.{step_from_counted}
use Rattle.wrp_town.proofs.TownLaws.{few_streets, few_demands}
use Rattle.wrp_town.proofs.WalkLaws.{tour_from}
use Rattle.wrp_euler.specs.Circuits.{AreCounts, IsCircuit, is_used}
use Rattle.wrp_tour.specs.Tours.{IsLeanTour}
use Rattle.wrp_point_tour.specs.Counts.{AreFew, AreServed, AreKept, is_marked}

-- so few uses of each arc are few traversals in all
pub few_traversals : (town : Town) (counts : List ℕ) → AreCounts town counts → AreFew town counts → sum counts ≤ 2 ^ 25
few_traversals town counts are few =
    let most : length counts * length (demands town) ≤ 8000 * 4000 = mul-le-mul {n₂ = 8000} {m₂ = 4000} (omega (arith, are.each, few_streets town)) (few_demands town) in
    omega (arith, most, sum_by-le (λ x. x) (length (demands town)) counts (λ k d below. omega (arith, get_or_default counts k d 0 below, few k)))

-- an arc that is used is within the list
pub used_inside : (counts : List ℕ) (arc : ℕ) → is_used counts arc ≡ true → arc < length counts
used_inside counts arc used =
    elim (cases_lt arc (length counts)) [ inl inside ↦ inside | inr past ↦ absurd (omega (arith, ltb-true 0 (slice_index counts arc) used, get_or_past counts arc 0 past)) ]

pub circuit_lean : (town : Town) (counts : List ℕ) (steps : List Step) → AreFew town counts → IsCircuit town counts steps → is_tour town steps ≡ true → IsLeanTour town steps
circuit_lean town counts steps few circuit tour = record { tour = tour; few = λ arc. omega (arith, circuit.counted arc, few arc) }

-- a circuit of counts that serve each demand is a tour
pub circuit_is_tour : (town : Town) (counts : List ℕ) (steps : List Step) → AreServed town counts → IsCircuit town counts steps → is_tour town steps ≡ true
circuit_is_tour town counts steps served circuit =
    tour_from town steps circuit.closed
    (all_from_members (serves steps) (demands town) (λ d inside.
    let s = served d inside in
    let m = step_from_counted steps s.0 (omega (arith, circuit.counted s.0, ltb-true 0 (slice_index counts s.0) s.2)) in
    any_from_member (λ step. has_arc d (arc_of step)) steps m.0 m.1 (ap (has_arc d) m.2 ∙ any_from_member (nat_eq s.0) d s.0 s.1 (eq-eqb s.0 s.0 refl))))

nothing : (b : Bool) → cond {A = ℕ} b 0 0 ≡ 0
nothing true = refl
nothing false = refl

-- the counts that are kept, past the last arc too
pub kept_all : (town : Town) (marks : List Bool) (counts kept : List ℕ) → length kept ≡ length counts → ((k : ℕ) → k < length counts → slice_index kept k ≡ cond (is_marked marks (tail_of town k)) (slice_index counts k) 0) → AreKept town marks counts kept
kept_all town marks counts kept long each arc =
    elim (cases_lt arc (length counts)) [
      | inl below ↦ each arc below
      | inr past ↦ get_or_past kept arc 0 (omega arith) ∙ sym (ap (λ (n : ℕ). cond (is_marked marks (tail_of town arc)) n 0) (get_or_past counts arc 0 past) ∙ nothing (is_marked marks (tail_of town arc)))
    ]
