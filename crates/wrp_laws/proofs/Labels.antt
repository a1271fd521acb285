-- Where a valid Labels record is there, there is no tour.
use Rattle.std.proofs.Common.{◌≡◌, ℕ, zero, suc, ◌<◌, ◌≤◌, Bool, true, false, ◌&&◌, not, ◌==◌, nat_le, nat_lt, List, [], ◌∷◌, length, Contains, Option, Some, None, is_none, ap, refl, sym, subst, arith, eq-eqb, slice_get}
use Rattle.std.specs.Prelude.{slice_index}
use Rattle.std.specs.Option.{option_map_or}
use Rattle.std.specs.List.{list_any, list_all}
use Rattle.std.proofs.lemmas.Bool.{and_parts, and_from, eqb-true, leb-true, ltb-true, false≢true}
use Rattle.wrp_town.specs.declared.street.Street.{Street}
use Rattle.wrp_town.specs.declared.street.Step.{Step}
use Rattle.wrp_town.specs.declared.town.Town.{Town}
use Rattle.wrp_town.specs.Streets.{demands_at}
use Rattle.wrp_town.specs.Arcs.{is_legal, tail_of, head_of, demands, legal_arcs, arc_of}
use Rattle.wrp_town.specs.Walks.{leads, is_closed_walk, serves, is_tour, HasNoTour}
use Rattle.wrp_town.proofs.TownLaws.{legal_below, tail_of-below, slice_get_inside, sound_street}
use Rattle.wrp_town.proofs.WalkLaws.{LeadsBy-from_leads, leads-from_closed, tour_closed, tour_serves, tour_legal}
use Rattle.wrp_town.proofs.Members.{inside_head, inside_cases, inside_none, member_from_any, member_passes}
use Rattle.wrp_town.proofs.ServiceLaws.{served_arc, step_from_counted}
use Rattle.wrp_rules.specs.declared.record.Record.TheVariants.{Labels}
use Rattle.wrp_rules.specs.Nodes.{Standing}
use Rattle.wrp_rules.specs.Rules.{broken_rule, all_below, keeps_label, breaks_label}
use Rattle.wrp_laws.proofs.Rules.{rules_kept, all_rules}
use Rattle.wrp_laws.proofs.Crossings.{demand_there}
use Rattle.wrp_rules.proofs.LegalArcs.{inside_legal}

-- a number of each junction that never rises along a legal arc
module _ (town : Town) (label : ℕ → ℕ) (falls : (arc : ℕ) → is_legal town arc ≡ true → label (head_of town arc) ≤ label (tail_of town arc)) where
  falls_along : (i : ℕ) (steps : List Step) (j : ℕ) → leads town i steps j ≡ true → label j ≤ label i
  falls_along i [] j lead = omega (arith, ap label (eqb-true i j lead))
  falls_along i (step ∷ steps) j lead =
      let by = LeadsBy-from_leads town i step steps j lead in
      omega (arith, falls_along (head_of town (arc_of step)) steps j by.goes_on, falls (arc_of step) by.legal, ap label by.begins)

  between_ends : (i : ℕ) (steps : List Step) (j : ℕ) → leads town i steps j ≡ true → (step : Step) → Contains steps step → (label (tail_of town (arc_of step)) ≤ label i) × (label j ≤ label (head_of town (arc_of step)))
  between_ends i [] j lead step inside = absurd (inside_none step inside)
  between_ends i (first ∷ steps) j lead step inside =
      let by = LeadsBy-from_leads town i first steps j lead in
      let rest = falls_along (head_of town (arc_of first)) steps j by.goes_on in
      inside_cases ((label (tail_of town (arc_of step)) ≤ label i) × (label j ≤ label (head_of town (arc_of step)))) first steps step inside
      (λ same. (omega (arith, ap (λ s. label (tail_of town (arc_of s))) same, ap label by.begins), omega (arith, ap (λ s. label (head_of town (arc_of s))) same)))
      (λ other.
      let b = between_ends (head_of town (arc_of first)) steps j by.goes_on step other in
      (omega (arith, b.0, falls (arc_of first) by.legal, ap label by.begins), b.1))

  -- so a closed walk keeps it
  pub keeps_number : (steps : List Step) → is_closed_walk town steps ≡ true → (i : ℕ) × ((step : Step) → Contains steps step → (label (tail_of town (arc_of step)) ≡ label i) × (label (head_of town (arc_of step)) ≡ label i))
  keeps_number steps closed =
      let from = leads-from_closed town steps closed in (
        from.0,
        λ step inside.
            let b = between_ends from.0 steps from.0 from.1 step inside in
            let legal : is_legal town (arc_of step) ≡ true = legal_step from.0 steps from.0 from.1 step inside in
            let f = falls (arc_of step) legal in
            (omega arith, omega arith),
      )
    where
      legal_step : (i : ℕ) (steps : List Step) (j : ℕ) → leads town i steps j ≡ true → (step : Step) → Contains steps step → is_legal town (arc_of step) ≡ true
      legal_step i [] j lead step inside = absurd (inside_none step inside)
      legal_step i (first ∷ steps) j lead step inside =
          let by = LeadsBy-from_leads town i first steps j lead in
          inside_cases (is_legal town (arc_of step) ≡ true) first steps step inside (λ same. subst (λ s. is_legal town (arc_of s) ≡ true) same by.legal) (λ other. legal_step (head_of town (arc_of first)) steps j by.goes_on step other)

-- a demand of a street that breaks a label
record IsBroken (town : Town) (labels : List ℕ) (label : ℕ) : Type 0 where
  demand : List ℕ
  there : Contains (demands town) demand
  apart : list_all (λ arc. not (is_legal town arc && keeps_label town labels label arc)) demand ≡ true

broken_by : (town : Town) (labels : List ℕ) (label street : ℕ) → breaks_label town labels label street ≡ true → IsBroken town labels label
broken_by town labels label street breaks = of_street (slice_get town.streets street) refl breaks
  where
    of_street : (o : Option Street) → slice_get town.streets street ≡ o → option_map_or (λ s. list_any (λ demand. list_all (λ arc. not (is_legal town arc && keeps_label town labels label arc)) demand) (demands_at street s.need)) o false ≡ true → IsBroken town labels label
    of_street None e h = absurd (false≢true h)
    of_street (Some s) e h =
        let m = member_from_any (λ demand. list_all (λ arc. not (is_legal town arc && keeps_label town labels label arc)) demand) (demands_at street s.need) h in
        record { demand = m.0; there = demand_there 0 street town.streets s m.0 e (subst (λ k. Contains (demands_at k s.need) m.0) (omega arith) m.1); apart = m.2 }

member_at : (labels : List ℕ) (j : ℕ) → j < length labels → Contains labels (slice_index labels j)
member_at [] j below = absurd (omega arith)
member_at (x ∷ labels) zero below = inside_head x labels
member_at (x ∷ labels) (suc j) below = let rest = member_at labels j (omega arith) in (suc rest.0, omega (arith, rest.1), rest.2)

first_street : (n : ℕ) (streets : List ℕ) → 0 < length streets → all_below n streets ≡ true → 0 < n
first_street n [] some below = absurd (omega arith)
first_street n (x ∷ streets) some below = let b = ltb-true x n (and_parts (nat_lt x n) (all_below n streets) below).0 in omega arith

-- what the rules of a Labels record say
record AreLabels (town : Town) (labels : List ℕ) : Type 0 where
  long : length labels ≡ length town.junctions
  some : 0 < length town.junctions
  breaks : (label : ℕ) → Contains labels label → IsBroken town labels label
  falls : (arc : ℕ) → is_legal town arc ≡ true → slice_index labels (head_of town arc) ≤ slice_index labels (tail_of town arc)

are_labels : (town : Town) (s : Standing) (labels streets : List ℕ) → is_none (broken_rule town s (Labels labels streets)) ≡ true → AreLabels town labels
are_labels town s labels streets sound =
    let kept = rules_kept (all_rules town s (Labels labels streets)) sound in
    let range = and_parts ((length labels == length town.junctions) && nat_lt 0 (length streets) && all_below (length streets) labels) (all_below (length town.streets) streets) (kept 2) in
    let more = and_parts ((length labels == length town.junctions) && nat_lt 0 (length streets)) (all_below (length streets) labels) range.0 in
    let first = and_parts (length labels == length town.junctions) (nat_lt 0 (length streets)) more.0 in
    let some : 0 < length town.streets = first_street (length town.streets) streets (ltb-true 0 (length streets) first.1) range.1 in
    let street = slice_get_inside town.streets 0 some in
    record {
      long = eqb-true (length labels) (length town.junctions) first.0;
      some = (let there = (sound_street town 0 street.0 street.1).from in omega arith);
      breaks = λ label inside. broken_by town labels label (slice_index streets label) (member_passes (λ l. breaks_label town labels l (slice_index streets l)) labels label (kept 4) inside);
      falls = λ arc legal. leb-true (slice_index labels (head_of town arc)) (slice_index labels (tail_of town arc)) (member_passes (λ a. nat_le (slice_index labels (head_of town a)) (slice_index labels (tail_of town a))) (legal_arcs town) arc (kept 3) (inside_legal town arc legal));
    }

-- a step of the tour on an arc of the demand
record IsDriven (town : Town) (steps : List Step) (demand : List ℕ) : Type 0 where
  step : Step
  inside : Contains steps step
  arc : Contains demand (arc_of step)
  legal : is_legal town (arc_of step) ≡ true

driven : (town : Town) (steps : List Step) (demand : List ℕ) → is_tour town steps ≡ true → Contains (demands town) demand → IsDriven town steps demand
driven town steps demand tour there =
    let a = served_arc steps demand (member_passes (serves steps) (demands town) demand (tour_serves town steps tour) there) in
    let m = step_from_counted steps a.0 a.2 in
    record {
      step = m.0;
      inside = m.1;
      arc = subst (Contains demand) (sym m.2) a.1;
      legal = member_passes (λ step. is_legal town (arc_of step)) steps m.0 (tour_legal town steps tour) m.1;
    }

-- a walk that stays at a label drives no demand that the label's street has for it
kept_apart : (town : Town) (labels : List ℕ) (label : ℕ) (steps : List Step) (broken : IsBroken town labels label) → is_tour town steps ≡ true → ((step : Step) → Contains steps step → (slice_index labels (tail_of town (arc_of step)) ≡ label) × (slice_index labels (head_of town (arc_of step)) ≡ label)) → ⊥
kept_apart town labels label steps broken tour stays =
    let d = driven town steps broken.demand tour broken.there in
    let arc = arc_of d.step in
    let ends = stays d.step d.inside in
    let test : not (is_legal town arc && keeps_label town labels label arc) ≡ true = member_passes (λ a. not (is_legal town a && keeps_label town labels label a)) broken.demand arc broken.apart d.arc in
    let keeps : keeps_label town labels label arc ≡ true = and_from (slice_index labels (tail_of town arc) == label) (slice_index labels (head_of town arc) == label) (eq-eqb (slice_index labels (tail_of town arc)) label ends.0) (eq-eqb (slice_index labels (head_of town arc)) label ends.1) in
    clash (is_legal town arc && keeps_label town labels label arc) (and_from (is_legal town arc) (keeps_label town labels label arc) d.legal keeps) test
  where
    clash : (b : Bool) → b ≡ true → not b ≡ true → ⊥
    clash true e h = false≢true h
    clash false e h = false≢true e

pub labels_exclude : (town : Town) (s : Standing) (labels streets : List ℕ) → is_none (broken_rule town s (Labels labels streets)) ≡ true → HasNoTour town
labels_exclude town s labels streets sound = λ steps tour. none steps tour (are_labels town s labels streets sound)
  where
    none : (steps : List Step) → is_tour town steps ≡ true → AreLabels town labels → ⊥
    none steps tour are =
        let one = are.breaks (slice_index labels 0) (member_at labels 0 (omega (arith, are.long, are.some))) in
        let used = driven town steps one.demand tour one.there in
        let keeps = keeps_number town (slice_index labels) are.falls steps (tour_closed town steps tour) in
        let below = tail_of-below town (arc_of used.step) (legal_below town (arc_of used.step) used.legal) in
        let there : Contains labels (slice_index labels keeps.0) = subst (Contains labels) (keeps.1 used.step used.inside).0 (member_at labels (tail_of town (arc_of used.step)) (omega (arith, are.long))) in
        kept_apart town labels (slice_index labels keeps.0) steps (are.breaks (slice_index labels keeps.0) there) tour keeps.1
