-- The labels of the components are a valid Labels record where no component holds every demand.
use Rattle.std.proofs.Common.{◌≡◌, ℕ, ◌*◌, ◌^◌, ◌<◌, ◌≤◌, Bool, true, ◌&&◌, ◌==◌, nat_lt, nat_le, List, [], ◌∷◌, length, replicate, is_none, refl, sym, ap, ◌∙◌, subst, inl, inr, arith, eq-eqb}
use Rattle.std.specs.Prelude.{slice_index, slice_set}
use Rattle.std.specs.List.{list_all}
use Rattle.std.proofs.lemmas.Bool.{cases_eq, and_from}
use Rattle.std.proofs.lemmas.Bool.Decides.{nat_tests}
use Rattle.std.proofs.lemmas.List.{get_or-set_same, get_or-set_other, get_or-replicate, length-set, length-replicate, get_or_default}
use Rattle.wrp_town.specs.declared.town.Town.{Town}
use Rattle.wrp_town.specs.Arcs.{is_legal, tail_of, head_of, legal_arcs, is_required, arcs}
use Rattle.wrp_town.proofs.TownLaws.{few_junctions, few_streets}
use Rattle.std.proofs.lemmas.List.Elements.{All-contains, All-from_get_or, filter_passes}
use Rattle.wrp_town.proofs.Members.{all_from_members}
use Rattle.wrp_rules.specs.declared.record.Record.{Record}
use Rattle.wrp_rules.specs.declared.record.Record.TheVariants.{Labels}
use Rattle.wrp_rules.specs.declared.rule.Rule.TheVariants as rules
use Rattle.wrp_rules.specs.Nodes.{start}
use Rattle.wrp_rules.specs.Ranges.{is_index}
use Rattle.wrp_rules.specs.Contents.{has_number_rules}
use Rattle.wrp_rules.specs.Rules.{all_below, falls_along, breaks_label, broken_rule, first_broken, streets_are_there}
use Rattle.wrp_writer.specs.Limits.{is_writable}
use Rattle.wrp_writer.proofs.ShortLines.{labels_writable}
use Rattle.wrp_laws.proofs.Labels.{labels_exclude}
use Rattle.wrp_reach.specs.Components.{AreComponents}
use Rattle.wrp_reach.specs.Answers.{IsSplit}
use Rattle.wrp_reach.specs.Outside.{HasOutside}
use Rattle.wrp_reach.proofs.Demands.{breaks_others, required_there}

-- no rule is broken where each is kept
none_broken : (number range rise label : Bool) → number ≡ true → range ≡ true → rise ≡ true → label ≡ true → is_none (first_broken ((rules.Number, number) ∷ (rules.Lonely, true) ∷ (rules.Range, range) ∷ (rules.Rise, rise) ∷ (rules.Label, label) ∷ [])) ≡ true
none_broken number range rise label a b c d =
    subst (λ (t : Bool). is_none (first_broken ((rules.Number, t) ∷ (rules.Lonely, true) ∷ (rules.Range, range) ∷ (rules.Rise, rise) ∷ (rules.Label, label) ∷ [])) ≡ true) (sym a)
    (subst (λ (t : Bool). is_none (first_broken ((rules.Range, t) ∷ (rules.Rise, rise) ∷ (rules.Label, label) ∷ [])) ≡ true) (sym b)
    (subst (λ (t : Bool). is_none (first_broken ((rules.Rise, t) ∷ (rules.Label, label) ∷ [])) ≡ true) (sym c) (subst (λ (t : Bool). is_none (first_broken ((rules.Label, t) ∷ [])) ≡ true) (sym d) refl)))

lt_test : (a b : ℕ) → a < b → nat_lt a b ≡ true
lt_test a b less = grind (arith, nat_tests)

le_test : (a b : ℕ) → a ≤ b → nat_le a b ≡ true
le_test a b less = grind (arith, nat_tests)

-- each item, by its place
all_at : (p : ℕ → Bool) (xs : List ℕ) → ((k : ℕ) → k < length xs → p (slice_index xs k) ≡ true) → list_all p xs ≡ true
all_at p xs each = all_from_members p xs (λ x has. subst (λ z. p z ≡ true) (get_or_default xs has.0 0 x has.1 ∙ has.2) (each has.0 has.1))

module _ (town : Town) (count : ℕ) (labels : List ℕ) (are : AreComponents town count labels) (base street : ℕ) (required : is_required town base ≡ true) (home : ℕ) (home_is : home ≡ slice_index labels (tail_of town (2 * base))) (small : home < count) (outside : HasOutside town labels home street) where
  -- the street of each label
  abbrev streets : List ℕ
  streets = slice_set (replicate count base) home street

  street_home : slice_index streets home ≡ street
  street_home = get_or-set_same (replicate count base) home street 0 (omega (arith, length-replicate count base))

  street_other : (label : ℕ) → label < count → (label ≡ home → ⊥) → slice_index streets label ≡ base
  street_other label below differs = get_or-set_other (replicate count base) home label street 0 differs ∙ get_or-replicate count label base 0 below

  long : length streets ≡ count
  long = length-set (replicate count base) home street ∙ length-replicate count base

  -- the street of each label is there, and breaks it
  each_there : (label : ℕ) → label < count → slice_index streets label < length town.streets
  each_there label below = elim (cases_eq label home) [
    | inl same ↦ omega (arith, outside.0, street_home, ap (λ (i : ℕ). slice_index streets i) same)
    | inr differs ↦ omega (arith, required_there town base required, street_other label below differs)
  ]

  each_breaks : (label : ℕ) → label < count → breaks_label town labels label (slice_index streets label) ≡ true
  each_breaks label below = elim (cases_eq label home) [
    | inl same ↦ ap (λ (l : ℕ). breaks_label town labels l (slice_index streets l)) same ∙ ap (breaks_label town labels home) street_home ∙ outside.1
    | inr differs ↦ ap (breaks_label town labels label) (street_other label below differs) ∙ breaks_others town labels base label required (λ is. differs (is ∙ sym home_is))
  ]

  label_below : (j : ℕ) → j < length labels → slice_index labels j < count
  label_below j within = are.below j (omega (arith, are.each))

  number_kept : has_number_rules (Labels labels streets) ≡ true
  number_kept =
      and_from (list_all is_index labels) (list_all is_index streets)
      (all_at is_index labels (λ j within. lt_test (slice_index labels j) (2 ^ 32) (omega (arith, label_below j within, are.few, few_junctions town))))
      (all_at is_index streets (λ k within. lt_test (slice_index streets k) (2 ^ 32) (omega (arith, each_there k (omega (arith, long)), few_streets town))))

  range_kept : ((length labels == length town.junctions) && nat_lt 0 (length streets) && all_below (length streets) labels && streets_are_there town streets) ≡ true
  range_kept =
      and_from _ _
      (and_from _ _
      (and_from (length labels == length town.junctions) (nat_lt 0 (length streets)) (eq-eqb (length labels) (length town.junctions) are.each) (lt_test 0 (length streets) (omega (arith, long))))
      (all_at (λ x. nat_lt x (length streets)) labels (λ j within. lt_test (slice_index labels j) (length streets) (omega (arith, label_below j within, long)))))
      (all_at (λ x. nat_lt x (length town.streets)) streets (λ k within. lt_test (slice_index streets k) (length town.streets) (each_there k (omega (arith, long)))))

  rise_kept : list_all (falls_along town labels) (legal_arcs town) ≡ true
  rise_kept = all_from_members (falls_along town labels) (legal_arcs town) (λ arc has. le_test (slice_index labels (head_of town arc)) (slice_index labels (tail_of town arc)) (are.falls arc (All-contains (λ a. is_legal town a ≡ true) (legal_arcs town) arc (filter_passes (is_legal town) (arcs town)) has)))

  label_kept : list_all (λ label. breaks_label town labels label (slice_index streets label)) labels ≡ true
  label_kept = all_at (λ label. breaks_label town labels label (slice_index streets label)) labels (λ j within. each_breaks (slice_index labels j) (label_below j within))

  sound : is_none (broken_rule town (start town) (Labels labels streets)) ≡ true
  sound =
      none_broken (has_number_rules (Labels labels streets)) ((length labels == length town.junctions) && nat_lt 0 (length streets) && all_below (length streets) labels && streets_are_there town streets)
      (list_all (falls_along town labels) (legal_arcs town)) (list_all (λ label. breaks_label town labels label (slice_index streets label)) labels) number_kept range_kept rise_kept label_kept

  few_labels : length labels ≤ 4000
  few_labels = omega (arith, are.each, few_junctions town)

  few_streets_named : length streets ≤ 4000
  few_streets_named = omega (arith, long, are.few, few_junctions town)

  short : is_writable (Labels labels streets) ≡ true
  short =
      labels_writable labels streets
      (All-from_get_or (λ n. n < 10 ^ 4) labels 0 (λ j within. omega (arith, label_below j within, are.few, few_junctions town)))
      (All-from_get_or (λ n. n < 10 ^ 4) streets 0 (λ k within. omega (arith, each_there k (omega (arith, long)), few_streets town)))
      few_labels few_streets_named

  pub split_by : (item : Record) → item ≡ Labels labels streets → IsSplit town item
  split_by item is = subst (IsSplit town) (sym is) (record {
    labels = refl;
    writable = short;
    valid = and_from _ _ sound refl;
    no_tour = labels_exclude town (start town) labels streets sound;
  })
