-- Parts have numbers below their count, and each has a required street.
use Rattle.std.proofs.Common.{◌≡◌, ℕ, zero, suc, ◌+◌, ◌*◌, ◌/◌, ◌<◌, ◌≤◌, true, false, ◌&&◌, ◌==◌, nat_le, max, List, [], ◌∷◌, length, get_or, set, replicate, ap, refl, sym, ◌∙◌, subst, inl, inr, arith, Option, Some, None, is_some}
use Rattle.std.specs.List.{flat_map}
use Rattle.std.specs.Option.{option_to_list}
use Rattle.std.proofs.lemmas.Bool.{cases_eq, cases_lt, and_parts, eqb-true}
use Rattle.std.proofs.lemmas.Option.{none-some, same_Some}
use Rattle.wrp_town.specs.Streets.{come_in_order}
use Rattle.wrp_town.specs.declared.town.Town.{Town}
use Rattle.std.specs.Prelude.{IsSome}
use Rattle.std.specs.List.{Contains}
use Rattle.std.proofs.lemmas.List.{get_or-set_same, get_or-set_other, length-set, length-replicate, get_or-replicate, get_or_past}
use Rattle.wrp_sums.proofs.FirstNumbers.{below_of_inside}
use Rattle.wrp_town.proofs.Members.{member_from_any}
use Rattle.wrp_town.proofs.TownLaws.{tail_of-below, head_of-below}
use Rattle.wrp_graph.specs.Pieces.Joined.{here, against}
use Rattle.wrp_rules.proofs.TwoWays.{tail_on_street}
use Rattle.wrp_webs.proofs.LegalSums.{range_numbers}
use Rattle.wrp_town.specs.Arcs.{arcs, tail_of, head_of, is_required}
use Rattle.wrp_parts.specs.RequiredParts.{AreParts, part_at, is_of_required}
use Rattle.wrp_conn.specs.Shrunk.{street_at, ArePartStreets}

order_most : (count seen : ℕ) (xs : List ℕ) → come_in_order count seen xs ≡ true → seen ≤ count
order_most count seen [] is = omega (arith, eqb-true seen count is)
order_most count seen (x ∷ xs) is = omega (arith, order_most count (max seen (x + 1)) xs (and_parts (nat_le x seen) (come_in_order count (max seen (x + 1)) xs) is).1)

order_below : (count seen : ℕ) (os : List (Option ℕ)) (j p : ℕ) → come_in_order count seen (flat_map option_to_list os) ≡ true → get_or os j None ≡ Some p → p < count
order_below count seen [] j p is has = absurd (none-some p has)
order_below count seen (None ∷ os) zero p is has = absurd (none-some p has)
order_below count seen (None ∷ os) (suc j) p is has = order_below count seen os j p is has
order_below count seen (Some q ∷ os) zero p is has =
    omega (arith, same_Some q p has, order_most count (max seen (q + 1)) (flat_map option_to_list os) (and_parts (nat_le q seen) (come_in_order count (max seen (q + 1)) (flat_map option_to_list os)) is).1)
order_below count seen (Some q ∷ os) (suc j) p is has =
    order_below count (max seen (q + 1)) os j p (and_parts (nat_le q seen) (come_in_order count (max seen (q + 1)) (flat_map option_to_list os)) is).1 has

pub part_below : (town : Town) (count : ℕ) (of : List (Option ℕ)) → AreParts town count of → (j part : ℕ) → part_at of j ≡ Some part → part < count
part_below town count of is j part has = order_below count 0 of j part is.in_order has

module _ (town : Town) (count : ℕ) (of : List (Option ℕ)) (street part : ℕ) (streets : List (Option ℕ)) (parts : AreParts town count of) (there : street < length town.streets)
    (required : is_required town street ≡ true) (has : part_at of (tail_of town (2 * street)) ≡ Some part) (none : street_at streets part ≡ None) (before : ArePartStreets town count of street streets) where
  abbrev chosen : List (Option ℕ)
  chosen = set streets part (Some street)

  below : part < length streets
  below = omega (arith, before.long, part_below town count of parts (tail_of town (2 * street)) part has)

  by_street : (p s : ℕ) (P : Type 0) → street_at chosen p ≡ Some s → (p ≡ part → s ≡ street → P) → (street_at streets p ≡ Some s → P) → P
  by_street p s P is fresh old = elim (cases_eq p part) [
    | inl same ↦ fresh same (same_Some s street (sym is ∙ ap (street_at chosen) same ∙ get_or-set_same streets part (Some street) None below))
    | inr differs ↦ old (sym (get_or-set_other streets part p (Some street) None differs) ∙ is)
  ]

  still : (p : ℕ) → IsSome (street_at streets p) → IsSome (street_at chosen p)
  still p some = elim (cases_eq p part) [
    | inl same ↦ subst (λ (k : ℕ). IsSome (street_at chosen k)) (sym same) (subst IsSome (sym (get_or-set_same streets part (Some street) None below)) refl)
    | inr differs ↦ subst IsSome (sym (get_or-set_other streets part p (Some street) None differs)) some
  ]

  pub street_chosen : ArePartStreets town count of (street + 1) chosen
  street_chosen = record {
    long = length-set streets part (Some street) ∙ before.long;
    inside = λ p s is. by_street p s (s < length town.streets) is (λ same this. omega (arith, this, there)) (before.inside p s);
    required = λ p s is. by_street p s (is_required town s ≡ true) is (λ same this. ap (is_required town) this ∙ required) (before.required p s);
    parts = λ p s is. by_street p s (part_at of (tail_of town (2 * s)) ≡ Some p) is (λ same this. ap (λ (k : ℕ). part_at of (tail_of town (2 * k))) this ∙ has ∙ ap Some (sym same)) (before.parts p s);
    some = λ s p less needs at. elim (cases_eq s street) [
      | inl this ↦ (
          let same : p ≡ part = same_Some p part (sym at ∙ ap (λ (k : ℕ). part_at of (tail_of town (2 * k))) this ∙ has) in
          subst (λ (k : ℕ). IsSome (street_at chosen k)) (sym same) (subst IsSome (sym (get_or-set_same streets part (Some street) None below)) refl)
          )
      | inr other ↦ still p (before.some s p (omega arith) needs at)
    ];
  }

pub none_of : (o : Option ℕ) → is_some o ≡ false → o ≡ None
none_of None e = refl
none_of (Some k) e = cc e

pub no_streets : (town : Town) (count : ℕ) (of streets : List (Option ℕ)) → streets ≡ replicate count None → ArePartStreets town count of 0 streets
no_streets town count of streets made = record {
  long = ap length made ∙ length-replicate count None;
  inside = λ p s is. absurd (none-some s (sym (none p) ∙ is));
  required = λ p s is. absurd (none-some s (sym (none p) ∙ is));
  parts = λ p s is. absurd (none-some s (sym (none p) ∙ is));
  some = λ s p less. absurd (omega arith);
}
  where
    none : (p : ℕ) → street_at streets p ≡ None
    none p = ap (λ (xs : List (Option ℕ)). get_or xs p None) made ∙ elim (cases_lt p count) [
      | inl inside ↦ get_or-replicate count p None None inside
      | inr past ↦ get_or_past (replicate count None) p None (omega (arith, length-replicate {A = Option ℕ} count None))
    ]

module _ (town : Town) (count : ℕ) (of : List (Option ℕ)) (parts : AreParts town count of) where
  -- both ends of a required street have its part
  tail_part : (s part j : ℕ) → s < length town.streets → is_required town s ≡ true → (a : ℕ) → a / 2 ≡ s → tail_of town a ≡ j → part_at of j ≡ Some part → part_at of (tail_of town (2 * s)) ≡ Some part
  tail_part s part j inside required a half begins has =
      subst (λ (k : ℕ). part_at of (tail_of town (2 * k)) ≡ Some part) half
      (tail_on_street (λ i. part_at of i ≡ Some part → part_at of (tail_of town (2 * (a / 2))) ≡ Some part) town a
      (λ same. same)
      (λ at_head. (parts.same (head_of town (2 * (a / 2))) (tail_of town (2 * (a / 2))) part (head_of-below town (2 * (a / 2)) (omega arith)) (tail_of-below town (2 * (a / 2)) (omega arith)) at_head).1
      (against (2 * (a / 2)) (tail_of town (2 * (a / 2))) (omega arith) (ap (is_required town) (omega arith) ∙ required) (here (tail_of town (2 * (a / 2))))))
      (ap (part_at of) begins ∙ has))

  pub part_has_street : (streets : List (Option ℕ)) → ArePartStreets town count of (length town.streets) streets → (j part : ℕ) → j < length town.junctions → part_at of j ≡ Some part → IsSome (street_at streets part)
  part_has_street streets all j part below has =
      let ends = sym (parts.ended j below) ∙ ap is_some has in
      let found = member_from_any (λ a. is_of_required town a && (tail_of town a == j)) (arcs town) ends in
      let tests = and_parts (is_of_required town found.0) (tail_of town found.0 == j) found.2 in
      let inside : found.0 < 2 * length town.streets = below_of_inside (2 * length town.streets) found.0 (subst (λ (xs : List ℕ). Contains xs found.0) (range_numbers (2 * length town.streets)) found.1) in
      all.some (found.0 / 2) part (omega arith) tests.0 (tail_part (found.0 / 2) part j (omega arith) tests.0 found.0 refl (eqb-true (tail_of town found.0) j tests.1) has)
