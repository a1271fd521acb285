-- Parts have numbers below their count, and each has a required street that lies wholly in it.
use Rattle.std.proofs.Common.{◌≡◌, ℕ, zero, suc, ◌+◌, ◌*◌, ◌/◌, ◌<◌, ◌≤◌, true, ◌&&◌, ◌==◌, nat_le, max, List, [], ◌∷◌, length, get_or, Option, Some, None, Contains, ap, refl, sym, ◌∙◌, subst, inl, inr, ◌⊎◌, arith, eq-eqb, is_some}
use Rattle.std.specs.Option.{option_to_list}
use Rattle.std.specs.List.{flat_map}
use Rattle.std.proofs.lemmas.Bool.{and_from, and_parts, leb-true, eqb-true, cases_eq, cases_lt}
use Rattle.std.proofs.lemmas.Option.{none-some, same_Some}
use Rattle.std.proofs.lemmas.List.{get_or_past}
use Rattle.wrp_sums.proofs.FirstNumbers.{below_of_inside, inside_numbers_below}
use Rattle.wrp_graph.specs.Pieces.Joined.{here, along, against}
use Rattle.wrp_town.specs.declared.town.Town.{Town}
use Rattle.wrp_town.specs.Streets.{come_in_order}
use Rattle.wrp_town.specs.Arcs.{arcs, tail_of, head_of, is_required}
use Rattle.wrp_town.proofs.Members.{member_from_any, any_from_member}
use Rattle.wrp_town.proofs.TownLaws.{tail_of-below, head_of-below, some_value}
use Rattle.wrp_rules.proofs.TwoWays.{tail_on_street}
use Rattle.wrp_parts.specs.RequiredParts.{AreParts, part_at, is_of_required}
use Rattle.wrp_webs.proofs.LegalSums.{range_numbers}

-- parts that come in order are below the count, and those that weren't seen come
record AreOrdered (count seen : ℕ) (os : List (Option ℕ)) : Type 0 where
  most : seen ≤ count
  low : (j part : ℕ) → get_or os j None ≡ Some part → part < count
  each : (part : ℕ) → seen ≤ part → part < count → (j : ℕ) × (get_or os j None ≡ Some part)

first_or_past : (o : Option ℕ) (os : List (Option ℕ)) (P : ℕ → Type 0) → ((part : ℕ) → o ≡ Some part → P part) → ((j part : ℕ) → get_or os j None ≡ Some part → P part)
    → (j part : ℕ) → get_or (o ∷ os) j None ≡ Some part → P part
first_or_past o os P first past zero part has = first part has
first_or_past o os P first past (suc j) part has = past j part has

ordered : (count seen : ℕ) (os : List (Option ℕ)) → come_in_order count seen (flat_map option_to_list os) ≡ true → AreOrdered count seen os
ordered count seen [] is = record {
  most = omega (arith, eqb-true seen count is);
  low = λ j part has. absurd (none-some part has);
  each = λ part low below. absurd (omega (arith, eqb-true seen count is));
}
ordered count seen (None ∷ os) is =
    let rest = ordered count seen os is in
    record {
      most = rest.most;
      low = first_or_past None os (λ part. part < count) (λ part none. absurd (none-some part none)) rest.low;
      each = λ part low below. let there = rest.each part low below in (suc there.0, there.1);
    }
ordered count seen (Some q ∷ os) is =
    let two = and_parts (nat_le q seen) (come_in_order count (max seen (q + 1)) (flat_map option_to_list os)) is in
    let rest = ordered count (max seen (q + 1)) os two.1 in
    let old : q ≤ seen = leb-true q seen two.0 in
    record {
      most = omega (arith, rest.most);
      low = first_or_past (Some q) os (λ part. part < count) (λ part same. omega (arith, same_Some q part same, rest.most)) rest.low;
      each = λ part low below. elim (cases_eq q part) [
        | inl same ↦ (zero, ap Some same)
        | inr other ↦ (let there = rest.each part (omega arith) below in (suc there.0, there.1))
      ];
    }

-- a required street with both ends in a part
pub record IsWithin (town : Town) (of : List (Option ℕ)) (part street : ℕ) : Type 0 where
  pub below : street < length town.streets
  pub required : is_required town street ≡ true
  pub tail : part_at of (tail_of town (2 * street)) ≡ Some part
  pub head : part_at of (head_of town (2 * street)) ≡ Some part

module _ (town : Town) (count : ℕ) (of : List (Option ℕ)) (parts : AreParts town count of) where
  order : AreOrdered count 0 of
  order = ordered count 0 of parts.in_order

  pub part_low : (j part : ℕ) → part_at of j ≡ Some part → part < count
  part_low = order.low

  -- a junction with a part is there
  part_there : (j part : ℕ) → part_at of j ≡ Some part → j < length town.junctions
  part_there j part has = elim (cases_lt j (length of)) [
    | inl below ↦ omega (arith, parts.each)
    | inr past ↦ absurd (none-some part (sym (get_or_past of j None past) ∙ has))
  ]

  -- a required street with one end in a part lies wholly in it
  within : (part street : ℕ) → street < length town.streets → is_required town street ≡ true → (part_at of (tail_of town (2 * street)) ≡ Some part) ⊎ (part_at of (head_of town (2 * street)) ≡ Some part) → IsWithin town of part street
  within part street below required one = by one
    where
      arc_required : is_of_required town (2 * street) ≡ true
      arc_required = ap (is_required town) (omega arith) ∙ required

      by : (part_at of (tail_of town (2 * street)) ≡ Some part) ⊎ (part_at of (head_of town (2 * street)) ≡ Some part) → IsWithin town of part street
      by (inl has) = record {
        below = below;
        required = required;
        tail = has;
        head = (parts.same (tail_of town (2 * street)) (head_of town (2 * street)) part (tail_of-below town (2 * street) (omega arith)) (head_of-below town (2 * street) (omega arith)) has).1
            (along (2 * street) (head_of town (2 * street)) (omega arith) arc_required (here (head_of town (2 * street))));
      }
      by (inr has) = record {
        below = below;
        required = required;
        tail = (parts.same (head_of town (2 * street)) (tail_of town (2 * street)) part (head_of-below town (2 * street) (omega arith)) (tail_of-below town (2 * street) (omega arith)) has).1
            (against (2 * street) (tail_of town (2 * street)) (omega arith) arc_required (here (tail_of town (2 * street))));
        head = has;
      }

  -- each required street lies in a part
  pub required_within : (street : ℕ) → street < length town.streets → is_required town street ≡ true → (part : ℕ) × IsWithin town of part street
  required_within street below required =
      let j = tail_of town (2 * street) in
      let half : (2 * street) / 2 ≡ street = omega arith in
      let part = some_value (part_at of j)
      (parts.ended j (tail_of-below town (2 * street) (omega arith))
      ∙ any_from_member (λ a. is_of_required town a && (tail_of town a == j)) (arcs town) (2 * street)
      (subst (λ (xs : List ℕ). Contains xs (2 * street)) (sym (range_numbers (2 * length town.streets))) (inside_numbers_below (2 * length town.streets) (2 * street) (omega arith)))
      (and_from (is_of_required town (2 * street)) (j == j) (ap (is_required town) half ∙ required) (eq-eqb j j refl))) in
      (part.0, within part.0 street below required (inl part.1))

  -- in each part lies a required street
  pub street_within : (part : ℕ) → part < count → (street : ℕ) × IsWithin town of part street
  street_within part below =
      let at = order.each part (omega arith) below in
      let there = part_there at.0 part at.1 in
      let found = member_from_any (λ a. is_of_required town a && (tail_of town a == at.0)) (arcs town) (sym (parts.ended at.0 there) ∙ ap is_some at.1) in
      let tests = and_parts (is_of_required town found.0) (tail_of town found.0 == at.0) found.2 in
      let inside : found.0 < 2 * length town.streets = below_of_inside (2 * length town.streets) found.0 (subst (λ (xs : List ℕ). Contains xs found.0) (range_numbers (2 * length town.streets)) found.1) in
      let street_below : found.0 / 2 < length town.streets = omega arith in (
        found.0 / 2,
        tail_on_street (λ i. part_at of i ≡ Some part → IsWithin town of part (found.0 / 2)) town found.0
            (λ has. within part (found.0 / 2) street_below tests.0 (inl has))
            (λ has. within part (found.0 / 2) street_below tests.0 (inr has))
            (ap (part_at of) (eqb-true (tail_of town found.0) at.0 tests.1) ∙ at.1),
      )
