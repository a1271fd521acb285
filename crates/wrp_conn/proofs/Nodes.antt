-- Parts shrunk to nodes: sets of nodes, and the streets that begin at them.
use Rattle.std.proofs.Common.{◌≡◌, ℕ, zero, suc, ◌*◌, ◌/◌, ◌<◌, Bool, true, false, ◌&&◌, not, ◌==◌, List, [], ◌∷◌, length, get_or, slice_index, Option, Some, None, is_some, Contains, ap, refl, sym, ◌∙◌, subst, arith, eq-eqb}
use Rattle.std.specs.Option.{unwrap_or, option_to_list, option_map_or}
use Rattle.std.specs.List.{All, list_any, flat_map}
use Rattle.std.specs.Prelude.{slice_get}
use Rattle.std.proofs.lemmas.Bool.{and_from, false≢true}
use Rattle.std.proofs.lemmas.Option.{none-some, same_Some, slice_get_within}
use Rattle.std.proofs.lemmas.List.Elements.{Contains-get_or}
use Rattle.wrp_sums.proofs.FirstNumbers.{inside_numbers_below}
use Rattle.wrp_town.specs.declared.town.Town.{Town}
use Rattle.wrp_town.specs.declared.street.Street.{Street}
use Rattle.wrp_town.specs.Streets.{demands_at}
use Rattle.wrp_town.specs.Arcs.{tail_of, is_required}
use Rattle.wrp_town.proofs.Members.{inside_head, inside_tail, inside_cases, inside_none, any_from_member}
use Rattle.wrp_town.proofs.TownLaws.{tail_of-below, some_value}
use Rattle.wrp_parts.specs.RequiredParts.{AreParts, part_at, is_of_required}
use Rattle.wrp_webs.specs.TownWebs.{part_node, IsUncrossed}
use Rattle.wrp_webs.proofs.LegalSums.{range_numbers}
use Rattle.wrp_conn.specs.Shrunk.{street_at, ArePartStreets, named_by, AreNodes, AreInside, streets_in, IsAtNode}
use Rattle.wrp_conn.proofs.Streets.{part_has_street}
use Rattle.wrp_conn.proofs.Conns.{named_inside, parts_kept}

-- ---- the streets that are there, as a list

pub listed_some : (os : List (Option ℕ)) (r : ℕ) → Contains (flat_map option_to_list os) r → (part : ℕ) × (get_or os part None ≡ Some r)
listed_some [] r inside = absurd (inside_none r inside)
listed_some (None ∷ os) r inside = let rest = listed_some os r inside in (suc rest.0, rest.1)
listed_some (Some q ∷ os) r inside =
    inside_cases ((part : ℕ) × (get_or (Some q ∷ os) part None ≡ Some r)) q (flat_map option_to_list os) r inside (λ same. (zero, ap Some same)) (λ other. let rest = listed_some os r other in (suc rest.0, rest.1))

pub some_listed : (os : List (Option ℕ)) (part r : ℕ) → get_or os part None ≡ Some r → Contains (flat_map option_to_list os) r
some_listed [] part r has = absurd (none-some r has)
some_listed (None ∷ os) zero r has = absurd (none-some r has)
some_listed (None ∷ os) (suc part) r has = some_listed os part r has
some_listed (Some q ∷ os) zero r has = subst (λ (z : ℕ). Contains (q ∷ flat_map option_to_list os) z) (same_Some q r has) (inside_head q (flat_map option_to_list os))
some_listed (Some q ∷ os) (suc part) r has = inside_tail q (flat_map option_to_list os) r (some_listed os part r has)

-- a required street is there
pub required_there : (town : Town) (s : ℕ) → is_required town s ≡ true → s < length town.streets
required_there town s required = by (slice_get town.streets s) refl required
  where
    by : (o : Option Street) → slice_get town.streets s ≡ o → option_map_or (λ street. not (length (demands_at s street.need) == 0)) o false ≡ true → s < length town.streets
    by None none passes = absurd (false≢true passes)
    by (Some street) is passes = slice_get_within town.streets s street is

module _ (town : Town) (count : ℕ) (of streets : List (Option ℕ)) (parts : AreParts town count of) (all : ArePartStreets town count of (length town.streets) streets) where
  abbrev node_of : ℕ → ℕ
  node_of = part_node of (named_by town streets)

  node_at : (j part : ℕ) → part_at of j ≡ Some part → node_of j ≡ named_by town streets part
  node_at j part has = ap (λ (o : Option ℕ). option_map_or (named_by town streets) o j) has

  own_node : (j : ℕ) → part_at of j ≡ None → node_of j ≡ j
  own_node j none = ap (λ (o : Option ℕ). option_map_or (named_by town streets) o j) none

  node_below : (j : ℕ) → j < length town.junctions → node_of j < length town.junctions
  node_below j below = by (part_at of j) refl
    where
      by : (o : Option ℕ) → part_at of j ≡ o → node_of j < length town.junctions
      by None none = omega (arith, own_node j none)
      by (Some part) has = omega (arith, node_at j part has, (named_inside town count of streets parts all part j below has).0)

  -- a node stands for itself
  node_still : (j : ℕ) → j < length town.junctions → node_of (node_of j) ≡ node_of j
  node_still j below = by (part_at of j) refl
    where
      by : (o : Option ℕ) → part_at of j ≡ o → node_of (node_of j) ≡ node_of j
      by None none = ap node_of (own_node j none)
      by (Some part) has =
          ap node_of (node_at j part has) ∙ node_at (named_by town streets part) part (named_inside town count of streets parts all part j below has).1 ∙ sym (node_at j part has)

  module _ (nodes : List ℕ) (at_nodes : AreNodes town of streets nodes) where
    pub nodes_inside : AreInside town nodes
    nodes_inside = record { long = at_nodes.long; below = λ j below. omega (arith, at_nodes.is j below, node_below j below) }

    -- no required street crosses a set of nodes
    pub sets_uncrossed : (set : ℕ → Bool) → IsUncrossed town (λ j. set (slice_index nodes j))
    sets_uncrossed set = parts_kept town count of streets parts all (λ j. set (slice_index nodes j))
        (λ j below. ap set (at_nodes.is (node_of j) (node_below j below) ∙ node_still j below ∙ sym (at_nodes.is j below)))

    -- the streets of parts begin at nodes
    pub streets_at_nodes : All (IsAtNode town nodes) (streets_in streets)
    streets_at_nodes = λ k d below. by (get_or (streets_in streets) k d) (Contains-get_or (streets_in streets) k d below)
      where
        by : (r : ℕ) → Contains (streets_in streets) r → IsAtNode town nodes r
        by r inside =
            let found = listed_some streets r inside in
            let there : r < length town.streets = all.inside found.0 r found.1 in
            record {
              required = record { below = there; required = all.required found.0 r found.1 };
              still = at_nodes.is (tail_of town (2 * r)) (tail_of-below town (2 * r) (omega arith)) ∙ node_at (tail_of town (2 * r)) found.0 (all.parts found.0 r found.1)
                  ∙ ap (λ (o : Option ℕ). tail_of town (2 * unwrap_or o 0)) found.1;
            }

  -- a required street begins at a junction for whose part a street stands
  pub street_stands : (r : ℕ) → is_required town r ≡ true → (s : ℕ) × (Contains (streets_in streets) s) × (tail_of town (2 * s) ≡ node_of (tail_of town (2 * r)))
  street_stands r required =
      let j = tail_of town (2 * r) in
      let there : r < length town.streets = required_there town r required in
      let below : j < length town.junctions = tail_of-below town (2 * r) (omega arith) in
      let part = some_value (part_at of j) (has_part there below) in
      let street = some_value (street_at streets part.0) (part_has_street town count of parts streets all j part.0 below part.1) in
      (street.0, some_listed streets part.0 street.0 street.1, sym (node_at j part.0 part.1 ∙ ap (λ (o : Option ℕ). tail_of town (2 * unwrap_or o 0)) street.1))
    where
      half : (2 * r) / 2 ≡ r
      half = omega arith

      has_part : r < length town.streets → tail_of town (2 * r) < length town.junctions → is_some (part_at of (tail_of town (2 * r))) ≡ true
      has_part there below =
          parts.ended (tail_of town (2 * r)) below
          ∙ ap (list_any (λ a. is_of_required town a && (tail_of town a == tail_of town (2 * r)))) (range_numbers (2 * length town.streets))
          ∙ any_from_member (λ a. is_of_required town a && (tail_of town a == tail_of town (2 * r))) _ (2 * r) (inside_numbers_below (2 * length town.streets) (2 * r) (omega arith))
          (and_from (is_of_required town (2 * r)) (tail_of town (2 * r) == tail_of town (2 * r)) (ap (is_required town) half ∙ required) (eq-eqb (tail_of town (2 * r)) (tail_of town (2 * r)) refl))
