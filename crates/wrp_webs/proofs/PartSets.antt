-- Sets that no required street crosses are those that keep differ.
use Rattle.std.proofs.Common.{◌≡◌, ℕ, ◌*◌, ◌<◌, Bool, true, ◌&&◌, ◌==◌, List, length, Option, None, Some, is_some, ap, refl, sym, ◌∙◌, eq-eqb}
use Rattle.std.specs.Option.{option_map_or}
use Rattle.std.specs.List.{list_any}
use Rattle.std.proofs.lemmas.Bool.{and_from}
use Rattle.wrp_sums.proofs.FirstNumbers.{inside_numbers_below}
use Rattle.wrp_town.specs.declared.town.Town.{Town}
use Rattle.wrp_town.specs.Arcs.{tail_of, head_of}
use Rattle.wrp_town.proofs.TownLaws.{tail_of-below, head_of-below, some_value}
use Rattle.wrp_town.proofs.Members.{any_from_member}
use Rattle.wrp_graph.specs.Pieces.{Joined}
use Rattle.wrp_graph.specs.Pieces.Joined.{here, along}
use Rattle.wrp_graph.proofs.Joins.{joined_keeps}
use Rattle.wrp_parts.specs.RequiredParts.{is_of_required, part_at, AreParts}
use Rattle.wrp_webs.specs.TownWebs.{part_node, IsUncrossed}
use Rattle.wrp_webs.proofs.LegalSums.{range_numbers}

-- a set that no taken arc crosses holds both of two joined junctions or neither
pub joined_same : (town : Town) (taken : ℕ → Bool) (set : ℕ → Bool) → ((arc : ℕ) → arc < 2 * length town.streets → taken arc ≡ true → set (tail_of town arc) ≡ set (head_of town arc))
    → (i j : ℕ) → Joined town taken i j → set i ≡ set j
joined_same town taken set same i j joined =
    joined_keeps (λ k. set i ≡ set k) town taken (λ arc below takes e. e ∙ same arc below takes) (λ arc below takes e. e ∙ sym (same arc below takes)) i j joined refl

module _ (town : Town) (count : ℕ) (of : List (Option ℕ)) (is : AreParts town count of) (named : ℕ → ℕ)
    (first : (part j : ℕ) → j < length town.junctions → part_at of j ≡ Some part → (named part < length town.junctions) × (part_at of (named part) ≡ Some part)) where
  at_some : (j part : ℕ) → part_at of j ≡ Some part → part_node of named j ≡ named part
  at_some j part e = ap (λ (o : Option ℕ). option_map_or named o j) e

  -- a set that no required street crosses keeps differ
  pub uncrossed_keeps : (set : ℕ → Bool) → IsUncrossed town set → (j : ℕ) → j < length town.junctions → set (part_node of named j) ≡ set j
  uncrossed_keeps set uncrossed j below = by (part_at of j) refl
    where
      by : (o : Option ℕ) → part_at of j ≡ o → set (part_node of named j) ≡ set j
      by None e = ap (λ (o : Option ℕ). set (option_map_or named o j)) e
      by (Some part) e =
          ap set (at_some j part e)
          ∙ sym (joined_same town (is_of_required town) set uncrossed j (named part) ((is.same j (named part) part below (first part j below e).0 e).0 (first part j below e).1))

  -- a set that keeps differ is crossed by no required street
  pub keeps_uncrossed : (set : ℕ → Bool) → ((j : ℕ) → j < length town.junctions → set (part_node of named j) ≡ set j) → IsUncrossed town set
  keeps_uncrossed set keeps arc below required = by (some_value (part_at of (tail_of town arc)) has_part)
    where
      has_part : is_some (part_at of (tail_of town arc)) ≡ true
      has_part =
          is.ended (tail_of town arc) (tail_of-below town arc below)
          ∙ ap (list_any (λ a. is_of_required town a && (tail_of town a == tail_of town arc))) (range_numbers (2 * length town.streets))
          ∙ any_from_member (λ a. is_of_required town a && (tail_of town a == tail_of town arc)) _ arc (inside_numbers_below (2 * length town.streets) arc below)
          (and_from (is_of_required town arc) (tail_of town arc == tail_of town arc) required (eq-eqb (tail_of town arc) (tail_of town arc) refl))

      by : (part : ℕ) × (part_at of (tail_of town arc) ≡ Some part) → set (tail_of town arc) ≡ set (head_of town arc)
      by (part, e) =
          let other : part_at of (head_of town arc) ≡ Some part =
          (is.same (tail_of town arc) (head_of town arc) part (tail_of-below town arc below) (head_of-below town arc below) e).1
          (along arc (head_of town arc) below required (here (head_of town arc))) in
          sym (keeps (tail_of town arc) (tail_of-below town arc below))
          ∙ ap set (at_some (tail_of town arc) part e ∙ sym (at_some (head_of town arc) part other))
          ∙ keeps (head_of town arc) (head_of-below town arc below)
