-- The parts of a town: the pieces into which its required streets join the junctions.
use Rattle.std.specs.Prelude.{◌≡◌, ℕ, ◌<◌, ◌/◌, Bool, true, ◌&&◌, ◌==◌, ◌↔◌, List, length, slice_index_or, Option, None, Some, is_some}
use Rattle.std.specs.Option.{option_to_list}
use Rattle.std.specs.List.{list_any, flat_map}
use Rattle.wrp_town.specs.declared.town.Town.{Town}
use Rattle.wrp_town.specs.Streets.{come_in_order}
use Rattle.wrp_town.specs.Arcs.{arcs, tail_of, is_required}
use Rattle.wrp_graph.specs.Pieces.{Joined}

-- the arc is one of a required street, whether it is legal or not
abbrev pub is_of_required : Town → ℕ → Bool
is_of_required town arc = is_required town (arc / 2)

-- a required street ends at the junction: each street has an arc from each of its ends
abbrev pub ends_required : Town → ℕ → Bool
ends_required town j =
    list_any (λ arc. is_of_required town arc && (tail_of town arc == j)) (arcs town)

-- the part of a junction
abbrev pub part_at : List (Option ℕ) → ℕ → Option ℕ
part_at of j = slice_index_or of j None

-- a part for each junction where a required street ends, the same exactly where required streets
-- join two junctions
pub record AreParts (town : Town) (count : ℕ) (of : List (Option ℕ)) : Type 0 where
  pub each : length of ≡ length town.junctions
  pub ended : (j : ℕ) → j < length town.junctions → is_some (part_at of j) ≡ ends_required town j
  pub same : (i j part : ℕ) → i < length town.junctions → j < length town.junctions
      → part_at of i ≡ Some part
      → (part_at of j ≡ Some part) ↔ Joined town (is_of_required town) i j
  -- as the junctions come, each part is one that was there before or the next, from 0 to the last
  pub in_order : come_in_order count 0 (flat_map option_to_list of) ≡ true
