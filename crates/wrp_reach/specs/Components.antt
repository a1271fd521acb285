-- Labels of the junctions by their components, so that no arc leads to a higher label.
use Rattle.std.specs.Prelude.{◌≡◌, ℕ, ◌<◌, ◌≤◌, true, List, length, slice_index}
use Rattle.wrp_town.specs.declared.town.Town.{Town}
use Rattle.wrp_town.specs.Arcs.{is_legal, tail_of, head_of}
use Rattle.wrp_reach.specs.declared.search.Mark.{Mark}
use Rattle.wrp_reach.specs.declared.search.Mark.TheVariants.{Done}
use Rattle.wrp_reach.specs.Reaching.{Reaches}

-- the label of a junction that is done
abbrev pub label_of : Mark → ℕ
label_of (Done label) = label
label_of mark = 0

-- a label below the count for each junction: no legal arc leads to a higher one, and junctions of
-- one label reach each other
pub record AreComponents (town : Town) (count : ℕ) (labels : List ℕ) : Type 0 where
  pub each : length labels ≡ length town.junctions
  pub few : count ≤ length town.junctions
  pub below : (j : ℕ) → j < length town.junctions → slice_index labels j < count
  pub falls : (arc : ℕ) → is_legal town arc ≡ true
      → slice_index labels (head_of town arc) ≤ slice_index labels (tail_of town arc)
  pub strong : (i j : ℕ) → i < length town.junctions → j < length town.junctions
      → slice_index labels i ≡ slice_index labels j → Reaches town i j
