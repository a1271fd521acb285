-- Counts of the traversals of arcs, and how often they leave and enter each junction.
use Rattle.std.specs.Prelude.{◌≡◌, ℕ, ◌<◌, List, length, slice_index}
use Rattle.std.specs.List.{sum_by}
use Rattle.wrp_town.specs.declared.town.Town.{Town}
use Rattle.wrp_graph.specs.Stars.{out_of, into}

-- how many traversals leave a junction, and how many enter it
abbrev pub leaving : Town → List ℕ → ℕ → ℕ
leaving town counts j = sum_by (slice_index counts) (out_of town j)

abbrev pub entering : Town → List ℕ → ℕ → ℕ
entering town counts j = sum_by (slice_index counts) (into town j)

-- every junction is left as often as it is entered
abbrev pub AreBalanced : Town → List ℕ → Type 0
AreBalanced town counts =
    (j : ℕ) → j < length town.junctions → leaving town counts j ≡ entering town counts j
