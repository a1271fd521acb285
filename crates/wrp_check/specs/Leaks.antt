-- Arcs that leave a set of junctions, and whether they can be used.
use Rattle.std.specs.Prelude.{ℕ, Bool, ◌||◌, ◌==◌, List}
use Rattle.std.specs.List.{list_all}
use Rattle.wrp_town.specs.declared.town.Town.{Town}
use Rattle.wrp_town.specs.Arcs.{head_of}
use Rattle.wrp_graph.specs.Stars.{out_of}
use Rattle.wrp_rules.specs.Sets.{is_in}
use Rattle.wrp_nodes.specs.declared.boxes.Boxes.{Boxes}
use Rattle.wrp_nodes.specs.Tables.{range_at}

-- the arc enters a junction of the set, or can't be used
abbrev pub stays_at : Town → List ℕ → Boxes → ℕ → Bool
stays_at town set boxes arc =
    is_in set (head_of town arc) || ((range_at boxes arc).hi == 0)

-- so do all arcs of the stars of these junctions
abbrev pub are_shut : Town → List ℕ → Boxes → List ℕ → Bool
are_shut town set boxes junctions =
    list_all (λ j. list_all (stays_at town set boxes) (out_of town j)) junctions
