-- Arcs that leave a marked set, and whether they can be used.
use Rattle.std.specs.Prelude.{ℕ, Bool, ◌&&◌, ◌||◌, not, ◌==◌, List, slice_index}
use Rattle.wrp_town.specs.declared.town.Town.{Town}
use Rattle.wrp_town.specs.Arcs.{tail_of, head_of}
use Rattle.wrp_rows.specs.Marks.{is_marked}

-- the arc doesn't leave the set, or its greatest number of uses is 0
abbrev pub stays_at : Town → List Bool → List ℕ → ℕ → Bool
stays_at town marks hi arc =
    not (is_marked marks (tail_of town arc) && not (is_marked marks (head_of town arc)))
    || (slice_index hi arc == 0)
