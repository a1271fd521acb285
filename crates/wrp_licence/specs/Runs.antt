-- The run of a node at a list: its relaxation is over all rows of the list and within its box.
use Rattle.std.specs.Prelude.{ℕ, List, map, length}
use Rattle.std.specs.List.{range_with_len}
use Rattle.wrp_town.specs.declared.town.Town.{Town}
use Rattle.wrp_rules.specs.Nodes.{Standing, node_at}
use Rattle.wrp_rows.specs.Pools.{SparseRow, sparse_of}
use Rattle.wrp_tableau.specs.Systems.{System}
use Rattle.wrp_simplex.specs.declared.end.RunEnd.{RunEnd}
use Rattle.wrp_simplex.specs.Steps.{after_steps}
use Rattle.wrp_simplex.specs.Ends.{IsWholeRun}
use Rattle.wrp_lp.specs.Relaxed.{relaxation}
use Rattle.wrp_lp.specs.Answers.{IsRunWithin}

-- the rows of what stands, as they are kept, and their numbers
abbrev pub kept_rows : Town → Standing → List SparseRow
kept_rows town s = map (sparse_of town) s.rows

abbrev pub row_numbers : Standing → List ℕ
row_numbers s = range_with_len 0 (length s.rows)

-- the system that the relaxation of a node starts from
unfoldable pub start_at : Town → Standing → ℕ → System
start_at town s node =
    relaxation town (kept_rows town s) (row_numbers s) (node_at town s node).lo
    (node_at town s node).hi

-- the most pivots of a relaxation of the search
abbrev pub most_pivots : ℕ
most_pivots = 20000

-- these steps are a run of the node, of at most so many pivots
abbrev pub IsRunAt : Town → Standing → ℕ → List (ℕ × ℕ) → Type 0
IsRunAt town s node steps = IsRunWithin (start_at town s node) most_pivots steps

-- the system that they lead to
abbrev pub end_at : Town → Standing → ℕ → List (ℕ × ℕ) → System
end_at town s node steps = after_steps (start_at town s node) steps

-- and they end so
abbrev pub IsEndedRun : Town → Standing → ℕ → List (ℕ × ℕ) → RunEnd → Type 0
IsEndedRun town s node steps end = IsWholeRun (start_at town s node) most_pivots steps end
