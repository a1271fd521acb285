-- The relaxation over all rows and the box of a node, and what it shows of the node.
use Rattle.std.specs.Prelude.{ℕ, ⊤, List, length}
use Rattle.std.specs.List.{range_with_len}
use Rattle.wrp_town.specs.declared.town.Town.{Town}
use Rattle.wrp_rules.specs.Nodes.{Node, Standing}
use Rattle.wrp_laws.specs.Points.{IsPointOf}
use Rattle.wrp_rows.specs.declared.point.Bounds.{Bounds}
use Rattle.wrp_rows.specs.declared.point.Point.{Point}
use Rattle.wrp_rows.specs.Pools.{RowPool}
use Rattle.wrp_rows.specs.Points.{IsPoint}
use Rattle.wrp_simplex.specs.Steps.{after_steps}
use Rattle.wrp_lp.specs.declared.lp.Lp.{Lp}
use Rattle.wrp_lp.specs.declared.lp.Lp.TheVariants.{Optimal}
use Rattle.wrp_lp.specs.Answers.{relaxed, steps_of, IsRunWithin, EndsAt, Shows}
use Rattle.wrp_odd.specs.Points.{HasNumbers, denominator_of, numbers_of}

-- the numbers of all rows
abbrev pub all_rows : RowPool → List ℕ
all_rows pool = range_with_len 0 (length pool.rows)

-- an answer of the relaxation over all rows
pub record IsRelaxed (pool : RowPool) (bounds : Bounds) (pivots : ℕ) (lp : Lp) : Type 0 where
  pub run : IsRunWithin (relaxed pool (all_rows pool) bounds) pivots (steps_of lp)
  pub end : EndsAt (after_steps (relaxed pool (all_rows pool) bounds) (steps_of lp))
      (all_rows pool) pivots lp
  pub shows : Shows pool bounds lp

-- the point lies in the node's box and meets all rows that stand
pub record IsPointIn (town : Town) (s : Standing) (node : Node) (point : Point) : Type 0 where
  pub is : IsPoint town point
  pub numbers : HasNumbers point
  pub of_node : IsPointOf town s.rows node (denominator_of point) (numbers_of point)

-- what an answer shows of the node
abbrev pub ShowsNode : Town → Standing → Node → Lp → Type 0
ShowsNode town s node (Optimal point mult table taken) = IsPointIn town s node point
ShowsNode town s node lp = ⊤
