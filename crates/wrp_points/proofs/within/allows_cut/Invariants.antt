use Rattle.std.proofs.Common.{◌≡◌, ℕ, ◌<◌, true, length}
use Rattle.wrp_nodes.specs.Tables.{IsCutAbove}
use Rattle.wrp_points.specs.Boxes.{allows_at}
use Rattle.wrp_points.proofs.within.allows_cut.Given as goal

-- the way goes on from here, and what is left of it decides
abbrev pub invariant-loop-at : goal.invariant-loop-at
invariant-loop-at l = record {
  there : l.at < length l.nodes;
  further : (arc : ℕ) → IsCutAbove l.nodes arc l.at → IsCutAbove l.nodes arc l.node;
  decides : ((arc : ℕ) → IsCutAbove l.nodes arc l.at → allows_at l.boxes l.denominator l.table arc ≡ true)
      → (arc : ℕ) → IsCutAbove l.nodes arc l.node → allows_at l.boxes l.denominator l.table arc ≡ true;
}

abbrev pub decreases-loop-at : goal.decreases-loop-at
decreases-loop-at l = l.at
