use Rattle.std.proofs.Common.{◌≡◌, ◌⊎◌, ◌<◌, ℕ, true, length}
use Rattle.wrp_pool.specs.Tallies.{IsTally, is_listed}
use Rattle.wrp_nodes.specs.Tables.{IsCutAbove}
use Rattle.wrp_check.proofs.value.list_cut.Given as goal

-- the arcs that are cut on the way to here are listed
abbrev pub invariant-loop-at : goal.invariant-loop-at
invariant-loop-at l = record {
  there : l.at < length l.nodes;
  is_tally : IsTally l.town l.tally;
  same : l.tally.numbers.items ≡ l.initial.tally.numbers.items;
  listed : (arc : ℕ) → IsCutAbove l.nodes arc l.node → (is_listed l.tally arc ≡ true) ⊎ IsCutAbove l.nodes arc l.at;
}

abbrev pub decreases-loop-at : goal.decreases-loop-at
decreases-loop-at l = l.at
