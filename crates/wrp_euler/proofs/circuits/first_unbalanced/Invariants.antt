use Rattle.std.proofs.Common.{◌≡◌, ℕ, ◌<◌}
use Rattle.wrp_graph.specs.Balances.{leaving, entering}
use Rattle.wrp_euler.proofs.circuits.first_unbalanced.Given as goal

abbrev pub invariant-loop-junction : goal.invariant-loop-junction
invariant-loop-junction l = (j : ℕ) → j < l.junction → leaving l.graph l.counts j ≡ entering l.graph l.counts j
