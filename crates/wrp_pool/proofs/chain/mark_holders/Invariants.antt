use Rattle.std.proofs.Common.{◌≡◌, length}
use Rattle.wrp_pool.specs.Chains.{MarkHolders}
use Rattle.wrp_pool.proofs.chain.mark_holders.Given as goal

-- the sets that hold one of the streets so far are marked
abbrev pub invariant-loop-street : goal.invariant-loop-street
invariant-loop-street l = record {
  long : length l.held ≡ length l.initial.held;
  marks : MarkHolders l.town l.of l.street l.held;
}
