use Rattle.std.proofs.Common.{◌≡◌, ◌-◌, true}
use Rattle.std.specs.List.{list_all, range_with_len}
use Rattle.wrp_pool.specs.Chains.{mark_of}
use Rattle.wrp_pool.proofs.chain.are_inner_marked.Given as goal

-- the sets so far are marked
abbrev pub invariant-loop-i : goal.invariant-loop-i
invariant-loop-i l = list_all (mark_of l.held) (range_with_len 1 (l.i - 1)) ≡ true
