use Rattle.std.proofs.Common.{◌≡◌, ℕ, ◌+◌, ◌<◌, length}
use Rattle.wrp_rows.specs.Marks.{is_marked}
use Rattle.wrp_rows.specs.Chains.{holds_within}
use Rattle.wrp_rows.proofs.chain.mark_held.Given as goal

-- the sets that hold one of the streets so far are marked
abbrev pub invariant-loop-street : goal.invariant-loop-street
invariant-loop-street l =
    (i : ℕ) → i < length l.held → is_marked l.held i ≡ holds_within l.town l.of (i + 1) l.street
