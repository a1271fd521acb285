use Rattle.std.proofs.Common.{◌≡◌, ℕ, ◌<◌, pos}
use Rattle.wrp_town.specs.Arcs.{tail_of, head_of}
use Rattle.wrp_points.specs.Balances.{surplus_at, arc_at}
use Rattle.wrp_points.proofs.balance.are_even.Given as goal

-- the arcs so far have ends without surplus
abbrev pub invariant-loop-pair : goal.invariant-loop-pair
invariant-loop-pair l =
    (i : ℕ) → i < l.pair-index
    → (surplus_at l.surplus (tail_of l.town (arc_at l.numbers i)) ≡ pos 0)
    × (surplus_at l.surplus (head_of l.town (arc_at l.numbers i)) ≡ pos 0)
