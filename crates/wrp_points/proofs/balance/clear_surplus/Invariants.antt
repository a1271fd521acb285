use Rattle.std.proofs.Common.{◌≡◌, ◌⊎◌, ℕ, true, pos, drop}
use Rattle.std.specs.List.{list_any}
use Rattle.wrp_points.specs.Balances.{surplus_at}
use Rattle.wrp_points.proofs.Surplus.{touches}
use Rattle.wrp_points.proofs.balance.clear_surplus.Given as goal

-- each junction has no surplus, or an arc that comes has an end there
abbrev pub invariant-loop-pair : goal.invariant-loop-pair
invariant-loop-pair l =
    (j : ℕ) → (surplus_at l.surplus j ≡ pos 0) ⊎ (list_any (touches l.town j) (drop l.pair-index l.numbers) ≡ true)
