use Rattle.std.proofs.Common.{◌≡◌, ◌⊎◌, ℕ, get_or, drop}
use Rattle.wrp_rules.specs.Rules.{number_at}
use Rattle.wrp_points.proofs.numbers.clear_numbers.Given as goal

-- each entry is 0, or what comes puts into it what it is
abbrev pub invariant-loop-pair : goal.invariant-loop-pair
invariant-loop-pair l =
    (arc : ℕ) → (get_or l.table arc 0 ≡ 0) ⊎ (get_or l.table arc 0 ≡ number_at (drop l.pair-index l.numbers) arc)
