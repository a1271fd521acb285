use Rattle.std.proofs.Common.{◌≡◌, ℕ, ◌<◌, false}
use Rattle.wrp_rules.specs.Rules.{breaks_label}
use Rattle.wrp_reach.proofs.reach.first_outside.Given as goal

-- no street so far has such a demand
abbrev pub invariant-loop-street : goal.invariant-loop-street
invariant-loop-street l = (k : ℕ) → k < l.street → breaks_label l.town l.labels l.label k ≡ false
