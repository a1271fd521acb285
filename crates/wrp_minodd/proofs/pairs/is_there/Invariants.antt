use Rattle.std.proofs.Common.{◌≡◌, ◌<◌, ℕ, get_or}
use Rattle.wrp_rules.specs.declared.record.Record.{Record}
use Rattle.wrp_rules.specs.declared.record.Record.TheVariants.{Odd}
use Rattle.wrp_minodd.proofs.pairs.is_there.Given as goal

-- it isn't among those before
abbrev pub invariant-loop-item : goal.invariant-loop-item
invariant-loop-item l = (k : ℕ) (d : Record) → k < l.item-index → get_or l.records k d ≡ Odd l.set → ⊥
