use Rattle.std.proofs.Common.{◌≡◌, drop}
use Rattle.wrp_rules.specs.Ranges.{is_set}
use Rattle.wrp_writer.proofs.Ascending.{rises}
use Rattle.wrp_writer.proofs.limits.is_set.Given as goal

abbrev pub invariant-loop-number : goal.invariant-loop-number
invariant-loop-number l = rises l.low (drop l.number-index l.set) ≡ is_set l.set
