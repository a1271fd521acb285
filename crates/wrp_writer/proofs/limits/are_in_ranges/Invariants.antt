use Rattle.std.proofs.Common.{◌≡◌, drop}
use Rattle.wrp_rules.specs.Ranges.{are_in_ranges}
use Rattle.wrp_writer.proofs.limits.are_in_ranges.Given as goal

abbrev pub invariant-loop-at : goal.invariant-loop-at
invariant-loop-at l = are_in_ranges (drop l.at l.ranges) (drop l.at l.numbers) ≡ are_in_ranges l.ranges l.numbers
