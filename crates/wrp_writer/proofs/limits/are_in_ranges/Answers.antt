use Rattle.std.proofs.Common.{sym}
use Rattle.wrp_writer.proofs.Unmatched.{unmatched}
use Rattle.wrp_writer.proofs.limits.are_in_ranges.Goals as goal

pub returns-then-ranges-numbers : goal.returns-then-ranges-numbers
returns-then-ranges-numbers c = sym (unmatched c.args.ranges.now c.args.numbers.now c.if-ranges-numbers.true)
