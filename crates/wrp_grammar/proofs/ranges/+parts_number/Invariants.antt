use Rattle.std.proofs.Common.{length}
use Rattle.wrp_grammar.proofs.ranges.+parts_number.Given as goal

abbrev pub decreases-parts_number : goal.decreases-parts_number
decreases-parts_number l = length l.numbers.now
