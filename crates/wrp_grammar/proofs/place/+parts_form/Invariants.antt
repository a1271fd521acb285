use Rattle.std.proofs.Common.{length}
use Rattle.wrp_grammar.proofs.place.+parts_form.Given as goal

abbrev pub decreases-parts_form : goal.decreases-parts_form
decreases-parts_form l = length l.numbers.now
