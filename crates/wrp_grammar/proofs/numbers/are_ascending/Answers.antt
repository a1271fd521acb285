use Rattle.wrp_grammar.specs.Parts.{parts_of}
use Rattle.wrp_grammar.proofs.SetLists.{rise-start}
use Rattle.wrp_grammar.proofs.numbers.are_ascending.Goals as goal

pub loop-part-init : goal.loop-part-init
loop-part-init c = rise-start (parts_of c.args.line.now)
