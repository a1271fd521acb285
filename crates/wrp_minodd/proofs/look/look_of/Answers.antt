use Rattle.std.proofs.Common.{sym, ◌∙◌, arith}
use Rattle.std.proofs.lemmas.Bool.{eqb-true}
use Rattle.wrp_minodd.proofs.Looking.{shows_far, shows_split}
use Rattle.wrp_minodd.proofs.look.look_of.Goals as goal

pub returns-in-None : goal.returns-in-None
returns-in-None c = λ town point map pending point_is first all. shows_far town point map c.args.s c.args.seen pending first all c.in-None.is

pub returns : goal.returns
returns c = λ town point map pending point_is first all. shows_split town point map c.args.s c.args.seen pending first all c.in-Some.field-0 c.in-Some.is (omega (arith, eqb-true _ 0 (sym c.is_empty.ensures ∙ c.if-not-is_empty.false)))
