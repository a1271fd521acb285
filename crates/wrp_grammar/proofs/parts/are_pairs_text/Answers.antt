use Rattle.wrp_grammar.specs.Parts.{parts_of}
use Rattle.wrp_grammar.proofs.PairLists.{go_up-start, go_up-stops, go_up-goes}
use Rattle.wrp_grammar.proofs.parts.are_pairs_text.Goals as goal

pub loop-part-init : goal.loop-part-init
loop-part-init c = go_up-start c.args.most c.args.few (parts_of c.args.line.now)

pub returns-in-None : goal.returns-in-None
returns-in-None c =
    go_up-stops c.args.most c.loop-part.low c.loop-part.room c.in-Some.part.now (parts_of c.loop-part.left.now) (parts_of c.in-Some.others.now) _
    c.loop-part.invariant c.in-Some.ensures.some c.in-None.ensures

pub overflow_sub-room : goal.overflow_sub-room
overflow_sub-room c =
    (go_up-goes c.args.most c.loop-part.low c.loop-part.room c.in-Some-next_least.next c.in-Some.part.now (parts_of c.loop-part.left.now) (parts_of c.in-Some.others.now) _
    c.loop-part.invariant c.in-Some.ensures.some c.in-Some-next_least.ensures).0

pub loop-part-preserved : goal.loop-part-preserved
loop-part-preserved c =
    (go_up-goes c.args.most c.loop-part.low c.loop-part.room c.in-Some-next_least.next c.in-Some.part.now (parts_of c.loop-part.left.now) (parts_of c.in-Some.others.now) _
    c.loop-part.invariant c.in-Some.ensures.some c.in-Some-next_least.ensures).1
