use Rattle.wrp_conn.proofs.Cuts.{side_weighed, found_more}
use Rattle.wrp_conn.proofs.pairs.note.Goals as goal

pub returns-clause-found : goal.returns-clause-found
returns-clause-found c = λ town point is long light are.
    found_more town point c.in_ok-cut.cut c.args.cuts.now.items c.add.new.cuts.items
    (side_weighed town point is c.args.side.now c.args.r1 c.args.r2 c.args.value c.in_ok-cut.cut long light c.in_ok-cut.ensures.set c.in_ok-cut.ensures.value) c.in_ok-add.ensures are
