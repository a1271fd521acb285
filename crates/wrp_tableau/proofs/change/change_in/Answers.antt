use Rattle.wrp_tableau.proofs.Changing.{own_stays, other_entry}
use Rattle.wrp_tableau.proofs.change.change_in.Goals as goal

pub returns-then-k-r-clause-ok : goal.returns-then-k-r-clause-ok
returns-then-k-r-clause-ok c = own_stays c.args.c c.args.r c.args.rows.now c.args.k c.requires.pivot c.requires.there c.if-k-r.true

pub change_of-requires-clause-some : goal.change_of-requires-clause-some
change_of-requires-clause-some c = other_entry c.args.c c.args.r c.args.rows.now c.args.k c.requires.pivot c.requires.there c.index-rows-k.result c.index-rows-r.result c.index-rows-k.is c.index-rows-r.is c.if-k-r.false
