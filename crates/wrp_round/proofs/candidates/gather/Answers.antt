use Rattle.wrp_tableau.specs.Kept.{system}
use Rattle.wrp_round.proofs.Gathered.{gathered_more}
use Rattle.wrp_round.proofs.candidates.gather.Goals as goal

pub loop-r-preserved : goal.loop-r-preserved
loop-r-preserved c = λ s has.
    gathered_more c.args.rows.now.town s c.args.point.now (system c.args.table.now) c.args.chosen.now c.loop-r.r c.loop-r.found.items c.add_row.new.found.items (c.loop-r.invariant s has) (c.in_ok-add_row.ensures s has)
