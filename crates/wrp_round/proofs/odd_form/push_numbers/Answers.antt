use Rattle.wrp_round.proofs.FormRows.{numbers_more}
use Rattle.wrp_round.proofs.odd_form.push_numbers.Goals as goal

pub loop-number-preserved : goal.loop-number-preserved
loop-number-preserved c =
    numbers_more c.args.rows.now.items c.loop-number.rows.items c.push.new.self.items c.args.first c.loop-number.number c.loop-number.auto.number c.loop-number.invariant c.in_ok-push.ensures.items
