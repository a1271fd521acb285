use Rattle.std.proofs.Common.{arith}
use Rattle.std.proofs.lemmas.List.{take_rest, length-drop}
use Rattle.wrp_out.proofs.OutsideFacts.{gained_nothing, gained_more}
use Rattle.wrp_out.proofs.sink.write_all.Goals as goal

pub loop-done-init : goal.loop-done-init
loop-done-init g c = record { in_range = omega arith; gained = gained_nothing _ }

pub loop-done-preserved : goal.loop-done-preserved
loop-done-preserved g c =
    let fits = rw (take_rest, length-drop) at c.in_ok-taken.ensures.fits in
    record {
      in_range = omega arith;
      gained = gained_more _ _ _ c.loop-done.invariant.gained (rw take_rest at c.in_ok-taken.ensures.gained);
    }
