use Rattle.std.proofs.Common.{length, take, ◌-◌, ◌≤◌}
use Rattle.wrp_out.specs.Outside.{Gained}
use Rattle.wrp_out.proofs.sink.write_all.Given as goal

abbrev pub invariant-loop-done : goal.invariant-loop-done
invariant-loop-done g l = record {
  in_range : l.done ≤ length l.bytes;
  gained : Gained (g.S.Sink.output l.initial.sink) (g.S.Sink.output l.sink) (take l.done l.bytes);
}

abbrev pub decreases-loop-done : goal.decreases-loop-done
decreases-loop-done g l = length l.bytes - l.done
