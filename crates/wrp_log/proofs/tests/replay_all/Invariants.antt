use Rattle.std.proofs.Common.{◌≡◌, false}
use Rattle.wrp_log.specs.Logs.{IsOn}
use Rattle.wrp_log.proofs.tests.replay_all.Given as goal

abbrev pub invariant-loop-number : goal.invariant-loop-number
invariant-loop-number g l = record {
  on : IsOn l.log (g.D.Disk.meaning l.disk);
  going : l.log.stopped ≡ false;
}
