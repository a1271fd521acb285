use Rattle.std.proofs.Common.{◌+◌, ◌-◌}
use Rattle.wrp_rules.specs.Proofs.{most_bytes}
use Rattle.wrp_check.specs.Streams.{HasDrawn}
use Rattle.wrp_check.specs.Passes.{IsUnderWay, Reaches}
use Rattle.wrp_check.proofs.pass.judge_proof.Given as goal

abbrev pub invariant-lines : goal.invariant-lines
invariant-lines g l = record {
  under_way : IsUnderWay l.town l.pass;
  reached : Reaches l.town (g.P.Source.input l.fn.proof) l.pass (g.P.Source.input l.proof);
  drawn : HasDrawn l.pass.lines (g.P.Source.input l.fn.proof) (g.P.Source.input l.proof);
}

abbrev pub decreases-lines : goal.decreases-lines
decreases-lines g l = most_bytes + 1 - l.pass.lines.taken
