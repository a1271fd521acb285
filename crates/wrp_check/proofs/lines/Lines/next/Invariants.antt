use Rattle.std.proofs.Common.{◌≡◌, ◌+◌, ◌-◌, ◌≤◌, length, true}
use Rattle.wrp_out.specs.Outside.{Took}
use Rattle.wrp_rules.specs.Proofs.{most_bytes}
use Rattle.wrp_check.specs.Streams.{Draws, ahead, is_one_line}
use Rattle.wrp_check.proofs.lines.Lines.next.Given as goal

abbrev pub invariant-loop-self : goal.invariant-loop-self
invariant-loop-self g l = record {
  took : Took (ahead l.fn.self (g.P.Source.input l.fn.source)) (ahead l.self (g.P.Source.input l.source)) l.self.line;
  one_line : is_one_line l.self.line ≡ true;
  within : length l.self.line ≤ l.limit;
  draws : Draws l.fn.self l.self (g.P.Source.input l.fn.source) (g.P.Source.input l.source);
  taken : l.self.taken ≡ l.fn.self.taken + length l.self.line;
}

abbrev pub decreases-loop-self : goal.decreases-loop-self
decreases-loop-self g l = most_bytes - l.self.taken
