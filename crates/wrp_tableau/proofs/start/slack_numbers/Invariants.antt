use Rattle.std.proofs.Common.{◌≡◌, take}
use Rattle.wrp_tableau.specs.Systems.{slacks}
use Rattle.wrp_tableau.proofs.start.slack_numbers.Given as goal

abbrev pub invariant-loop-k : goal.invariant-loop-k
invariant-loop-k l = l.basics.items ≡ slacks l.width (take l.k l.lines)
