use Rattle.std.proofs.Common.{◌≡◌, take, map, All}
use Rattle.wrp_tableau.specs.Systems.{line_rows}
use Rattle.wrp_tableau.specs.Rows.{equation, IsStored}
use Rattle.wrp_tableau.proofs.start.line_rows.Given as goal

abbrev pub invariant-loop-k : goal.invariant-loop-k
invariant-loop-k l = record {
  are : map equation l.rows.items ≡ line_rows l.width (take l.k l.lines);
  stored : All IsStored l.rows.items;
}
