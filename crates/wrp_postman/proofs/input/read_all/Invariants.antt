use Rattle.std.proofs.Common.{length, ◌≡◌, ◌+◌, ◌-◌, ◌≤◌}
use Rattle.wrp_out.specs.Outside.{Took}
use Rattle.wrp_postman.proofs.input.read_all.Given as goal

abbrev pub invariant-loop-bytes : goal.invariant-loop-bytes
invariant-loop-bytes g l = record {
  short : length l.bytes.items ≤ l.limit + 1;
  chunk : length l.chunk.items ≡ 65536;
  took : Took (g.S.Source.input l.initial.source) (g.S.Source.input l.source) l.bytes.items;
}

abbrev pub decreases-loop-bytes : goal.decreases-loop-bytes
decreases-loop-bytes g l = l.limit + 1 - length l.bytes.items
