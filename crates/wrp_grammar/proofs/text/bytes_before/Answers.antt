use Rattle.std.proofs.Common.{arith}
use Rattle.wrp_grammar.proofs.Cutting.{place_is, end_is}
use Rattle.wrp_grammar.proofs.text.bytes_before.Goals as goal

pub returns-then-byte-wanted-clause-place : goal.returns-then-byte-wanted-clause-place
returns-then-byte-wanted-clause-place c =
    place_is c.args.wanted c.args.bytes.now c.loop-place.place c.loop-place.invariant (omega arith) (omega arith)

pub returns-clause-place : goal.returns-clause-place
returns-clause-place c = end_is c.args.wanted c.args.bytes.now c.loop-place.place c.loop-place.invariant (omega arith)
