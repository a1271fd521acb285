use Rattle.std.proofs.Common.{◌+◌, arith}
use Rattle.std.proofs.lemmas.List.{length-take}
use Rattle.wrp_postman.proofs.Reading.{took_then_at_most}
use Rattle.wrp_postman.proofs.input.read_all.Goals as goal

pub returns-in_err-read_piece-clause-taken : goal.returns-in_err-read_piece-clause-taken
returns-in_err-read_piece-clause-taken g c =
    took_then_at_most _ (c.args.limit + 1) c.loop-bytes.invariant.took c.read_piece.ensures.taken
    (omega (arith, length-take c.min-room.result c.deref_mut.result.now, c.min-room.ensures, c.len-in-loop-bytes.ensures, c.loop-bytes.invariant.short))
