use Rattle.std.proofs.Common.{◌∙◌}
use Rattle.wrp_records.proofs.Writing.{doubled_done, doubled_other, doubled_quote}
use Rattle.wrp_records.proofs.lines.push_doubled.Goals as goal
use Rattle.wrp_records.proofs.lines.push_doubled.Goals.{then-byte-eq34+in_ok-push, else-byte-eq34}

-- one more byte
pub loop-byte-preserved : goal.loop-byte-preserved
loop-byte-preserved c = elim c.if-byte-eq34.branch [
  | then-byte-eq34+in_ok-push w ↦
      rw (c.in_ok-push-2.ensures.items, w.out-is, w.in_ok-push.ensures.items)
      (doubled_quote c.loop-byte.out.items c.args.field.now c.loop-byte.byte-index c.loop-byte-test.true w.if-byte-eq34.true ∙ c.loop-byte.invariant)
  | else-byte-eq34 w ↦
      rw (c.in_ok-push-2.ensures.items, w.out-is)
      (doubled_other c.loop-byte.out.items c.args.field.now c.loop-byte.byte-index c.loop-byte-test.true w.if-byte-eq34.false ∙ c.loop-byte.invariant)
]

-- the whole field
pub returns : goal.returns
returns c = doubled_done c.loop-byte.out.items c.args.field.now _ c.loop-byte.byte-index c.loop-byte-test.false c.loop-byte.invariant
