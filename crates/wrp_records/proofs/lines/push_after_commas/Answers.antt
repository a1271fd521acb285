use Rattle.std.proofs.Common.{◌∙◌}
use Rattle.wrp_records.proofs.Writing.{field_written, fields_done}
use Rattle.wrp_records.proofs.lines.push_after_commas.Goals as goal

-- one more field
pub loop-field-preserved : goal.loop-field-preserved
loop-field-preserved c = rw (c.in_ok-push_field.ensures, c.in_ok-push.ensures.items)
    (field_written c.loop-field.out.items c.args.fields.now c.loop-field.field-index _ c.loop-field-test.true ∙ c.loop-field.invariant)

-- the whole record
pub returns : goal.returns
returns c = fields_done c.loop-field.out.items c.args.fields.now _ c.loop-field.field-index c.loop-field-test.false c.loop-field.invariant
