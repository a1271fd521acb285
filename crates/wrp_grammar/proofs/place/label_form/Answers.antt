use Rattle.wrp_grammar.proofs.PartFronts.{label-none, label-slash, label-number}
use Rattle.wrp_grammar.proofs.place.label_form.Goals as goal

pub returns-in_default : goal.returns-in_default
returns-in_default c = label-none c.args.part.now c.in_default.ensures.cases

pub returns-then-byte-eq47 : goal.returns-then-byte-eq47
returns-then-byte-eq47 c = label-slash c.args.part.now c.in-Some.field-0-1.now c.in-Some.byte.now c.in-Some.ensures.cases.0 c.if-byte-eq47.true

pub returns-else-byte-eq47 : goal.returns-else-byte-eq47
returns-else-byte-eq47 c =
    label-number c.args.part.now c.in-Some.field-0-1.now c.in-Some.byte.now c.digits_before.result c.in-Some.ensures.cases.0 c.if-byte-eq47.false c.digits_before.ensures.digits
