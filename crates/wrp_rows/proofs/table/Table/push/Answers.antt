use Rattle.std.proofs.Common.{FitsSigned, arith}
use Rattle.std.specs.Int.{w64}
use Rattle.std.proofs.lemmas.Int.{to_z-of_z}
use Rattle.wrp_sums.proofs.Integers.{casts}
use Rattle.wrp_rows.proofs.Spans.{table_pushed}
use Rattle.wrp_rows.proofs.table.Table.push.Goals as goal

pub returns-in-Ok-clause-ok : goal.returns-in-Ok-clause-ok
returns-in-Ok-clause-ok c =
    let fits : FitsSigned w64 c.args.right_side = omega (arith, casts) in
    let pushed = rw (to_z-of_z w64 c.args.right_side fits) at c.in-Ok.ensures.items in
    table_pushed c.self.inside.terms.items c.args.terms.now c.extend_from_slice.new.self.items c.self.inside.spans.items c.push.new.self.items c.len-from.result c.len-to.result c.args.right_side c.args.self.now
    c.self.invariant c.self.view_is c.in_ok-extend_from_slice.ensures.items (omega arith) (omega arith) pushed
