use Rattle.std.proofs.Common.{arith}
use Rattle.wrp_rows.proofs.Spans.{table_dropped}
use Rattle.wrp_rows.proofs.table.Table.truncate.Goals as goal

pub invariant_of-self : goal.invariant_of-self
invariant_of-self c =
    (table_dropped c.self.inside.terms.items c.truncate.new.self.items c.self.inside.spans.items c.truncate-then-count-len.new.self.items c.args.count c.index.result.now c.args.self.now
    c.self.invariant c.self.view_is (omega arith) c.index.ensures c.truncate.ensures.items c.truncate-then-count-len.ensures.items).0

pub returns-then-count-len : goal.returns-then-count-len
returns-then-count-len c =
    (table_dropped c.self.inside.terms.items c.truncate.new.self.items c.self.inside.spans.items c.truncate-then-count-len.new.self.items c.args.count c.index.result.now c.args.self.now
    c.self.invariant c.self.view_is (omega arith) c.index.ensures c.truncate.ensures.items c.truncate-then-count-len.ensures.items).1
