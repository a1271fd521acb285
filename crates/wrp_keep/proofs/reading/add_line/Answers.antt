use Rattle.std.proofs.Common.{ap}
use Rattle.wrp_tree.specs.Trees.{TreeState}
use Rattle.wrp_keep.proofs.LogLines.{spelled_writable, writable_push}
use Rattle.wrp_keep.proofs.reading.add_line.Goals as goal

pub apply-requires : goal.apply-requires
apply-requires c = spelled_writable c.args.line.now c.in-Ok.item c.in-Ok.ensures.spelled c.requires

pub returns-in-Ok-apply-clause-writable : goal.returns-in-Ok-apply-clause-writable
returns-in-Ok-apply-clause-writable c =
    writable_push c.args.tree.now.records c.apply.new.self.records c.in-Ok.item (spelled_writable c.args.line.now c.in-Ok.item c.in-Ok.ensures.spelled c.requires) (ap (λ (t : TreeState). t.records) c.in-Ok-apply.ensures.added)
