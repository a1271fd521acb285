use Rattle.std.proofs.Common.{subst, sym, ◌+◌}
use Rattle.wrp_tableau.specs.Changes.{AreChanges}
use Rattle.wrp_tableau.proofs.Changing.{changes_more}
use Rattle.wrp_tableau.proofs.change.changes_of.Goals as goal

pub loop-k-preserved : goal.loop-k-preserved
loop-k-preserved c =
    let e = rw c.in-Some.is at c.in_ok-change.ensures in
    subst (AreChanges c.args.c c.args.r c.args.rows.now (c.loop-k.k + 1)) (sym c.in_ok-push.ensures.items)
    (changes_more c.args.c c.args.r c.args.rows.now c.loop-k.k c.loop-k.changes.items c.in-Some.change c.loop-k.invariant e.ok)
