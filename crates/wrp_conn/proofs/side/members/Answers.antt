use Rattle.std.proofs.Common.{ℕ, Bool, cond, not, sym, ◌∙◌}
use Rattle.wrp_rows.specs.Marks.{is_marked}
use Rattle.wrp_conn.proofs.Marks.{passing_more, passing_less}
use Rattle.wrp_conn.proofs.side.members.Goals as goal
use Rattle.wrp_conn.proofs.side.members.Goals.{then-is_kept+in_ok-push, else-is_kept}

pub loop-j-preserved : goal.loop-j-preserved
loop-j-preserved c =
    let test : ℕ → Bool = λ k. cond c.args.inside (is_marked c.args.side.now k) (not (is_marked c.args.side.now k)) in
    elim c.if-is_kept.branch [
      | then-is_kept+in_ok-push w ↦ passing_more test c.loop-j.j c.loop-j.set c.if-is_kept.set c.loop-j.invariant (w.set-is ∙ w.in_ok-push.ensures.ok) (sym c.is_kept.ensures ∙ w.if-is_kept.true)
      | else-is_kept w ↦ passing_less test c.loop-j.j c.loop-j.set c.if-is_kept.set c.loop-j.invariant w.set-is (sym c.is_kept.ensures ∙ w.if-is_kept.false)
    ]
