use Rattle.std.proofs.Common.{◌≡◌, ◌-◌, ◌+◌, suc, ◌++◌, reverse, ap, sym, ◌∙◌, arith}
use Rattle.wrp_paths.proofs.Tables.{read_step, read_none}
use Rattle.wrp_paths.proofs.paths.read_back.Goals as goal
use Rattle.wrp_paths.proofs.paths.read_back.Goals.{in-Some+in_ok-push, in_default}

pub loop-preserved : goal.loop-preserved
loop-preserved c =
    let left : c.args.hops - c.loop.counter ≡ suc (c.args.hops - (c.loop.counter + 1)) = omega arith in
    elim c.match-entry.branch [
      | in-Some+in_ok-push w ↦
          rw (w.at-is, w.steps-is, w.in_ok-push.ensures.items, w.step.ensures)
          (read_step c.args.table.now _ _ c.loop.at w.in-Some.walk c.loop.steps.items left (sym w.in-Some.ensures) ∙ c.loop.invariant)
      | in_default w ↦ rw (w.at-is, w.steps-is) (ap (λ l. l ++ reverse c.loop.steps.items) (read_none c.args.table.now _ _ c.loop.at (sym w.in_default.ensures)) ∙ c.loop.invariant)
    ]
