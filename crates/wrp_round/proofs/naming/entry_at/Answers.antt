use Rattle.std.proofs.Common.{◌≤◌, ◌^◌, pos, unsigned_abs, get_or, sym, ◌∙◌, arith}
use Rattle.wrp_tableau.proofs.Factoring.{cast}
use Rattle.wrp_round.proofs.Placing.{entry_there, entry_absent}
use Rattle.wrp_round.proofs.naming.entry_at.Goals.{else-at-terms-via-then-at-terms+else-terms-at, else-at-terms-via-else-at-terms}
use Rattle.wrp_round.proofs.naming.entry_at.Goals as goal

pub returns-then-terms-at-clause-value : goal.returns-then-terms-at-clause-value
returns-then-terms-at-clause-value c =
    let terms = c.args.terms.now in
    let at = c.args.at in
    let small : unsigned_abs (get_or terms at (0, pos 0)).1 ≤ 2 ^ 60 = c.requires.sparse.small at (0, pos 0) c.if-at-terms.true in
    cast (get_or terms at (0, pos 0)).1 (omega arith)
    ∙ sym (entry_there terms at c.args.number c.requires.sparse.ascending c.requires.place c.if-at-terms.true c.if-terms-at.true)

pub returns-else-at-terms-clause-value : goal.returns-else-at-terms-clause-value
returns-else-at-terms-clause-value c =
    sym (entry_absent c.args.terms.now c.args.at c.args.number c.requires.sparse.ascending c.requires.place
    (λ inside. elim c.else-at-terms.branch [
      | else-at-terms-via-then-at-terms+else-terms-at w ↦ w.if-terms-at.false
      | else-at-terms-via-else-at-terms w ↦ (let past = w.if-at-terms.false in absurd (omega arith))
    ]))
