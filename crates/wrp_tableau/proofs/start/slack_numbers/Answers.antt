use Rattle.std.proofs.Common.{◌+◌, ℕ, [], ◌∷◌, ◌++◌, List, ap, sym, ◌∙◌, pos}
use Rattle.wrp_tableau.specs.declared.line.Line.{Line}
use Rattle.wrp_tableau.proofs.Starting.{slacks-more}
use Rattle.wrp_tableau.proofs.start.slack_numbers.Goals as goal

none : Line
none = record { coefs = []; rhs = pos 0 }

pub loop-k-preserved : goal.loop-k-preserved
loop-k-preserved c =
    c.in_ok-push.ensures.items
    ∙ ap (λ (ns : List ℕ). ns ++ (c.args.width + c.loop-k.k) ∷ []) c.loop-k.invariant
    ∙ sym (slacks-more c.args.width c.args.lines.now c.loop-k.k none c.loop-k-test.true)
