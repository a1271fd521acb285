use Rattle.std.proofs.Common.{◌+◌, ◌≤◌, ◌^◌, unsigned_abs, arith, ℤ, List, All, map, subst, ap, sym, ◌∙◌}
use Rattle.std.proofs.lemmas.List.Elements.{All-push}
use Rattle.std.specs.Int.{w128}
use mir.Val.{to_z, of_z}
use Rattle.wrp_tableau.specs.Systems.{slack_row}
use Rattle.wrp_tableau.proofs.Factoring.{cast}
use Rattle.wrp_tableau.specs.Rows.{equation, IsStored}
use Rattle.wrp_tableau.proofs.Starting.{rows_more}
use Rattle.wrp_tableau.proofs.start.line_rows.Goals as goal

pub loop-k-preserved : goal.loop-k-preserved
loop-k-preserved c =
    let small : unsigned_abs c.index-lines-k.result.rhs ≤ 2 ^ 60 = subst (λ l. unsigned_abs l.rhs ≤ 2 ^ 60) (sym c.index-lines-k.is) (c.requires.lines c.loop-k.k c.index-lines-k.result c.loop-k-test.true).rhs_small in
    record {
      are = ap (map equation) c.in_ok-push.ensures.items
          ∙ rows_more c.args.width c.args.lines.now c.loop-k.k c.index-lines-k.result c.loop-k.rows.items c.in_ok-slack_row.field-0 c.loop-k-test.true c.index-lines-k.is c.loop-k.invariant.are
          (c.in_ok-slack_row.ensures.is
          ∙ ap (λ (xs : List ℤ). slack_row (c.args.width + c.loop-k.k) xs (to_z w128 (of_z w128 c.index-lines-k.result.rhs))) c.as_slice.ensures
          ∙ ap (slack_row (c.args.width + c.loop-k.k) c.index-lines-k.result.coefs) (cast c.index-lines-k.result.rhs (omega arith)));
      stored = subst (All IsStored) (sym c.in_ok-push.ensures.items) (All-push IsStored c.loop-k.rows.items c.in_ok-slack_row.field-0 c.loop-k.invariant.stored c.in_ok-slack_row.ensures.stored);
    }
