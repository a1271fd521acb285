use Rattle.std.proofs.Common.{◌≡◌, ◌*◌, Bool, length, cond, true, false, ap, sym, ◌∙◌, arith}
use Rattle.wrp_town.specs.Streets.{demands_at}
use Rattle.wrp_rows.specs.Patterns.{joins_by}
use Rattle.wrp_rows.proofs.Demands.{demands_more}
use Rattle.wrp_rows.proofs.gather.demands_by.Goals as goal
use Rattle.wrp_rows.proofs.gather.demands_by.Goals.{then-joins, else-joins}

pub loop-i-preserved : goal.loop-i-preserved
loop-i-preserved c =
    let town = c.args.town.now in
    let i = c.loop-i.i in
    let street = c.street-item.result in
    let more = demands_more town c.args.pattern _ i street c.as_slice-street-items.ensures c.loop-i-test.true c.street-item.is in
    elim c.if-joins.branch [
      | then-joins w ↦ (
          let yes : joins_by town c.args.pattern (2 * i) ≡ true = sym c.joins.ensures ∙ w.if-joins.true in
          omega (arith, more, ap (λ (t : Bool). cond t (length (demands_at i street.need)) 0) yes, (w.demand_count-count).ensures.count i)
          )
      | else-joins w ↦ (
          let no : joins_by town c.args.pattern (2 * i) ≡ false = sym c.joins.ensures ∙ w.if-joins.false in
          omega (arith, more, ap (λ (t : Bool). cond t (length (demands_at i street.need)) 0) no)
          )
    ]
