use Rattle.std.proofs.Common.{sym, ◌∙◌, ap, arith, subst}
use Rattle.wrp_rules.specs.Nodes.{after}
use Rattle.wrp_rows.specs.Pools.{committed, HasRowsOf}
use Rattle.wrp_rows.proofs.Stored.{few_base_rows, rows_after, commit_is}
use Rattle.wrp_rows.proofs.rows.Rows.commit_cut.Goals as goal

pub overflow_add-self : goal.overflow_add-self
overflow_add-self c = omega (arith, few_base_rows c.self.inside.town.now)

pub returns-clause-rows : goal.returns-clause-rows
returns-clause-rows c = λ s item cut has prepared.
    let pool = c.args.self.now in
    let is = commit_is c.self.inside.town.now c.self.inside.table c.self.inside.count c.self.invariant.one_more ∙ ap committed c.self.view_is in
    subst (HasRowsOf (after pool.town s item)) (sym is) (rows_after s item pool cut has prepared)
