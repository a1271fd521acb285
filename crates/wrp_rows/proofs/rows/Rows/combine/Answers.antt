use Rattle.std.proofs.Common.{length, FitsSigned, rules, ap, sym, arith}
use Rattle.std.specs.Int.{w128}
use Rattle.std.proofs.lemmas.Int.{to_z-of_z}
use Rattle.std.proofs.lemmas.List.{length-take-le}
use Rattle.wrp_rows.specs.Pools.{RowPool}
use Rattle.wrp_rows.proofs.Shared.{names_more, combined_first}
use Rattle.wrp_rows.proofs.rows.Rows.combine.Goals as goal

pub combine-requires-clause-named : goal.combine-requires-clause-named
combine-requires-clause-named c =
    let rows = ap (λ (pool : RowPool). pool.rows) (sym c.self.view_is) in
    let long = length-take-le c.self.inside.count c.self.inside.table c.self.invariant.counted in
    let few = c.self.invariant.counted in
    names_more c.args.self.now.rows c.self.inside.table c.args.mult.now (omega (arith, ap length rows)) c.requires.named

pub returns : goal.returns
returns c =
    let rows = ap (λ (pool : RowPool). pool.rows) (sym c.self.view_is) in
    let fits : FitsSigned w128 c.combine.result = search rules in
    rw (to_z-of_z w128 c.combine.result fits)
    (combined_first c.self.inside.table c.args.self.now.rows c.self.inside.count c.args.mult.now c.combine.new.sums c.combine.result rows c.self.invariant.counted c.requires.named c.combine.ensures)
