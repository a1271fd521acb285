use Rattle.std.proofs.Common.{◌≡◌, ◌++◌, List, map, ap, ◌∙◌}
use Rattle.std.specs.Prelude.{slice_index}
use Rattle.std.proofs.lemmas.List.{take_all}
use Rattle.wrp_town.specs.declared.town.Town.{Town}
use Rattle.wrp_rows.specs.Pools.{sparse_at}
use Rattle.wrp_tableau.specs.declared.line.Line.{Line}
use Rattle.wrp_lp.specs.Relaxed.{row_line, row_lines, bound_lines}
use Rattle.wrp_lp.proofs.Making.{row_lines_are}
use Rattle.wrp_lp.proofs.lines.lines_of.Goals as goal

pub returns-clause-lines : goal.returns-clause-lines
returns-clause-lines c =
    let pool = c.args.rows.now in
    let lo = slice_index c.args.bounds.now.lo in
    let hi = slice_index c.args.bounds.now.hi in
    let rows : c.loop-row.lines.items ≡ row_lines pool.town pool.rows c.args.chosen.now =
    row_lines_are pool.town pool.rows c.args.chosen.now c.loop-row.lines.items
    (c.loop-row.invariant.lines ∙ ap (map (λ i. row_line pool.town (sparse_at pool.rows i))) (take_all c.loop-row.row-index c.args.chosen.now c.loop-row-test.false)) in
    c.in_ok-push_bounds.ensures.lines
    ∙ ap (λ (xs : List Line). xs ++ bound_lines c.town.result.now lo hi) rows
    ∙ ap (λ (t : Town). row_lines pool.town pool.rows c.args.chosen.now ++ bound_lines t lo hi) c.town.ensures
