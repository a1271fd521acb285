use Rattle.std.proofs.Common.{◌∙◌, ℕ, List, sym, subst}
use Rattle.wrp_town.specs.declared.town.Town.{Town}
use Rattle.wrp_rules.specs.Nodes.{standing}
use Rattle.wrp_rows.specs.Points.{AreBounds, AreBoundsOf}
use Rattle.wrp_progress.specs.Progress.{node_in}
use Rattle.wrp_box.specs.Relaxing.{ShowsNode}
use Rattle.wrp_engine.specs.Cuts.{IsServed}
use Rattle.wrp_engine.proofs.Looking.{sight_at}
use Rattle.wrp_engine.proofs.Relaxing.{served}
use Rattle.wrp_engine.proofs.sight.look.Goals as goal

pub cuts_of-requires-clause-lp : goal.cuts_of-requires-clause-lp
cuts_of-requires-clause-lp c =
    let pool = c.rows-rows.result.now in
    let town = c.args.tree.now.town in
    let records = c.args.tree.now.records in
    let node = node_in town records c.args.node in
    let bounds = c.args.desk.now.bounds in
    let lp = c.in_ok-lp.lp in
    let back = sym c.rows-rows.ensures.town in
    let shows = c.in_ok-lp.ensures.shows (standing town records) node c.rows-rows.ensures.rows (subst (λ (t : Town). AreBoundsOf t node bounds) back c.requires.desk.of_node) in
    subst (λ (chosen : List ℕ). IsServed pool chosen lp) (sym (c.deref-2.ensures.value ∙ c.in_ok-chosen.ensures))
    (served pool records node bounds 20000 (subst (λ (t : Town). AreBounds t bounds) back c.requires.desk.bounds) lp c.in_ok-lp.ensures.relaxed
    (subst (λ (t : Town). ShowsNode pool.town (standing t records) node lp) back shows))

pub returns : goal.returns
returns c =
    let found = c.in_ok-cuts.ensures in
    sight_at c.args.tree.now.town c.rows-rows.result.now c.args.tree.now.records c.args.node c.args.round c.args.desk.now.bounds c.deref-2.result.now c.in_ok-lp.lp
    (record { shown = c.in_ok-shown.shown; point = c.point_of.result; cuts = c.in_ok-cuts.cuts })
    c.rows-rows.ensures.town c.rows-rows.ensures.rows c.requires.desk.of_node (c.deref-2.ensures.value ∙ c.in_ok-chosen.ensures) c.in_ok-lp.ensures.relaxed c.in_ok-lp.ensures.shows
    c.point_of.ensures c.in_ok-shown.ensures found.few found.useful found.none found.idle
