use Rattle.std.proofs.Common.{◌∙◌, List, subst}
use Rattle.wrp_town.specs.declared.town.Town.{Town}
use Rattle.wrp_rules.specs.declared.record.Record.{Record}
use Rattle.wrp_rules.specs.Nodes.{standing}
use Rattle.wrp_rows.specs.Pools.{HasRowsOf}
use Rattle.wrp_box.specs.declared.single.Single.{Single}
use Rattle.wrp_box.specs.Points.{TellsOfNode}
use Rattle.wrp_engine.proofs.OnlyPoints.{only_point_is}
use Rattle.wrp_engine.proofs.close.close.Goals as goal

pub close_met-requires-clause-point : goal.close_met-requires-clause-point
close_met-requires-clause-point g c =
    let keep = c.args.keep.now in
    let pool = c.rows.result.now in
    let bounds = c.args.desk.now.bounds in
    let has = subst (λ (t : Town). HasRowsOf (standing t keep.records) pool) c.tree.ensures.town
    (subst (λ (rs : List Record). HasRowsOf (standing c.tree.result.now.town rs) pool) c.tree.ensures.records c.rows.ensures.rows) in
    only_point_is keep c.args.node pool bounds c.in-Met.point (c.rows.ensures.town ∙ c.tree.ensures.town) has c.requires.desk.bounds c.requires.desk.of_node c.requires.one
    (subst (λ (single : Single). TellsOfNode pool bounds single) c.in-Met.is c.in_ok-single.ensures)
