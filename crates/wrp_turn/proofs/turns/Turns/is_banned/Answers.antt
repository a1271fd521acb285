use Rattle.std.proofs.Common.{◌*◌, ◌==◌, length, ap, ◌∙◌}
use Rattle.std.specs.List.{list_any}
use Rattle.wrp_graph.specs.Sorted.{items_of}
use Rattle.wrp_graph.proofs.Rows.{row_there, row_at}
use Rattle.wrp_turn.proofs.BanRows.{banned_row}
use Rattle.wrp_turn.proofs.turns.Turns.is_banned.Goals as goal

pub bucket-requires : goal.bucket-requires
bucket-requires c =
    let t = c.args.self.now in
    row_there (2 * length t.graph.now.streets) (items_of t.bans.now) t.by_first c.args.first t.gathered c.requires

pub returns : goal.returns
returns c =
    let t = c.args.self.now in
    c.has.ensures
    ∙ ap (list_any (λ arc. arc == c.args.second)) (c.bucket.ensures ∙ row_at (2 * length t.graph.now.streets) (items_of t.bans.now) t.by_first c.args.first t.gathered c.requires)
    ∙ banned_row t.bans.now c.args.first c.args.second
