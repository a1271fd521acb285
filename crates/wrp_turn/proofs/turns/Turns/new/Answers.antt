use Rattle.std.proofs.Common.{◌*◌, ◌<◌, length, ◌∙◌, sym, subst, get_or}
use Rattle.wrp_turn.proofs.BanRows.{firsts_below}
use Rattle.wrp_turn.proofs.turns.Turns.new.Goals as goal

pub new-requires-clause-keys : goal.new-requires-clause-keys
new-requires-clause-keys c = λ k d inside.
    subst (λ n. (get_or c.args.bans.now k d).0 < 2 * n) (sym (c.len-count.ensures ∙ (λ i. length (c.town.ensures i).streets)))
    (firsts_below c.args.graph.now c.args.bans.now c.requires k d inside)
