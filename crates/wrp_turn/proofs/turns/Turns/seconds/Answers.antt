use Rattle.std.proofs.Common.{not, ap, sym, ◌∙◌, arith}
use Rattle.std.specs.List.{filter}
use Rattle.std.proofs.lemmas.List.{take_all}
use Rattle.wrp_town.specs.Arcs.{head_of}
use Rattle.wrp_graph.specs.Stars.{out_of}
use Rattle.wrp_turn.specs.Turns.{is_banned}
use Rattle.wrp_turn.proofs.Stars.{seconds_by_star}
use Rattle.wrp_turn.proofs.turns.Turns.seconds.Goals as goal

pub returns : goal.returns
returns c =
    let town = c.args.self.now.graph.now in
    let bans = c.args.self.now.bans.now in
    let star = c.out_of-second-items.result.now in
    c.loop-second.invariant
    ∙ ap (filter (λ second. not (is_banned bans c.args.first second)))
    (take_all c.loop-second.second-index star (omega arith) ∙ c.out_of-second-items.ensures ∙ ap (out_of town) (c.head.ensures.value ∙ (λ i. head_of (c.town.ensures i) c.args.first)))
    ∙ sym (seconds_by_star town bans c.args.first c.requires.legal)
