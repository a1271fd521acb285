use Rattle.std.proofs.Common.{◌==◌, ap, ◌∙◌, arith}
use Rattle.std.specs.List.{position_or_len}
use Rattle.wrp_turn.proofs.TurnNames.{few_own, place_few}
use Rattle.wrp_turn.proofs.streets.Places.place.Goals as goal

pub place_of-requires : goal.place_of-requires
place_of-requires c = omega (arith, few_own c.args.self.now.town.now c.args.self.now.arcs.now c.args.self.now.own)

pub returns-clause-within : goal.returns-clause-within
returns-clause-within c =
    let is = c.place_of.ensures ∙ ap (position_or_len (λ other. other == c.args.arc)) c.args.self.now.own in
    omega (arith, is, place_few c.args.self.now.town.now c.args.arc)
