use Rattle.wrp_turn.proofs.TurnTowns.{turn_town}
use Rattle.wrp_turn.proofs.laws.turn_towns_are_towns.Goals as goal

pub returns : goal.returns
returns c = turn_town
