use Rattle.wrp_turn.proofs.Widened.{least_turning, least_expanded, none_turning, none_expanded}
use Rattle.wrp_turn.proofs.laws.turns_cost_alike.Goals as goal

pub returns : goal.returns
returns c = record {
  least = λ town bans big cost is can. (least_turning town bans big is cost can, least_expanded town bans big is cost can);
  none = λ town bans big is can. (none_turning town bans big is can, none_expanded town bans big is);
}
