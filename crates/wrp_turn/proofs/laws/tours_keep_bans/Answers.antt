use Rattle.wrp_turn.proofs.DroppedTours.{dropped_tour, dropped_tour_cost}
use Rattle.wrp_turn.proofs.Widened.{comes_from_tour}
use Rattle.wrp_turn.proofs.laws.tours_keep_bans.Goals as goal

pub returns : goal.returns
returns c = record {
  drops = λ town bans big steps is tour. (dropped_tour town bans big is steps tour, dropped_tour_cost town bans big is steps tour);
  comes = λ town bans big steps is can turning. comes_from_tour town bans big is steps can turning;
}
