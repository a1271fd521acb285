use Rattle.wrp_laws.proofs.Lower.{lower_bounds_every_tour, no_tour_without_lower}
use Rattle.wrp_laws.proofs.lower_bounds_tours.Goals as goal

pub returns : goal.returns
returns c = record { bounds = lower_bounds_every_tour; none = no_tour_without_lower }
