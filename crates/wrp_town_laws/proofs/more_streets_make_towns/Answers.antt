use Rattle.wrp_town_laws.proofs.MoreStreets.{more_streets}
use Rattle.wrp_town_laws.proofs.more_streets_make_towns.Goals as goal

pub returns : goal.returns
returns c = more_streets
