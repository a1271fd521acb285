use Rattle.wrp_worked.proofs.Towns.{both_ways}
use Rattle.wrp_worked.proofs.Lists.{both_ways_list, both_directions_are_served}
use Rattle.wrp_worked.proofs.some_list_is_valid.Goals as goal

pub returns : goal.returns
returns c = (both_ways, both_ways_list, both_directions_are_served.0, both_directions_are_served.1)
