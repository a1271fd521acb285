-- The rows of a table are those of a town.
use Rattle.wrp_street.specs.Growing.{rows_in}
use Rattle.wrp_street.proofs.TownSteps.{town_of_records}
use Rattle.wrp_street.proofs.reader.read_town.Goals as goal

pub into_town-requires : goal.into_town-requires
into_town-requires c = town_of_records (rows_in c.in_ok-table.table) _ c.in_ok-table.ensures
