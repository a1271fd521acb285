use Rattle.wrp_webs.proofs.OddRows.{town_is_web, crossing_is_odd, odd_row_met}
use Rattle.wrp_webs.proofs.MinOdd.{none_is_exact, some_is_broken}
use Rattle.wrp_webs.proofs.odd_rows_are_cuts.Goals as goal

pub returns : goal.returns
returns c = record { webs = town_is_web; odd = crossing_is_odd; rows = odd_row_met; none = none_is_exact; some = some_is_broken }
