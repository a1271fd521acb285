use Rattle.wrp_webs.proofs.SumsBelow.{sum_of_sums, least_sum, sum_exchange}
use Rattle.wrp_webs.proofs.sums_below.Goals as goal

pub returns : goal.returns
returns c = record { adds = sum_of_sums; grows = least_sum; exchanges = sum_exchange }
