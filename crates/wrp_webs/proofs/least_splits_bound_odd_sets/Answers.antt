use Rattle.wrp_webs.proofs.Splitting.{least_split_bounds, odd_on_a_side}
use Rattle.wrp_webs.proofs.Shrinking.{are_shrunk}
use Rattle.wrp_webs.proofs.Pending.{least_of_two}
use Rattle.wrp_webs.proofs.least_splits_bound_odd_sets.Goals as goal

pub returns : goal.returns
returns c = record { bounds = λ web at u s t set is merge. least_split_bounds web at merge u s t set is; sides = λ web at u s t set is merge. odd_on_a_side web at merge u s t set is; smaller = are_shrunk; least = least_of_two }
