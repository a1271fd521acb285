use Rattle.wrp_webs.proofs.Uncrossing.{cut_outside, cut_shared, cut_apart}
use Rattle.wrp_webs.proofs.sets_uncross.Goals as goal

pub returns : goal.returns
returns c = record { outsides = cut_outside; shared = cut_shared; apart = cut_apart }
