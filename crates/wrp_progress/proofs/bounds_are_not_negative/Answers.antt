use Rattle.wrp_progress.proofs.Lows.{not_negative}
use Rattle.wrp_progress.proofs.bounds_are_not_negative.Goals as goal

pub returns : goal.returns
returns c = λ town records i valid. not_negative town records valid i
