use Rattle.wrp_laws.proofs.CutRows.{tours_meet_rows}
use Rattle.wrp_laws.proofs.tours_meet_the_cuts.Goals as goal

pub returns : goal.returns
returns c = λ town records steps valid tour. tours_meet_rows town records valid steps tour
