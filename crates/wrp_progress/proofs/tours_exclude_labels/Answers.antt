use Rattle.wrp_progress.proofs.Unlabelled.{unlabelled}
use Rattle.wrp_progress.proofs.tours_exclude_labels.Goals as goal

pub returns : goal.returns
returns c = λ town records some. unlabelled town some records
