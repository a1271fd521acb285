use Rattle.wrp_laws.proofs.Labels.{labels_exclude}
use Rattle.wrp_laws.proofs.labels_exclude_tours.Goals as goal

pub returns : goal.returns
returns c = labels_exclude
