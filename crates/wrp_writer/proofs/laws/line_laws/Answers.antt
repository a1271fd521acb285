use Rattle.wrp_writer.proofs.ShortLines.{tour_writable, labels_writable}
use Rattle.wrp_writer.proofs.laws.line_laws.Goals as goal

pub returns-clause-tours : goal.returns-clause-tours
returns-clause-tours c = tour_writable

pub returns-clause-labels : goal.returns-clause-labels
returns-clause-labels c = labels_writable
