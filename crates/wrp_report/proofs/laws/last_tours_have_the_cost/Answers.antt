use Rattle.wrp_report.proofs.LastTours.{last_legal, last_walks}
use Rattle.wrp_report.proofs.laws.last_tours_have_the_cost.Goals as goal

pub returns-clause-legal : goal.returns-clause-legal
returns-clause-legal c = last_legal

pub returns-clause-cost : goal.returns-clause-cost
returns-clause-cost c = last_walks
