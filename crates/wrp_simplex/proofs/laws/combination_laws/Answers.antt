use Rattle.wrp_simplex.proofs.Lines.{solution_meets, start_dual}
use Rattle.wrp_simplex.proofs.Duals.{row_combines, cost_priced}
use Rattle.wrp_simplex.proofs.laws.combination_laws.Goals as goal

pub returns-clause-dual : goal.returns-clause-dual
returns-clause-dual c width lines costs fit above = start_dual width lines costs fit above

pub returns-clause-rows : goal.returns-clause-rows
returns-clause-rows c width lines costs t r fit cost_fit follows h = row_combines width lines costs fit cost_fit t follows r h

pub returns-clause-cost : goal.returns-clause-cost
returns-clause-cost c width lines costs t fit cost_fit follows = cost_priced width lines costs fit cost_fit t follows

pub returns-clause-meets : goal.returns-clause-meets
returns-clause-meets c width lines costs d x i fit solves h above = solution_meets width lines costs fit d x solves i h above
