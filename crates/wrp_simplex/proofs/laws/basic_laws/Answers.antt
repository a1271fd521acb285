use Rattle.wrp_simplex.proofs.Basics.{basic_solves, basic_cost, basic_not_negative}
use Rattle.wrp_simplex.proofs.laws.basic_laws.Goals as goal

pub returns-clause-solves : goal.returns-clause-solves
returns-clause-solves c s d x sound is = basic_solves s d x sound is

pub returns-clause-costs : goal.returns-clause-costs
returns-clause-costs c s d x sound is solved = basic_cost s d x sound is solved

pub returns-clause-at_least : goal.returns-clause-at_least
returns-clause-at_least c s d x sound is positive feasible j h = basic_not_negative s d x sound is positive feasible j h
