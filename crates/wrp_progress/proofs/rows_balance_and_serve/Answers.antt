use Rattle.wrp_progress.proofs.Meeting.{balances, services}
use Rattle.wrp_progress.proofs.rows_balance_and_serve.Goals as goal

pub returns-clause-balances : goal.returns-clause-balances
returns-clause-balances c = λ town records e x j met. balances town records e x met j

pub returns-clause-serves : goal.returns-clause-serves
returns-clause-serves c = λ town records e x demand met. services town records e x met demand
