use Rattle.wrp_check.proofs.Passing.{exact_answer, accepted_answer, true_answer, accepting_answer}
use Rattle.wrp_check.proofs.pass.check.Goals as goal

pub returns-clause-exact : goal.returns-clause-exact
returns-clause-exact g c = exact_answer c.args.town.now _ c.judge_proof.result c.judge_proof.ensures.whole c.judge_proof.ensures.fault

pub returns-clause-accepted : goal.returns-clause-accepted
returns-clause-accepted g c = accepted_answer c.args.town.now _ c.judge_proof.result c.judge_proof.ensures.whole

pub returns-clause-accepts : goal.returns-clause-accepts
returns-clause-accepts g c = accepting_answer c.args.town.now _ c.judge_proof.result (returns-clause-exact g c)

pub returns-clause-holds : goal.returns-clause-holds
returns-clause-holds g c = true_answer c.args.town.now _ c.judge_proof.result c.judge_proof.ensures.whole
