use Rattle.wrp_rows.proofs.Made.{refused_by}
use Rattle.wrp_rows.proofs.bench.Bench.make_conn.Goals as goal

pub returns-in_err-judge_conn-clause-judged : goal.returns-in_err-judge_conn-clause-judged
returns-in_err-judge_conn-clause-judged c = λ s roomy.
    refused_by _ c.in_err-judge_conn.field-0.0 c.from_residual.result (c.in_err-judge_conn.ensures.judged s roomy) c.from_residual.ensures.1
