use Rattle.std.proofs.Common.{arith}
use Rattle.wrp_rows.proofs.Stored.{few_base_rows}
use Rattle.wrp_rows.proofs.rows.Rows.len.Goals as goal

pub overflow_cast-result : goal.overflow_cast-result
overflow_cast-result c = omega (arith, few_base_rows c.self.inside.town.now)

pub returns-clause-few : goal.returns-clause-few
returns-clause-few c = omega (arith, few_base_rows c.self.inside.town.now)
