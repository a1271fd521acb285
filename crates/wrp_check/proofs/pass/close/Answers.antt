use Rattle.std.proofs.Common.{refl}
use Rattle.wrp_check.proofs.Readings.{some_left}
use Rattle.wrp_check.proofs.pass.close.Goals as goal

pub returns-in-Ok-true-clause-behind : goal.returns-in-Ok-true-clause-behind
returns-in-Ok-true-clause-behind g c =
    let told = rw c.in-Ok-true.field-0-test at c.in-Ok-true.ensures in
    some_left c.args.lines.now c.has_more.new.self (g.P.Source.input c.args.proof.now) (g.P.Source.input c.has_more.new.source) _ told.more.nothing (told.more.pending.0 refl) (λ rest some. (refl, refl, some, told.below refl))
