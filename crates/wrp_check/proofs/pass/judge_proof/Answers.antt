use Rattle.std.proofs.Common.{refl}
use Rattle.wrp_check.proofs.Drawing.{drawn_then, drawn_at_most}
use Rattle.wrp_check.proofs.Passing.{reaches_more, reaches_end, reaches_fault, nothing_left}
use Rattle.wrp_check.proofs.pass.judge_proof.Goals as goal

pub lines-preserved : goal.lines-preserved
lines-preserved g c =
    let told = rw c.in-Ok-None.field-0-is at c.in-Ok-None.ensures in
    let reached = c.lines.invariant.reached in
    record {
      under_way = (told.moves refl).under_way;
      reached = reaches_more c.args.town.now _ _ _ _ _ reached (told.steps reached.s reached.stands);
      drawn = drawn_then c.lines.invariant.drawn c.step.ensures.draws;
    }

pub returns-in-Ok-Some-clause-whole : goal.returns-in-Ok-Some-clause-whole
returns-in-Ok-Some-clause-whole g c =
    let told = rw c.in-Ok-Some.field-0-is at c.in-Ok-Some.ensures in
    let reached = c.lines.invariant.reached in
    reaches_end c.args.town.now _ _ _ _ _ _ reached (told.steps reached.s reached.stands)

pub returns-in-Ok-Some-clause-end : goal.returns-in-Ok-Some-clause-end
returns-in-Ok-Some-clause-end g c =
    let told = rw c.in-Ok-Some.field-0-is at c.in-Ok-Some.ensures in
    let reached = c.lines.invariant.reached in
    nothing_left c.step.new.self.lines (g.P.Source.input c.step.new.proof) (told.steps reached.s reached.stands).empty

pub returns-in-Ok-Some-clause-taken : goal.returns-in-Ok-Some-clause-taken
returns-in-Ok-Some-clause-taken g c = drawn_at_most (drawn_then c.lines.invariant.drawn c.step.ensures.draws)

pub returns-in-Err-step-clause-taken : goal.returns-in-Err-step-clause-taken
returns-in-Err-step-clause-taken g c = drawn_at_most (drawn_then c.lines.invariant.drawn c.step.ensures.draws)

pub returns-in-Err-step-clause-fault : goal.returns-in-Err-step-clause-fault
returns-in-Err-step-clause-fault g c =
    let reached = c.lines.invariant.reached in
    reaches_fault c.args.town.now _ _ _ c.in-Err-step.fault reached (c.in-Err-step.ensures.steps reached.s reached.stands)
