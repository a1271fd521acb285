use Rattle.std.proofs.Common.{arith, false, refl, sym, ◌∙◌}
use Rattle.wrp_rules.specs.Nodes.{after}
use Rattle.wrp_check.specs.Streams.{ahead}
use Rattle.wrp_check.specs.Passes.{place_of}
use Rattle.wrp_check.proofs.VerdictSteps.{open_next}
use Rattle.wrp_check.proofs.Passing.{unread_told, end_refuses, line_refuses, closes, end_followed, goes, taken_most}
use Rattle.wrp_check.proofs.Readings.{not_true}
use Rattle.wrp_check.proofs.Drawing.{draws_then}
use Rattle.wrp_check.proofs.pass.Progress.step.Goals as goal

pub returns-in-Err-clause-steps : goal.returns-in-Err-clause-steps
returns-in-Err-clause-steps g c = λ s stands.
    unread_told c.args.town.now (place_of c.args.self.now s) _ (open_next _ s) c.in-Err.fault (ahead c.args.self.now.lines (g.P.Source.input c.args.proof.now)) c.in-Err.ensures.unread

pub returns-in-Err-end-clause-steps : goal.returns-in-Err-end-clause-steps
returns-in-Err-end-clause-steps g c = λ s stands.
    let is = sym (rw c.line.ensures at c.is_end.ensures) ∙ c.if-is_end.true in
    let judged = rw c.line-then-is_end.ensures at (c.in-Err-end.ensures c.args.town.now s stands) in
    end_refuses c.args.town.now s c.args.self.now _ _ _ c.in_default.ensures.line c.in-Err-end.rule is judged

pub returns-in-Ok-close-clause-steps : goal.returns-in-Ok-close-clause-steps
returns-in-Ok-close-clause-steps g c = λ s stands.
    let is = sym (rw c.line.ensures at c.is_end.ensures) ∙ c.if-is_end.true in
    let judged = rw c.line-then-is_end.ensures at (c.in-Ok.ensures c.args.town.now s stands) in
    let closed = c.in-Ok-close.ensures.closed in
    closes c.args.town.now s c.args.self.now _ _ _ c.in_default.ensures.line _ _ c.in-Ok.end is judged closed.nothing (closed.end (not_true false refl))

pub returns-in-Err-close-clause-steps : goal.returns-in-Err-close-clause-steps
returns-in-Err-close-clause-steps g c = λ s stands.
    let is = sym (rw c.line.ensures at c.is_end.ensures) ∙ c.if-is_end.true in
    let judged = rw c.line-then-is_end.ensures at (c.in-Ok.ensures c.args.town.now s stands) in
    end_followed c.args.town.now s c.args.self.now _ _ _ c.in_default.ensures.line c.in-Err-close.fault c.in-Ok.end is judged c.in-Err-close.ensures.behind

pub returns-in-Ok-Some-clause-steps : goal.returns-in-Ok-Some-clause-steps
returns-in-Ok-Some-clause-steps g c = λ s stands.
    let is = sym (rw c.line.ensures at c.is_end.ensures) ∙ c.if-is_end.false in
    let told = rw c.in-Ok-Some.field-0-is at c.in-Ok-Some.ensures in
    let judged = rw c.line-2.ensures at (told s stands) in
    line_refuses c.args.town.now s c.args.self.now _ _ _ c.in_default.ensures.line c.in-Ok-Some.rule is judged

pub returns-in-Ok-None-clause-steps : goal.returns-in-Ok-None-clause-steps
returns-in-Ok-None-clause-steps g c = λ s stands.
    let is = sym (rw c.line.ensures at c.is_end.ensures) ∙ c.if-is_end.false in
    let told = rw c.in-Ok-None.field-0-is at c.in-Ok-None.ensures in
    let judged = rw c.line-2.ensures at (told s stands) in
    goes c.args.town.now s c.args.self.now _ _ _ c.in_default.ensures.line c.take.new.self is judged

pub returns-in-Ok-None-clause-moves : goal.returns-in-Ok-None-clause-moves
returns-in-Ok-None-clause-moves g c = λ _.
    let told = rw c.in-Ok-None.field-0-is at c.in-Ok-None.ensures in
    let judged = told c.requires.ready.0 c.requires.ready.1 in
    let line = c.in_default.ensures.line in
    let number = c.requires.number in
    record {
      under_way = record {
        ready = (after c.args.town.now c.requires.ready.0 judged.0, judged.2);
        limit = c.requires.limit;
        number = omega (arith, number, line.taken);
        most = taken_most _ _ _ _ _ line;
      };
      more = omega (arith, line.taken);
    }

pub returns-in-Ok-close-clause-draws : goal.returns-in-Ok-close-clause-draws
returns-in-Ok-close-clause-draws g c = draws_then c.read_line.ensures.draws c.close.ensures.draws

pub returns-in-Err-close-clause-draws : goal.returns-in-Err-close-clause-draws
returns-in-Err-close-clause-draws g c = draws_then c.read_line.ensures.draws c.close.ensures.draws
