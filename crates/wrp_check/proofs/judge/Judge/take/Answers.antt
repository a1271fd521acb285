use Rattle.std.proofs.Common.{ap, sym, ◌∙◌}
use Rattle.wrp_proof.specs.Views.{record_of}
use Rattle.wrp_proof.proofs.LineLaws.{spelled-line}
use Rattle.wrp_check.specs.Judging.{admits}
use Rattle.wrp_check.proofs.Judgements.{lonely, judged_answer}
use Rattle.wrp_check.proofs.judge.Judge.take.Goals as goal

pub take_view-requires-clause-numbers : goal.take_view-requires-clause-numbers
take_view-requires-clause-numbers c = (spelled-line c.args.line.now (record_of c.in-Ok.view) c.in-Ok.ensures.spelled).numbers

pub returns-then-admits : goal.returns-then-admits
returns-then-admits c =
    let item = record_of c.in-Ok.view in
    let spells = c.in-Ok.ensures.spelled in
    let admitted = ap (admits c.args.self.now.kept.past) (sym c.has_labels.ensures) ∙ sym c.admits.ensures ∙ c.if-admits.true in
    judged_answer c.args.town.now c.args.line.now item c.args.self.now c.take_view.new.self c.take_view.result spells (spelled-line c.args.line.now item spells).numbers admitted c.take_view.ensures.tries c.take_view.ensures.graph c.take_view.ensures.idle

pub returns-else-admits : goal.returns-else-admits
returns-else-admits c = λ s stands.
    let item = record_of c.in-Ok.view in
    let spells = c.in-Ok.ensures.spelled in
    let refused = ap (admits c.args.self.now.kept.past) (sym c.has_labels.ensures) ∙ sym c.admits.ensures ∙ c.if-admits.false in
    lonely c.args.town.now s c.args.line.now item c.args.self.now.kept spells (spelled-line c.args.line.now item spells).numbers stands.kept refused
