use Rattle.std.proofs.Common.{sym, ◌∙◌}
use Rattle.std.proofs.lemmas.Bool.{eqb-true}
use Rattle.wrp_odd.specs.Points.{numbers_of}
use Rattle.wrp_odd.proofs.ClassCuts.{on_legal}
use Rattle.wrp_trials.proofs.Balances.{even_junction}
use Rattle.wrp_trials.proofs.points.is_even.Goals as goal

pub returns : goal.returns
returns c = λ same. even_junction c.args.town.now (numbers_of c.args.point.now) (on_legal c.args.town.now c.args.point.now c.requires.point) c.args.j
    (sym c.leaving.ensures ∙ eqb-true c.leaving.result c.entering.result same ∙ c.entering.ensures)
