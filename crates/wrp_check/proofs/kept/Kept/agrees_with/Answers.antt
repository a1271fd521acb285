use Rattle.std.proofs.Common.{ap, sym, ◌∙◌}
use Rattle.wrp_rules.specs.Lists.{agrees}
use Rattle.wrp_check.proofs.TourTaken.{labelled_only}
use Rattle.wrp_check.proofs.kept.Kept.agrees_with.Goals as goal

pub returns-in-Infeasible : goal.returns-in-Infeasible
returns-in-Infeasible c = λ town s is. labelled_only s.records c.args.self.now.past is.past ∙ ap (agrees s) (sym c.in-Infeasible.is)
