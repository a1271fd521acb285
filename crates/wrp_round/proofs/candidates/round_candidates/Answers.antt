use Rattle.std.proofs.Common.{ap, sym, ◌∙◌, subst}
use Rattle.wrp_lp.specs.declared.lp.Lp.{Lp}
use Rattle.wrp_odd.specs.Points.{HasNumbers}
use Rattle.wrp_round.specs.Optima.{point_of, system_of}
use Rattle.wrp_round.proofs.Optimum.{optimum_width, optimum_numbers}
use Rattle.wrp_round.proofs.candidates.round_candidates.Goals as goal

pub candidates_of-requires-clause-width : goal.candidates_of-requires-clause-width
candidates_of-requires-clause-width c =
    sym (ap (λ (lp : Lp). (system_of lp).width) c.in-Optimal.is) ∙ optimum_width c.args.rows.now c.args.chosen.now c.args.lp.now c.requires

pub candidates_of-requires-clause-numbers : goal.candidates_of-requires-clause-numbers
candidates_of-requires-clause-numbers c =
    subst (λ (lp : Lp). HasNumbers (point_of lp)) c.in-Optimal.is (optimum_numbers c.args.rows.now c.args.chosen.now c.args.lp.now c.requires)
