use Rattle.std.proofs.Common.{refl, sym, ◌∙◌}
use Rattle.wrp_check.proofs.TourTaken.{tour_taken}
use Rattle.wrp_check.proofs.judge.take_tour.Goals as goal

pub returns-then-is_none-clause-tries : goal.returns-then-is_none-clause-tries
returns-then-is_none-clause-tries c = λ s is alone.
    let rule = sym (c.broken_tour-broken.ensures s is.upper) in
    (rule, λ none. tour_taken c.args.town.now s c.args.cost c.args.steps.now c.args.kept.now _ is alone (rule ∙ none) refl refl refl refl c.plain-kept.ensures)
