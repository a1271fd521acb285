use Rattle.std.proofs.Common.{◌≡◌, true, rules}
use Rattle.std.proofs.lemmas.Result.{IfOk-weaker}
use Rattle.wrp_town.specs.Walks.{is_tour}
use Rattle.wrp_tour.specs.Tours.{UsesFew, IsLeanTour}
use Rattle.wrp_tour.proofs.lean.is_lean_tour.Goals as goal

pub returns : goal.returns
returns c =
    let town = c.args.town.now in
    let steps = c.args.steps.now in
    let tour : is_tour town steps ≡ true = search rules in
    IfOk-weaker c.uses_few.result (λ few. few ≡ true → UsesFew town steps) (λ is. is ≡ true → IsLeanTour town steps) (λ few uses on. record { tour = tour; few = uses on }) c.uses_few.ensures
