use Rattle.std.proofs.Common.{rules, [], ◌∷◌}
use Rattle.wrp_rules.specs.declared.record.End.TheVariants as ends
use Rattle.wrp_report.specs.declared.answer.Answer.{Answer}
use Rattle.wrp_postman.specs.declared.status.Status.TheVariants.{Infeasible}
use Rattle.wrp_postman.specs.Searches.{IsListed, IsStatusOf}
use Rattle.wrp_postman.proofs.Solutions.{labels_forced}
use Rattle.wrp_postman.proofs.search.without_tour.Goals as goal

pub returns : goal.returns
returns c town item budget split =
    let answer : Answer = record { end = ends.Infeasible; nodes = 1; done = 0; cuts = 0; blind = 0; steps = c.new.result } in
    let listed : IsListed town (item ∷ []) answer = search rules in
    let status : IsStatusOf town budget (item ∷ []) ends.Infeasible Infeasible = search rules in
    record { listed = listed; searched = labels_forced town budget item split; status = status }
