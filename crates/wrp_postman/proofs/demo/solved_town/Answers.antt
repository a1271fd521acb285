use Rattle.std.proofs.Common.{◌≡◌, ℕ, List, [], ◌∷◌, Result, Ok, Err, IfOk, subst}
use Rattle.wrp_town.specs.declared.town.Town.{Town}
use Rattle.wrp_rules.specs.declared.record.Record.{Record}
use Rattle.wrp_reach.specs.declared.reach.Reach.{Reach}
use Rattle.wrp_reach.specs.Answers.{IsReach, IsSplit}
use Rattle.wrp_postman.specs.declared.search.Solved.{Solved}
use Rattle.wrp_postman.specs.Searches.{IsAnswer, IsAnswerOfSome}
use Rattle.wrp_postman.proofs.demo.solved_town.Goals as goal

some_answer : {E : Type 0} (town graph : Town) (budget : ℕ) (records : List Record) (result : Result Solved E) → graph ≡ town → IfOk result (IsAnswer graph budget records) → IfOk result (IsAnswerOfSome town budget)
some_answer town graph budget records (Ok solved) same answer = (records, subst (λ (t : Town). IsAnswer t budget records solved) same answer)
some_answer town graph budget records (Err fault) same answer = tt

pub returns-in-Split : goal.returns-in-Split
returns-in-Split c =
    let split : IsSplit c.in_ok-graph.graph c.in-Split.item = subst (λ (r : Reach). IsReach c.in_ok-graph.graph r) c.in-Split.is c.in_ok-labels.ensures.shown in
    (c.in-Split.item ∷ [], c.without_tour.ensures c.args.town.now c.in-Split.item c.args.budget (subst (λ (t : Town). IsSplit t c.in-Split.item) c.in_ok-graph.ensures split))

pub returns : goal.returns
returns c = some_answer c.args.town.now c.in_ok-graph.graph c.args.budget _ c.with_tour.result c.in_ok-graph.ensures c.with_tour.ensures
