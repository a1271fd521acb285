-- What is reported of a list of records and an end.
use Rattle.std.specs.Prelude.{◌≡◌, ℕ, Bool, true, false, List, [], length}
use Rattle.std.specs.List.{fold, count_by}
use Rattle.wrp_town.specs.declared.street.Step.{Step}
use Rattle.wrp_town.specs.declared.town.Town.{Town}
use Rattle.wrp_town.specs.Walks.{is_tour, walk_cost}
use Rattle.wrp_rules.specs.declared.record.Record.{Record}
use Rattle.wrp_rules.specs.declared.record.Record.TheVariants.{Tour, Blind}
use Rattle.wrp_rules.specs.declared.record.End.{End}
use Rattle.wrp_rules.specs.declared.record.End.TheVariants.{Optimal, Infeasible, Unfinished}
use Rattle.wrp_rules.specs.Nodes.{standing, done}
use Rattle.wrp_rules.specs.Rules.{is_cut}
use Rattle.wrp_report.specs.declared.answer.Answer.{Answer}

abbrev pub is_blind : Record → Bool
is_blind (Blind node) = true
is_blind item = false

-- the steps of the last tour of a list, none before the first
abbrev pub tour_after : List Step → Record → List Step
tour_after steps (Tour cost new) = new
tour_after steps item = steps

abbrev pub last_tour : List Record → List Step
last_tour records = fold tour_after [] records

-- the answer that a list and its end give
abbrev pub answer_of : Town → List Record → End → Answer
answer_of town records end = record {
  end = end;
  nodes = length (standing town records).nodes;
  done = done (standing town records);
  cuts = count_by is_cut records;
  blind = count_by is_blind records;
  steps = last_tour records;
}

-- the steps are a tour of this cost
pub record IsTourOfCost (town : Town) (steps : List Step) (cost : ℕ) : Type 0 where
  pub tour : is_tour town steps ≡ true
  pub costs : walk_cost town steps ≡ cost

-- the steps are a tour of the cost that the end names, where it names one
abbrev pub WalksTo : Town → End → List Step → Type 0
WalksTo town (Optimal cost) steps = IsTourOfCost town steps cost
WalksTo town (Unfinished low high) steps = IsTourOfCost town steps high
WalksTo town Infeasible steps = Unit {0}
