use Rattle.std.proofs.Common.{◌≡◌, drop, List}
use Rattle.std.specs.List.{list_all}
use Rattle.wrp_town.specs.declared.street.Step.{Step}
use Rattle.wrp_town.specs.Streets.{demands_from}
use Rattle.wrp_town.specs.Walks.{serves, serves_all}
use Rattle.wrp_check.specs.Marks.{MarkArcs}
use Rattle.wrp_check.proofs.tour.are_served.Given as goal

-- the demands of the streets ahead decide
abbrev pub invariant-loop-i : goal.invariant-loop-i
invariant-loop-i l =
    (steps : List Step) → MarkArcs l.used steps → list_all (serves steps) (demands_from l.i (drop l.i l.town.streets)) ≡ serves_all l.town steps
