use Rattle.std.proofs.Common.{◌≡◌, [], take}
use Rattle.std.specs.List.{fold}
use Rattle.wrp_report.specs.Lists.{tour_after}
use Rattle.wrp_postman.proofs.search.last_tour.Given as goal

-- the steps are those of the last tour so far
abbrev pub invariant-loop-item : goal.invariant-loop-item
invariant-loop-item l = l.steps ≡ fold tour_after [] (take l.item-index l.records)
