use Rattle.std.proofs.Common.{◌≡◌, drop}
use Rattle.std.specs.List.{list_any}
use Rattle.wrp_town.specs.Streets.{demands_from}
use Rattle.wrp_town.specs.Arcs.{demands}
use Rattle.wrp_tour.specs.Thinning.{is_new}
use Rattle.wrp_tour.proofs.thinning.adds_service.Given as goal

-- only the streets that are left may have such a demand
abbrev pub invariant-loop-street : goal.invariant-loop-street
invariant-loop-street l =
    list_any (is_new l.piece l.kept) (demands_from l.street (drop l.street l.town.streets)) ≡ list_any (is_new l.piece l.kept) (demands l.town)
