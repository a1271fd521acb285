-- The steps of a tour, and the marks of a checker: one for each arc.
use Rattle.std.specs.Prelude.{◌≡◌, ◌==◌, ℕ, nat_lt, Bool, false, List, length, EachIndex, slice_index_or}
use Rattle.std.specs.List.{list_all, list_any}
use Rattle.wrp_town.specs.declared.street.Step.{Step}
use Rattle.wrp_town.specs.declared.town.Town.{Town}
use Rattle.wrp_town.specs.Arcs.{arc_of}

-- each step names a street of the town
abbrev pub are_in_range : Town → List Step → Bool
are_in_range town steps = list_all (λ step. nat_lt step.street (length town.streets)) steps

-- a step drives the arc
abbrev pub drives : List Step → ℕ → Bool
drives steps arc = list_any (λ step. arc_of step == arc) steps

-- the arcs that are marked are those that a step drives
abbrev pub MarkArcs : List Bool → List Step → Type 0
MarkArcs used steps = EachIndex used (λ arc. slice_index_or used arc false ≡ drives steps arc)
