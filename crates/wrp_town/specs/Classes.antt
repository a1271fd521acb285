-- The class of a town: which of its streets have one direction, or two of equal cost.
use Rattle.std.specs.Prelude.{ℕ, Bool, false, ◌||◌, ◌==◌, if◌then◌else◌, length, Option, Some}
use Rattle.std.specs.Option.{is_none}
use Rattle.std.specs.List.{list_all}
use Rattle.wrp_town.specs.declared.class.Class.{Class}
use Rattle.wrp_town.specs.declared.class.Class.TheVariants.{Empty, Directed, Rural, Mixed, Windy}
use Rattle.wrp_town.specs.declared.street.Street.{Street}
use Rattle.wrp_town.specs.declared.town.Town.{Town}
use Rattle.wrp_town.specs.Arcs.{demands}

-- a street of at most one legal direction
abbrev pub has_one_direction_at_most : Street → Bool
has_one_direction_at_most street = is_none street.forward || is_none street.backward

-- both directions are legal, at equal cost
abbrev pub cost_alike : Option ℕ → Option ℕ → Bool
cost_alike (Some there) (Some back) = there == back
cost_alike _ _ = false

-- a street of two legal directions of equal cost
abbrev pub is_symmetric : Street → Bool
is_symmetric street = cost_alike street.forward street.backward

-- a street of at most one legal direction, or two of equal cost
abbrev pub is_directed_or_symmetric : Street → Bool
is_directed_or_symmetric street = has_one_direction_at_most street || is_symmetric street

-- the class of a town: the first of these that holds
abbrev pub class_of : Town → Class
class_of town =
    if length (demands town) == 0 then Empty
    else if list_all has_one_direction_at_most town.streets then Directed
    else if list_all is_symmetric town.streets then Rural
    else if list_all is_directed_or_symmetric town.streets then Mixed
    else Windy
