-- Why a town and its bans have no turn town.
use Rattle.std.specs.Prelude.{ℕ, Bool, not, ◌&&◌, nat_le, if◌then◌else◌, List, Option, None, Some}
use Rattle.std.specs.List.{position_or_len}
use Rattle.wrp_town.specs.declared.town.Town.{Town}
use Rattle.wrp_town.specs.Limits.{junction_limit, street_limit}
use Rattle.wrp_turn.specs.declared.fault.TurnFault.{TurnFault}
use Rattle.wrp_turn.specs.declared.fault.TurnFault.TheVariants as faults
use Rattle.wrp_turn.specs.TurnTowns.{has_choice, can_turn, junctions_needed, streets_needed}

-- the first street with a choice
abbrev pub first_choice : Town → ℕ
first_choice town = position_or_len has_choice town.streets

-- the turn town would keep the limits
abbrev pub fits_turns : Town → List (ℕ × ℕ) → Bool
fits_turns town bans =
    nat_le (junctions_needed town) junction_limit
    && nat_le (streets_needed town bans) street_limit

-- a street has a choice, or else the turn town would be too large
abbrev pub refusal_of : Town → List (ℕ × ℕ) → Option TurnFault
refusal_of town bans =
    if not (can_turn town) then Some (faults.Either (first_choice town))
    else if not (fits_turns town bans)
    then Some (faults.Size (junctions_needed town) (streets_needed town bans))
    else None
