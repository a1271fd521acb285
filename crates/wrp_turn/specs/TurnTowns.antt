-- The turn town of a town and its bans. Each arc is a street there, between a junction before it
-- and one behind it, and so is each turn, from behind its first arc to before its second.
use Rattle.std.specs.Prelude.{◌≡◌, ℕ, ◌+◌, ◌*◌, ◌/◌, ◌≤◌, Bool, true, false, not, ◌==◌, ◌&&◌, ◌||◌, nat_lt, if◌then◌else◌, codes, List, [], ◌∷◌, ◌++◌, map, length, None, Some, is_some}
use Rattle.std.specs.List.{list_all, list_any, filter, flat_map, position_or_len, slice_index_or}
use Rattle.wrp_town.specs.declared.street.Need.{Need}
use Rattle.wrp_town.specs.declared.street.Need.TheVariants.{No, Either, Forward, Backward, Both}
use Rattle.wrp_town.specs.declared.street.Street.{Street}
use Rattle.wrp_town.specs.declared.street.Step.{Step}
use Rattle.wrp_town.specs.declared.town.Town.{Town}
use Rattle.wrp_town.specs.Limits.{junction_limit, street_limit}
use Rattle.wrp_town.specs.Names.{space}
use Rattle.wrp_town.specs.Arcs.{arcs, legal_arcs, demands, has_arc, cost_of, is_legal, step_along}
use Rattle.wrp_street.specs.Canonical.{name_at}
use Rattle.wrp_rules.specs.Lines.{step_text}
use Rattle.wrp_turn.specs.Turns.{is_turn}

-- the arc is in a demand
abbrev pub is_demanded : Town → ℕ → Bool
is_demanded town arc = list_any (λ demand. has_arc demand arc) (demands town)

-- the arc is the first of a demand none of whose arcs is legal
abbrev pub is_first_of : ℕ → List ℕ → Bool
is_first_of arc [] = false
is_first_of arc (first ∷ others) = first == arc

abbrev pub is_unservable : Town → ℕ → Bool
is_unservable town arc =
    list_any (λ demand. is_first_of arc demand && not (list_any (is_legal town) demand))
    (demands town)

-- the arcs that get a street of their own, ascending
abbrev pub arcs_of : Town → List ℕ
arcs_of town = filter (λ arc. is_legal town arc || is_unservable town arc) (arcs town)

-- the place of an arc among them
abbrev pub place_of : Town → ℕ → ℕ
place_of town arc = position_or_len (λ other. other == arc) (arcs_of town)

-- the arcs to which a turn goes from an arc, ascending, and these turns
abbrev pub seconds_of : Town → List (ℕ × ℕ) → ℕ → List ℕ
seconds_of town bans first = filter (is_turn town bans first) (legal_arcs town)

abbrev pub turns_from : Town → List (ℕ × ℕ) → ℕ → List (ℕ × ℕ)
turns_from town bans first = map (λ second. (first, second)) (seconds_of town bans first)

-- all turns, ascending
abbrev pub turns_of : Town → List (ℕ × ℕ) → List (ℕ × ℕ)
turns_of town bans = flat_map (turns_from town bans) (legal_arcs town)

-- an arc as a proof writes its step, and a turn as its two steps
abbrev pub arc_text : ℕ → List ℕ
arc_text arc = step_text (step_along arc)

abbrev pub turn_text : ℕ × ℕ → List ℕ
turn_text turn = arc_text turn.0 ++ space ∷ arc_text turn.1

-- arcs are below this
abbrev pub arc_limit : ℕ
arc_limit = 2 * street_limit

-- the junctions before and behind each arc, numbered by the places of the arcs
abbrev pub arc_ends : ℕ → List (List ℕ)
arc_ends arc = (arc_text arc ++ codes "i") ∷ (arc_text arc ++ codes "o") ∷ []

abbrev pub turn_junctions : Town → List (List ℕ)
turn_junctions town = flat_map arc_ends (arcs_of town)

abbrev pub before : Town → ℕ → ℕ
before town arc = 2 * place_of town arc

abbrev pub behind : Town → ℕ → ℕ
behind town arc = 2 * place_of town arc + 1

-- the name of the street of an arc
abbrev pub arc_name : Town → ℕ → List ℕ
arc_name town arc = name_at (map (λ street. street.name) town.streets) (arc / 2)

-- the street of an arc: one way, at the arc's cost, and required where the arc is in a demand
abbrev pub arc_street : Town → ℕ → Street
arc_street town arc = record {
  name = arc_name town arc;
  from = before town arc;
  to = behind town arc;
  forward = cost_of town arc;
  backward = None;
  need = if is_demanded town arc then Either else No;
}

-- the street of a turn: one way, free of cost
abbrev pub turn_street : Town → ℕ × ℕ → Street
turn_street town turn = record {
  name = turn_text turn;
  from = behind town turn.0;
  to = before town turn.1;
  forward = Some 0;
  backward = None;
  need = No;
}

-- the streets of the arcs, then those of the turns
abbrev pub turn_streets : Town → List (ℕ × ℕ) → List Street
turn_streets town bans =
    map (arc_street town) (arcs_of town) ++ map (turn_street town) (turns_of town bans)

-- the town of a town and its bans
pub record IsTurnTown (town : Town) (bans : List (ℕ × ℕ)) (big : Town) : Type 0 where
  pub junctions : big.junctions ≡ turn_junctions town
  pub streets : big.streets ≡ turn_streets town bans

-- how many junctions and streets it has
abbrev pub junctions_needed : Town → ℕ
junctions_needed town = 2 * length (arcs_of town)

abbrev pub streets_needed : Town → List (ℕ × ℕ) → ℕ
streets_needed town bans = length (arcs_of town) + length (turns_of town bans)

-- it keeps the limits
pub record FitsTurns (town : Town) (bans : List (ℕ × ℕ)) : Type 0 where
  pub few_junctions : junctions_needed town ≤ junction_limit
  pub few_streets : streets_needed town bans ≤ street_limit

-- a street that may be driven either way, with two legal directions
abbrev pub is_either : Need → Bool
is_either No = false
is_either Either = true
is_either Forward = false
is_either Backward = false
is_either Both = false

abbrev pub has_choice : Street → Bool
has_choice street = is_either street.need && (is_some street.forward && is_some street.backward)

-- no street has a choice, so that each required arc has a demand of its own
abbrev pub can_turn : Town → Bool
can_turn town = list_all (λ street. not (has_choice street)) town.streets

-- the steps along the arcs whose streets a walk uses, in order
abbrev pub drop_turns : List ℕ → List Step → List Step
drop_turns own steps =
    map (λ step. step_along (slice_index_or own step.street 0))
    (filter (λ step. nat_lt step.street (length own)) steps)
