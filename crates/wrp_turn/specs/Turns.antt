-- Bans: pairs of arcs that must not follow each other. A turning tour is one that keeps the bans.
use Rattle.std.specs.Prelude.{◌≡◌, ℕ, ◌^◌, ◌≤◌, Bool, true, not, ◌==◌, ◌&&◌, nat_le, List, [], ◌∷◌, length}
use Rattle.std.specs.List.{list_all, list_any}
use Rattle.wrp_town.specs.declared.street.Step.{Step}
use Rattle.wrp_town.specs.declared.town.Town.{Town}
use Rattle.wrp_town.specs.Arcs.{is_legal, tail_of, head_of, arc_of}
use Rattle.wrp_town.specs.Walks.{is_tour, walk_cost}

-- the most bytes of a file of bans, and so more than its bans
abbrev pub file_limit : ℕ
file_limit = 2 ^ 20

-- a pair of arcs is among the bans
abbrev pub is_banned : List (ℕ × ℕ) → ℕ → ℕ → Bool
is_banned bans first second = list_any (λ ban. (ban.0 == first) && (ban.1 == second)) bans

-- two legal arcs, the second of which begins where the first ends
abbrev pub follows : Town → ℕ → ℕ → Bool
follows town first second =
    is_legal town first && (is_legal town second && (head_of town first == tail_of town second))

-- pairs of arcs that follow each other, no more than a file holds
abbrev pub are_bans : Town → List (ℕ × ℕ) → Bool
are_bans town bans =
    list_all (λ ban. follows town ban.0 ban.1) bans && nat_le (length bans) file_limit

-- a turn from one arc to another that no ban forbids
abbrev pub is_turn : Town → List (ℕ × ℕ) → ℕ → ℕ → Bool
is_turn town bans first second = follows town first second && not (is_banned bans first second)

-- from the arc before these steps to the arc behind them no turn is banned
abbrev pub turns_kept : List (ℕ × ℕ) → ℕ → List Step → ℕ → Bool
turns_kept bans before [] behind = not (is_banned bans before behind)
turns_kept bans before (step ∷ steps) behind =
    not (is_banned bans before (arc_of step)) && turns_kept bans (arc_of step) steps behind

-- no turn of a closed walk is banned, nor is the one from its last step to its first
abbrev pub keeps_bans : List (ℕ × ℕ) → List Step → Bool
keeps_bans bans [] = true
keeps_bans bans (step ∷ steps) = turns_kept bans (arc_of step) steps (arc_of step)

-- a tour that keeps the bans
abbrev pub is_turning_tour : Town → List (ℕ × ℕ) → List Step → Bool
is_turning_tour town bans steps = is_tour town steps && keeps_bans bans steps

-- a turning tour of this cost is there, and none costs less
pub record IsLeastTurning (town : Town) (bans : List (ℕ × ℕ)) (cost : ℕ) : Type 0 where
  pub steps : List Step
  pub tour : is_turning_tour town bans steps ≡ true
  pub attained : walk_cost town steps ≡ cost
  pub least : (steps : List Step) → is_turning_tour town bans steps ≡ true
      → cost ≤ walk_cost town steps

-- no tour keeps the bans
abbrev pub HasNoTurningTour : Town → List (ℕ × ℕ) → Type 0
HasNoTurningTour town bans = (steps : List Step) → is_turning_tour town bans steps ≡ true → ⊥
