-- A tour is made thinner: where it comes back to an arc, pieces that serve nothing new are left out.
use Rattle.std.specs.Prelude.{◌≡◌, ℕ, ◌<◌, ◌≤◌, Bool, true, false, ◌&&◌, not, List, take, drop, length, slice_index_or}
use Rattle.std.specs.List.{Contains, list_any, count_by}
use Rattle.wrp_town.specs.declared.street.Step.{Step}
use Rattle.wrp_town.specs.declared.town.Town.{Town}
use Rattle.wrp_town.specs.Arcs.{arc_of, tail_of, demands}
use Rattle.wrp_town.specs.Walks.{leads, serves, is_tour, walk_cost, count_of}

-- a tour that costs no more than another and uses no arc more often
pub record IsThinner (town : Town) (old new : List Step) : Type 0 where
  pub tour : is_tour town new ≡ true
  pub cost : walk_cost town new ≤ walk_cost town old
  pub counts : (arc : ℕ) → count_of new arc ≤ count_of old arc

-- some steps serve the demand and others don't
abbrev pub is_new : List Step → List Step → List ℕ → Bool
is_new piece kept demand = serves piece demand && not (serves kept demand)

-- they serve a demand that the others don't
abbrev pub adds_service : Town → List Step → List Step → Bool
adds_service town piece kept = list_any (is_new piece kept) (demands town)

-- the step at a place, and whether it is there and drives the arc
abbrev pub step_at : List Step → ℕ → Step
step_at steps k = slice_index_or steps k (record { street = 0; back = false })

-- the place is the next one behind the start where the arc is driven, or the end
pub record IsPieceEnd (steps : List Step) (arc start end : ℕ) : Type 0 where
  pub behind : start < end
  pub within : end ≤ length steps
  pub next : end < length steps → arc_of (step_at steps end) ≡ arc
  pub none : (k : ℕ) → start < k → k < end → arc_of (step_at steps k) ≡ arc → ⊥

-- steps that lead from the tail of an arc back to it and begin with the arc
pub record IsTurned (town : Town) (arc : ℕ) (steps : List Step) : Type 0 where
  pub some : 0 < length steps
  pub first : arc_of (step_at steps 0) ≡ arc
  pub closed : leads town (tail_of town arc) steps (tail_of town arc) ≡ true

-- what is kept of the steps before a place, where a piece begins or the steps end
pub record IsKept (town : Town) (arc : ℕ) (steps : List Step) (start : ℕ) (kept : List Step)
    : Type 0 where
  pub within : start ≤ length steps
  pub next : start < length steps → arc_of (step_at steps start) ≡ arc
  pub rest : leads town (tail_of town arc) (drop start steps) (tail_of town arc) ≡ true
  pub closed : leads town (tail_of town arc) kept (tail_of town arc) ≡ true
  -- each use of the arc that is kept has a demand of its own
  pub few : count_of kept arc ≤ count_by (serves kept) (demands town)
  pub counts : (b : ℕ) → count_of kept b ≤ count_of (take start steps) b
  pub cost : walk_cost town kept ≤ walk_cost town (take start steps)
  pub served : (demand : List ℕ) → Contains (demands town) demand
      → serves (take start steps) demand ≡ true → serves kept demand ≡ true

-- a use of the arc, before which it isn't used
pub record IsFirstUse (steps : List Step) (arc at : ℕ) : Type 0 where
  pub there : at < length steps
  pub drives : arc_of (step_at steps at) ≡ arc
