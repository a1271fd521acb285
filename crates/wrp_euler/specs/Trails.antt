-- A trail over a town: what it keeps, how one step changes it, and what it has when it ends.
use Rattle.std.specs.Prelude.{◌≡◌, ℕ, ◌+◌, ◌-◌, ◌*◌, ◌<◌, ◌≤◌, Bool, true, cond, ◌⊎◌, List, [], ◌∷◌, ◌++◌, length, reverse, slice_index, slice_set}
use Rattle.wrp_town.specs.declared.street.Step.{Step}
use Rattle.wrp_town.specs.declared.town.Town.{Town}
use Rattle.wrp_town.specs.Arcs.{arc_of, tail_of, head_of, is_legal}
use Rattle.wrp_town.specs.Walks.{leads, count_of}
use Rattle.wrp_graph.specs.Stars.{out_of}
use Rattle.wrp_euler.specs.declared.trail.Trail.{Trail}
use Rattle.wrp_graph.specs.Balances.{leaving}

-- a legal arc that begins at the junction is left
pub record IsOpen (town : Town) (left : List ℕ) (at arc : ℕ) : Type 0 where
  pub legal : is_legal town arc ≡ true
  pub begins : tail_of town arc ≡ at
  pub remains : 0 < slice_index left arc

-- a place for each junction, before which none of the arcs that leave it is left
pub record ArePlaces (town : Town) (left next : List ℕ) : Type 0 where
  pub each : length next ≡ length town.junctions
  pub within : (j : ℕ) → slice_index next j ≤ length (out_of town j)
  pub passed : (j k : ℕ) → k < slice_index next j
      → slice_index left (slice_index (out_of town j) k) ≡ 0

-- the path leads from the base to the current junction, and there are places for what is left
pub record IsTrail (town : Town) (trail : Trail) : Type 0 where
  pub there : trail.at < length town.junctions
  pub sized : length trail.left.items ≡ 2 * length town.streets
  pub places : ArePlaces town trail.left.items trail.next.items
  pub goes : leads town trail.base trail.path.items trail.at ≡ true

-- the trail of no steps
pub record IsStart (town : Town) (counts : List ℕ) (base : ℕ) (trail : Trail) : Type 0 where
  pub kept : IsTrail town trail
  pub left : trail.left.items ≡ counts
  pub path : trail.path.items ≡ []
  pub done : trail.done.items ≡ []
  pub begins : trail.base ≡ base
  pub at : trail.at ≡ base

-- the trail goes on along an arc that is left
pub record GoesOn (town : Town) (old new : Trail) : Type 0 where
  pub step : Step
  pub open_arc : IsOpen town old.left.items old.at (arc_of step)
  pub left : new.left.items
      ≡ slice_set old.left.items (arc_of step) (slice_index old.left.items (arc_of step) - 1)
  pub places : ArePlaces town new.left.items new.next.items
  pub path : new.path.items ≡ old.path.items ++ step ∷ []
  pub done : new.done.items ≡ old.done.items
  pub base : new.base ≡ old.base
  pub at : new.at ≡ head_of town (arc_of step)

-- where no arc is left, the trail takes the last step of its path back
pub record GoesBack (town : Town) (old new : Trail) : Type 0 where
  pub step : Step
  pub stuck : leaving town old.left.items old.at ≡ 0
  pub left : new.left.items ≡ old.left.items
  pub places : ArePlaces town new.left.items new.next.items
  pub path : old.path.items ≡ new.path.items ++ step ∷ []
  pub done : new.done.items ≡ old.done.items ++ step ∷ []
  pub base : new.base ≡ old.base
  pub at : new.at ≡ tail_of town (arc_of step)

-- where no arc is left and the path has no step, the trail ends
pub record IsOver (town : Town) (old new : Trail) : Type 0 where
  pub stuck : leaving town old.left.items old.at ≡ 0
  pub path : old.path.items ≡ []
  pub left : new.left.items ≡ old.left.items
  pub done : new.done.items ≡ old.done.items
  pub base : new.base ≡ old.base
  pub at : new.at ≡ old.at

-- one turn of a trail, and whether it went on or back
abbrev pub Turns : Town → Trail → Trail → Bool → Type 0
Turns town old new went =
    cond went (GoesOn town old new ⊎ GoesBack town old new) (IsOver town old new)

-- what a trail has at its end: the steps, from the last to the first, are a walk from the base back
-- to it, these and what is left are the counts, and no arc is left at a junction of the walk
pub record IsPiece (town : Town) (counts : List ℕ) (base : ℕ) (left : List ℕ) (done : List Step)
    : Type 0 where
  pub sized : length left ≡ 2 * length town.streets
  pub closed : leads town base (reverse done) base ≡ true
  pub counted : (arc : ℕ) → slice_index left arc + count_of done arc ≡ slice_index counts arc
  pub base_spent : leaving town left base ≡ 0
  pub heads_spent : (arc : ℕ) → 0 < count_of done arc → leaving town left (head_of town arc) ≡ 0
