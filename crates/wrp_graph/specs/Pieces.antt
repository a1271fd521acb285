-- Which junctions some of the arcs of a town join, whatever their directions.
use Rattle.std.specs.Prelude.{◌≡◌, ℕ, ◌*◌, ◌<◌, Bool, true, length}
use Rattle.wrp_town.specs.declared.town.Town.{Town}
use Rattle.wrp_town.specs.Arcs.{tail_of, head_of}

-- arcs that are taken lead from one junction to another, each of them forward or back
pub data Joined (town : Town) (taken : ℕ → Bool) : ℕ → ℕ → Type 0 where
  -- a junction is joined with itself
  here : (j : ℕ) → Joined town taken j j
  -- from the tail of an arc to its head, and on
  along : (arc k : ℕ) → arc < 2 * length town.streets → taken arc ≡ true
      → Joined town taken (head_of town arc) k → Joined town taken (tail_of town arc) k
  -- from the head of an arc to its tail, and on
  against : (arc k : ℕ) → arc < 2 * length town.streets → taken arc ≡ true
      → Joined town taken (tail_of town arc) k → Joined town taken (head_of town arc) k
