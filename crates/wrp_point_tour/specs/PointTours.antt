-- Points whose numbers are those of a tour, and what a tour costs beside a point.
use Rattle.std.specs.Prelude.{◌≡◌, ℕ, ◌*◌, ◌≤◌, pos, List, length, slice_index_or, unsigned_abs}
use Rattle.std.specs.List.{sum_by}
use Rattle.wrp_town.specs.declared.street.Step.{Step}
use Rattle.wrp_town.specs.declared.town.Town.{Town}
use Rattle.wrp_town.specs.Arcs.{cost_or_zero, demands, legal_arcs}
use Rattle.wrp_town.specs.Walks.{walk_cost}
use Rattle.wrp_webs.specs.TownWebs.{IsBalanced, MeetsServices}
use Rattle.wrp_rows.specs.declared.point.Point.{Point}
use Rattle.wrp_odd.specs.Points.{numbers_of}
use Rattle.wrp_conn.specs.Conns.{IsConnected}

-- the number of the arc is that often the denominator
abbrev pub IsTimes : Point → ℕ → ℕ → Type 0
IsTimes point arc k = slice_index_or point.at arc (pos 0) ≡ pos (k * unsigned_abs point.den)

-- each number is a whole number of times the denominator, from 0 to the most
abbrev pub IsWhole : Point → ℕ → Type 0
IsWhole point most = (arc : ℕ) → (k : ℕ) × (k ≤ most) × IsTimes point arc k

-- a whole point that is balanced, serves each demand and meets the connectivity rows over sets that
-- no required street crosses
pub record IsTourPoint (town : Town) (point : Point) : Type 0 where
  pub whole : IsWhole point (length (demands town))
  pub balanced : IsBalanced town (numbers_of point)
  pub services : MeetsServices town (unsigned_abs point.den) (numbers_of point)
  pub connected : IsConnected town point

-- the steps cost no more than the point over its denominator
abbrev pub CostsAtMost : Town → Point → List Step → Type 0
CostsAtMost town point steps =
    walk_cost town steps * unsigned_abs point.den
    ≤ sum_by (λ arc. cost_or_zero town arc * numbers_of point arc) (legal_arcs town)
