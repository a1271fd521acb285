use Rattle.std.proofs.Common.{ℕ, ◌<◌, ◌≤◌, length}
use Rattle.wrp_town.specs.Arcs.{demands}
use Rattle.wrp_town.specs.Walks.{count_of}
use Rattle.wrp_tour.specs.Thinning.{IsThinner}
use Rattle.wrp_tour.proofs.thinning.thinned.Given as goal

-- the arcs so far are used seldom enough
abbrev pub invariant-loop-arc : goal.invariant-loop-arc
invariant-loop-arc l = record {
  thinner : IsThinner l.town l.fn.steps l.thin;
  few : (a : ℕ) → a < l.arc → count_of l.thin a ≤ length (demands l.town);
}
