use Rattle.std.proofs.Common.{◌≡◌, ℕ, ◌<◌, false}
use Rattle.wrp_town.specs.Arcs.{is_required}
use Rattle.wrp_point_tour.proofs.whole.first_required.Given as goal

-- no street so far is required
abbrev pub invariant-loop-street : goal.invariant-loop-street
invariant-loop-street l = (k : ℕ) → k < l.street → is_required l.town k ≡ false
