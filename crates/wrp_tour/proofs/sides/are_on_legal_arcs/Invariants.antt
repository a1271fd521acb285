use Rattle.std.proofs.Common.{◌≡◌, ℕ, ◌<◌, false, slice_index}
use Rattle.wrp_town.specs.Arcs.{is_legal}
use Rattle.wrp_tour.proofs.sides.are_on_legal_arcs.Given as goal

abbrev pub invariant-loop-arc : goal.invariant-loop-arc
invariant-loop-arc l = (k : ℕ) → k < l.arc → is_legal l.town k ≡ false → slice_index l.counts k ≡ 0
