use Rattle.std.proofs.Common.{◌≡◌, ℕ, ◌<◌, true, false, length, get_or}
use Rattle.wrp_town.specs.Arcs.{is_legal, demands}
use Rattle.wrp_tree.specs.Boxes.{FitBounds}
use Rattle.wrp_tree.proofs.boxes.widen.Given as goal

-- the ranges so far are whole
abbrev pub invariant-loop-arc : goal.invariant-loop-arc
invariant-loop-arc l = record {
  fit : FitBounds l.town l.into;
  lo : (arc : ℕ) → arc < l.arc → get_or l.into.lo arc 0 ≡ 0;
  legal : (arc : ℕ) → arc < l.arc → is_legal l.town arc ≡ true → get_or l.into.hi arc 0 ≡ length (demands l.town);
  illegal : (arc : ℕ) → arc < l.arc → is_legal l.town arc ≡ false → get_or l.into.hi arc 0 ≡ 0;
}
