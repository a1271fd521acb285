-- Bounds that are written along the way from a node to the root.
use Rattle.std.specs.Prelude.{◌≡◌, ℕ, ◌*◌, true, false, length, max, min, slice_index, slice_set}
use Rattle.wrp_town.specs.declared.town.Town.{Town}
use Rattle.wrp_town.specs.Arcs.{is_legal, demands}
use Rattle.wrp_nodes.specs.declared.kept.KeptNode.{KeptNode}
use Rattle.wrp_nodes.specs.declared.kept.Cut.{Cut}
use Rattle.wrp_nodes.specs.declared.kept.Cut.TheVariants.{AtLeast, AtMost}
use Rattle.wrp_rows.specs.declared.point.Bounds.{Bounds}

-- a least and a greatest number for each arc
pub record FitBounds (town : Town) (bounds : Bounds) : Type 0 where
  pub long_lo : length bounds.lo ≡ 2 * length town.streets
  pub long_hi : length bounds.hi ≡ 2 * length town.streets

-- from 0 to the number of demands, and to 0 at illegal arcs
pub record AreWhole (town : Town) (bounds : Bounds) : Type 0 where
  pub fit : FitBounds town bounds
  pub lo : (arc : ℕ) → slice_index bounds.lo arc ≡ 0
  pub legal : (arc : ℕ) → is_legal town arc ≡ true
      → slice_index bounds.hi arc ≡ length (demands town)
  pub illegal : (arc : ℕ) → is_legal town arc ≡ false → slice_index bounds.hi arc ≡ 0

-- the bounds with the range of one arc cut
abbrev pub cut_bounds : Cut → ℕ → Bounds → Bounds
cut_bounds (AtLeast k) arc bounds =
    record bounds { lo = slice_set bounds.lo arc (max (slice_index bounds.lo arc) k) }
cut_bounds (AtMost k) arc bounds =
    record bounds { hi = slice_set bounds.hi arc (min (slice_index bounds.hi arc) k) }

-- the range of the node's arc is cut
abbrev pub IsCut : KeptNode → Bounds → Bounds → Type 0
IsCut kept old new = new ≡ cut_bounds kept.cut kept.arc old
