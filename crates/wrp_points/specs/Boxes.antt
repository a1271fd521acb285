-- Numbers over a denominator in the ranges of a box.
use Rattle.std.specs.Prelude.{◌≡◌, ℕ, ◌*◌, Bool, true, false, ◌&&◌, nat_le, List, slice_index}
use Rattle.wrp_nodes.specs.declared.kept.KeptNode.{KeptNode}
use Rattle.wrp_nodes.specs.declared.kept.UseRange.{UseRange}
use Rattle.wrp_nodes.specs.declared.boxes.Boxes.{Boxes}
use Rattle.wrp_nodes.specs.Tables.{range_at, IsCutAbove}

-- the number is in the range, times the denominator
abbrev pub allows : UseRange → ℕ → ℕ → Bool
allows range denominator number =
    nat_le (range.lo * denominator) number && nat_le number (range.hi * denominator)

-- the number of the arc in the table is in the arc's range
abbrev pub allows_at : Boxes → ℕ → List ℕ → ℕ → Bool
allows_at boxes denominator table arc = allows (range_at boxes arc) denominator (slice_index table arc)

-- every arc that is cut on the way from a node to the root passes the test, or one doesn't
abbrev pub PassAbove : List KeptNode → ℕ → (ℕ → Bool) → Bool → Type 0
PassAbove kept node test true = (arc : ℕ) → IsCutAbove kept arc node → test arc ≡ true
PassAbove kept node test false = (arc : ℕ) × IsCutAbove kept arc node × (test arc ≡ false)
