-- A flow that can't grow, and the nodes with marks as a list.
use Rattle.std.specs.Prelude.{◌≡◌, ℕ, ◌<◌, false, List, length, slice_index}
use Rattle.wrp_flow.specs.declared.net.Net.{Net}
use Rattle.wrp_flow.specs.declared.cut.Grown.{Grown}
use Rattle.wrp_flow.specs.Sides.{sides, twin_of, IsResidual}
use Rattle.wrp_flow.specs.Searches.{is_marked, IsClosed, AreReached}

-- what the source reaches along sides with room can't be left along one, and the sink isn't there
pub record IsGrown (net : Net) (s t : ℕ) (grown : Grown) : Type 0 where
  pub residual : IsResidual net s t grown.value grown.room.items
  pub reached : AreReached net grown.room.items s grown.reach.marks.items
  pub closed : IsClosed net grown.room.items (is_marked grown.reach.marks.items)
  pub leaves_out : is_marked grown.reach.marks.items t ≡ false

-- the room of each side as that of the other side of its arc
pub record IsTurned (net : Net) (old new : List ℕ) : Type 0 where
  pub long : length new ≡ length old
  pub is : (side : ℕ) → side < sides net → slice_index new side ≡ slice_index old (twin_of side)
