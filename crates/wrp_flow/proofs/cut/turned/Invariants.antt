use Rattle.std.proofs.Common.{◌≡◌, ◌<◌, ℕ, length, get_or}
use Rattle.wrp_flow.specs.Sides.{twin_of}
use Rattle.wrp_flow.proofs.cut.turned.Given as goal

abbrev pub invariant-loop-side : goal.invariant-loop-side
invariant-loop-side l = record {
  long : length l.new.items ≡ l.side;
  is : (k : ℕ) → k < l.side → get_or l.new.items k 0 ≡ get_or l.room (twin_of k) 0;
}
