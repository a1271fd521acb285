-- What a turn adds.
use Rattle.std.proofs.Common.{◌≡◌, ℕ, arith}
use Rattle.std.specs.Prelude.{⊤}
use Rattle.wrp_keep.specs.Keeps.{KeepState}
use Rattle.wrp_engine.specs.declared.left.Left.{Left}
use Rattle.wrp_engine.specs.Additions.{Adds, AddsWhere}
use Rattle.wrp_engine.specs.Turns.{IsRoundedLeft, EndsRounds}
use Rattle.wrp_engine.proofs.Adding.{where_then}

pub turn_adds : (a b c : KeepState) (node : ℕ) (left : Left) → b.town ≡ a.town → EndsRounds a b node left → AddsWhere (IsRoundedLeft b node left) 2 1 b c → Adds 4 2 a c
turn_adds a b c node left town ends adds =
    where_then (λ _. ⊤) (IsRoundedLeft b node left) 2 2 1 1 a b c town ends.adds.adds
    (λ entry added at here opened few. ends.rounded opened (omega (arith, ends.adds.cuts added, few)))
    adds
