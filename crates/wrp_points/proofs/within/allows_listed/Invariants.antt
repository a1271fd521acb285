use Rattle.std.proofs.Common.{◌≡◌, drop}
use Rattle.std.specs.List.{list_all}
use Rattle.wrp_points.specs.Boxes.{allows_at}
use Rattle.wrp_points.proofs.within.allows_listed.Given as goal

-- those that come decide
abbrev pub invariant-loop-pair : goal.invariant-loop-pair
invariant-loop-pair l =
    list_all (λ q. allows_at l.boxes l.denominator l.table q.0) (drop l.pair-index l.numbers)
    ≡ list_all (λ q. allows_at l.boxes l.denominator l.table q.0) l.numbers
