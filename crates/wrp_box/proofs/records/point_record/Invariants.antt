use Rattle.std.proofs.Common.{◌≡◌, ℕ, ◌==◌, not, map}
use Rattle.std.specs.List.{filter, range_with_len}
use Rattle.wrp_odd.specs.Points.{numbers_of}
use Rattle.wrp_box.proofs.records.point_record.Given as goal

abbrev pub invariant-loop-arc : goal.invariant-loop-arc
invariant-loop-arc l =
    l.numbers ≡ filter (λ (q : ℕ × ℕ). not (q.1 == 0)) (map (λ (arc : ℕ). (arc, numbers_of l.point arc)) (range_with_len 0 l.arc))
