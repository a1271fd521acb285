use Rattle.std.proofs.Common.{◌≡◌, ℕ, ◌*◌, ◌<◌, false, true, ◌||◌, length, get_or}
use Rattle.wrp_check.specs.Marks.{are_in_range, drives}
use Rattle.wrp_check.proofs.tour.mark_arcs.Given as goal

-- an arc is marked or driven by a step ahead just where a step drives it
abbrev pub invariant-loop-step : goal.invariant-loop-step
invariant-loop-step l = record {
  room : length l.used ≡ 2 * length l.town.streets;
  in_range : are_in_range l.town l.ahead ≡ true;
  marks : (arc : ℕ) → arc < length l.used → (get_or l.used arc false || drives l.ahead arc) ≡ drives l.steps arc;
}

abbrev pub decreases-loop-step : goal.decreases-loop-step
decreases-loop-step l = length l.ahead
