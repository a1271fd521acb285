use Rattle.std.proofs.Common.{◌≡◌, ◌++◌, ◌∷◌, map, take, codes, length}
use Rattle.wrp_report.specs.Texts.{text_of, number_line, step_line}
use Rattle.wrp_report.proofs.reports.push_walk.Given as goal

-- the lines of the steps so far are there
abbrev pub invariant-loop-step : goal.invariant-loop-step
invariant-loop-step l = l.text.items ≡ l.fn.text.items ++ text_of (number_line (codes "steps") (length l.steps) ∷ map (step_line l.town) (take l.step-index l.steps))
