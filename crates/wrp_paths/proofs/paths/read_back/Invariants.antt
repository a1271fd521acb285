use Rattle.std.proofs.Common.{◌≡◌, ◌-◌, ◌++◌, reverse}
use Rattle.wrp_paths.specs.Arrivals.{steps_to}
use Rattle.wrp_paths.proofs.paths.read_back.Given as goal

abbrev pub invariant-loop : goal.invariant-loop
invariant-loop l = steps_to l.table (l.hops - l.counter) l.at ++ reverse l.steps.items ≡ steps_to l.table l.hops l.j
