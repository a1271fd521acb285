use Rattle.std.proofs.Common.{◌≡◌, ℕ, ◌<◌, ◌≤◌, length, get_or}
use Rattle.wrp_grammar.proofs.faults.shared.Given as goal

abbrev pub invariant-loop-place : goal.invariant-loop-place
invariant-loop-place l = record {
  within : l.place ≤ length l.line;
  same : (k : ℕ) → k < l.place → get_or l.line k 0 ≡ get_or l.text k 0;
}
