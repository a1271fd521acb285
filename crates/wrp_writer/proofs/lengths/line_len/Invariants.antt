use Rattle.std.proofs.Common.{◌≡◌, ◌+◌, ◌*◌, ◌≤◌, ◌^◌, [], length, drop}
use Rattle.wrp_rules.specs.Lines.{spaced, line_with}
use Rattle.wrp_writer.specs.Seen.{content_seen, content_parts}
use Rattle.wrp_writer.proofs.lengths.line_len.Given as goal

abbrev pub invariant-loop-at : goal.invariant-loop-at
invariant-loop-at l = record {
  value : l.len + length (spaced [] (drop l.at (content_parts (content_seen l.content)))) ≡ length (line_with (content_seen l.content));
  small : l.len ≤ 2 ^ 64 + 100 * l.at;
}
