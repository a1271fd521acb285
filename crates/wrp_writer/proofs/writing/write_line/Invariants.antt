use Rattle.std.proofs.Common.{◌≡◌, drop}
use Rattle.wrp_rules.specs.Lines.{spaced, line_with}
use Rattle.wrp_writer.specs.Seen.{content_seen, content_parts}
use Rattle.wrp_writer.proofs.writing.write_line.Given as goal

abbrev pub invariant-loop-at : goal.invariant-loop-at
invariant-loop-at l = let c = content_seen l.content in spaced l.line.items (drop l.at (content_parts c)) ≡ line_with c
