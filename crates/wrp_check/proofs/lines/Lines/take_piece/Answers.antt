use Rattle.std.proofs.Common.{◌-◌, take, drop, arith, rules}
use Rattle.std.proofs.lemmas.Grind.{common_steps}
use Rattle.wrp_check.specs.Streams.{line_len}
use Rattle.wrp_check.proofs.FirstLines.{chunk_rest}
use Rattle.wrp_check.proofs.lines.Lines.take_piece.Goals as goal

pub returns-clause-piece : goal.returns-clause-piece
returns-clause-piece c =
    let inside = c.self.inside in
    let pending = take (inside.end - inside.at) (drop inside.at inside.chunk.items) in
    let count = rw c.deref.ensures.value at c.line_length-count.ensures.count in
    let size = rw (count, c.deref.ensures.value) at c.min-size.ensures in
    record {
      line = first_of (search rules, grind (arith, common_steps));
      pending = rw (← c.self.view_is) (chunk_rest inside.chunk.items inside.at inside.end (line_len pending) c.min-size.result c.self.invariant.in_order c.self.invariant.inside size);
      taken = first_of (search rules, grind (arith, common_steps));
      most = first_of (search rules, grind (arith, common_steps));
      within = first_of (search rules, grind (arith, common_steps));
      has_feed = first_of (search rules, grind (arith, common_steps));
    }
