use Rattle.wrp_check.proofs.FirstLines.{no_feed}
use Rattle.std.proofs.Common.{sym}
use Rattle.wrp_check.proofs.lines.line_length.Goals as goal

pub returns-in-None-clause-count : goal.returns-in-None-clause-count
returns-in-None-clause-count c = no_feed c.args.bytes.now (sym c.in-None.ensures)
