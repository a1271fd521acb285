use Rattle.std.proofs.Common.{rules, append_assoc}
use Rattle.wrp_report.proofs.lines.tabbed.Goals as goal

pub returns : goal.returns
returns c = search (rules, append_assoc)
