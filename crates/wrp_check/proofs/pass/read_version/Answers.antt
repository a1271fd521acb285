use Rattle.std.proofs.Common.{sym}
use Rattle.wrp_check.specs.Streams.{ahead}
use Rattle.wrp_check.specs.Verdicts.{first_place}
use Rattle.wrp_check.proofs.VerdictSteps.{open_first}
use Rattle.wrp_check.proofs.Passing.{unread_told, begins, starts_not}
use Rattle.wrp_check.proofs.pass.read_version.Goals as goal

pub returns-in-Err-clause-fault : goal.returns-in-Err-clause-fault
returns-in-Err-clause-fault g c =
    unread_told c.args.town.now first_place _ open_first c.in-Err.fault (ahead c.args.lines.now (g.P.Source.input c.args.proof.now)) (rw c.requires at c.in-Err.ensures.unread)

pub returns-in-Some-clause-begins : goal.returns-in-Some-clause-begins
returns-in-Some-clause-begins g c =
    begins c.args.town.now _ _ _ _ c.in_default.ensures.line c.requires c.in-Some.limit (sym (rw c.line.ensures at c.in-Some.ensures))

pub returns-in-None-clause-fault : goal.returns-in-None-clause-fault
returns-in-None-clause-fault g c =
    starts_not c.args.town.now _ _ _ _ c.in_default.ensures.line c.requires (sym (rw c.line.ensures at c.in-None.ensures))
