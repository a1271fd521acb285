-- The street of a row, behind those before it.
use Rattle.std.proofs.Common.{arith}
use Rattle.wrp_street.proofs.RowSteps.{length-demands_from-push, row_added}
use Rattle.wrp_street.proofs.reader.TableReader.add.Goals as goal

pub returns-clause-rows : goal.returns-clause-rows
returns-clause-rows c =
    rw (row_added c.args.self.now.junctions c.args.self.now.streets c.args.row) (cc (c.in_ok-from.ensures.names, c.in_ok-from.ensures.number, c.in_ok-to.ensures.names, c.in_ok-to.ensures.number, c.in_ok-push.ensures.ok))

pub returns-clause-counted : goal.returns-clause-counted
returns-clause-counted c =
    rw (c.in_ok-push.ensures.ok, length-demands_from-push) (omega (arith, c.requires.counted, c.demand_count.ensures.count 0))
