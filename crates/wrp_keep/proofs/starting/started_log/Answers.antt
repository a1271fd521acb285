use Rattle.std.proofs.Common.{◌≡◌, ℕ, ◌<◌, rules, arith}
use Rattle.std.specs.Prelude.{Err, Ok}
use Rattle.wrp_keep.specs.Faults.{append_as_start}
use Rattle.wrp_keep.proofs.FirstPayload.{has_records, put_ok, put_err}
use Rattle.wrp_keep.proofs.starting.started_log.Goals as goal

pub returns-then-count-gt0-clause-starts : goal.returns-then-count-gt0-clause-starts
returns-then-count-gt0-clause-starts g c =
    let told = c.in_ok-log.ensures in
    has_records c.args.table.now (g.D.Disk.meaning c.args.disk.now) (g.D.Disk.meaning c.open.new.disk) c.in_ok-log.log told.told told.on (g.met.D.Disk.lawful c.open.new.disk) told.any_moment told.exact
    c.count-count.result c.count-count.ensures (omega arith)

pub returns-in_err-put_table-clause-starts : goal.returns-in_err-put_table-clause-starts
returns-in_err-put_table-clause-starts g c =
    let told = c.in_ok-log.ensures in
    let none : c.in_ok-log.log.count ≡ 0 = omega (arith, c.count-count.ensures, c.if-count-gt0.false) in
    let fault = c.in_err-put_table.field-0.0 in
    let is : c.from_residual-in_err-put_table.result ≡ Err (append_as_start fault) = search rules in
    rw is (put_err c.args.table.now (g.D.Disk.meaning c.args.disk.now) (g.D.Disk.meaning c.open.new.disk) c.in_ok-log.log told.told told.on (g.met.D.Disk.lawful c.open.new.disk) told.any_moment told.exact
    none (g.D.Disk.meaning c.put_table.new.disk) (g.met.D.Disk.lawful c.args.disk.now) (g.met.D.Disk.lawful c.put_table.new.disk) c.put_table.new.log c.in_err-put_table.ensures.any_moment fault c.in_err-put_table.ensures.puts)

pub returns-clause-starts : goal.returns-clause-starts
returns-clause-starts g c =
    let told = c.in_ok-log.ensures in
    let none : c.in_ok-log.log.count ≡ 0 = omega (arith, c.count-count.ensures, c.if-count-gt0.false) in
    put_ok c.args.table.now (g.D.Disk.meaning c.args.disk.now) (g.D.Disk.meaning c.open.new.disk) c.in_ok-log.log told.told told.on (g.met.D.Disk.lawful c.open.new.disk) told.any_moment told.exact
    none (g.D.Disk.meaning c.put_table.new.disk) (g.met.D.Disk.lawful c.args.disk.now) (g.met.D.Disk.lawful c.put_table.new.disk) c.put_table.new.log c.in_ok-put_table.ensures.any_moment c.in_ok-put_table.ensures.puts
