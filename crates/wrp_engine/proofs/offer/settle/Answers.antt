use Rattle.std.proofs.Common.{◌≡◌, ap, rules}
use Rattle.std.specs.Prelude.{Err, Ok}
use Rattle.wrp_engine.specs.Faults.{of_flush}
use Rattle.wrp_engine.proofs.Settling.{settled_on, settled_going, settled_cause}
use Rattle.wrp_engine.proofs.offer.settle.Goals as goal

pub returns-in_err-flush-clause-leaves : goal.returns-in_err-flush-clause-leaves
returns-in_err-flush-clause-leaves g c =
    let old = c.args.keep.now in
    let new = c.flush.new.self in
    let before = g.D.Disk.meaning c.args.disk.now in
    let after = g.D.Disk.meaning c.flush.new.disk in
    let fault = c.in_err-flush.field-0.0 in
    let told = c.in_err-flush.ensures in
    let is : c.from_residual.result ≡ Err (of_flush fault) = search rules in
    rw is (
      settled_on old new before after c.requires.going told.extends (ap (λ k. k.records) told.flushed) (Err fault)
          (λ none. let idle = told.idle none in (idle.0, idle.1, ap g.D.Disk.meaning idle.2))
          told.appends (λ none. ap g.D.Disk.meaning (told.untouched none)),
      settled_cause old new before after c.requires.going told.extends (ap (λ k. k.records) told.flushed) fault (λ none. (told.idle none).0) told.appends,
    )

pub returns-clause-leaves : goal.returns-clause-leaves
returns-clause-leaves g c =
    let old = c.args.keep.now in
    let new = c.flush.new.self in
    let before = g.D.Disk.meaning c.args.disk.now in
    let after = g.D.Disk.meaning c.flush.new.disk in
    let told = c.in_ok-flush.ensures in
    let records = ap (λ k. k.records) told.flushed in (
      settled_on old new before after c.requires.going told.extends records (Ok tt)
          (λ none. let idle = told.idle none in (idle.0, idle.1, ap g.D.Disk.meaning idle.2))
          told.appends (λ none. ap g.D.Disk.meaning (told.untouched none)),
      settled_going old new before after c.requires.going told.extends records (λ none. (told.idle none).1) told.appends told.held,
    )
