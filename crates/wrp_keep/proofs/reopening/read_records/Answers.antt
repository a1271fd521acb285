use Rattle.std.proofs.Common.{◌≡◌, ◌∙◌, ◌+◌, List, ℕ, true, false, sym, ap, subst, rules, arith}
use Rattle.std.specs.Prelude.{Err, Ok, IfSome, Some, None, Result, Bool}
use Rattle.std.specs.List.{slice_get}
use Rattle.wrp_disk.proofs.Time.{looks_then}
use Rattle.wrp_log.specs.Payloads.{list_of}
use Rattle.wrp_log.specs.Logs.{Place}
use Rattle.wrp_log.proofs.Adding.{if_some_map}
use Rattle.wrp_town.specs.declared.town.Town.{Town}
use Rattle.wrp_rules.specs.declared.record.Record.{Record}
use Rattle.wrp_keep.specs.declared.fault.ReopenFault.{ReopenFault}
use Rattle.wrp_keep.specs.Reopens.{ReadsNext, ReadsFrom}
use Rattle.wrp_keep.proofs.PayloadLines.{on_more, on_none, on_refused}
use Rattle.wrp_keep.proofs.reopening.read_records.Goals as goal

pub returns-in_err-read_next-clause-reads : goal.returns-in_err-read_next-clause-reads
returns-in_err-read_next-clause-reads g c =
    let m = g.D.Disk.meaning in
    let fault = c.in_err-read_next.field-0.0 in
    let kept = c.loop.invariant in
    let is : c.from_residual.result ≡ Err fault = search rules in
    let reads = subst (λ (t : Town). IfSome (m c.loop.disk).told (λ bytes. ReadsNext t (slice_get (list_of bytes) c.loop.log.replayed) c.loop.tree.records c.read_next.new.tree.records c.read_next.result)) kept.town c.read_next.ensures.reads in
    rw is (on_refused c.args.tree.now.town c.args.tree.now.records c.loop.tree.records c.read_next.new.tree.records 1 c.loop.counter (m c.args.disk.now) (m c.loop.disk) kept.looks c.loop.log kept.ready.replayed kept.read
    c.read_next.result reads fault c.in_err-read_next.was)

pub returns-then-not-branch-clause-reads : goal.returns-then-not-branch-clause-reads
returns-then-not-branch-clause-reads g c =
    let m = g.D.Disk.meaning in
    let kept = c.loop.invariant in
    let none : c.in_ok-read_next.field-0 ≡ false = search rules in
    let reads = subst (λ (t : Town). IfSome (m c.loop.disk).told (λ bytes. ReadsNext t (slice_get (list_of bytes) c.loop.log.replayed) c.loop.tree.records c.read_next.new.tree.records c.read_next.result)) kept.town c.read_next.ensures.reads in
    on_none c.args.tree.now.town c.args.tree.now.records c.loop.tree.records c.read_next.new.tree.records 1 c.loop.counter (m c.args.disk.now) (m c.loop.disk) kept.looks c.loop.log kept.ready.replayed kept.read
    c.read_next.result reads (c.in_ok-read_next.was ∙ ap Ok none)

pub loop-preserved : goal.loop-preserved
loop-preserved g c =
    let m = g.D.Disk.meaning in
    let kept = c.loop.invariant in
    let told = c.in_ok-read_next.ensures in
    let more : c.in_ok-read_next.field-0 ≡ true = search rules in
    let reads = subst (λ (t : Town). IfSome (m c.loop.disk).told (λ bytes. ReadsNext t (slice_get (list_of bytes) c.loop.log.replayed) c.loop.tree.records c.read_next.new.tree.records c.read_next.result)) kept.town c.read_next.ensures.reads in
    record {
      town = told.town ∙ kept.town;
      looks = looks_then (m c.args.disk.now) (m c.loop.disk) (m c.read_next.new.disk) kept.looks told.looks;
      ready = record {
        on = told.on;
        begun = ap (λ (l : Place). l.fresh) told.log.0 ∙ kept.ready.begun;
        going = ap (λ (l : Place). l.stopped) told.log.0 ∙ kept.ready.going;
        replayed = rw told.looks.told (if_some_map (m c.loop.disk).told (λ bytes is. told.log.1 more ∙ ap (λ (k : ℕ). k + 1) is) kept.ready.replayed);
      };
      writable = λ all. told.writable (kept.writable all);
      count = ap (λ (l : Place). l.count) told.log.0 ∙ kept.count;
      read = on_more c.args.tree.now.town c.args.tree.now.records c.loop.tree.records c.read_next.new.tree.records 1 c.loop.counter (m c.args.disk.now) (m c.loop.disk) kept.looks c.loop.log kept.ready.replayed kept.read
          c.read_next.result reads (c.in_ok-read_next.was ∙ ap Ok more);
    }
