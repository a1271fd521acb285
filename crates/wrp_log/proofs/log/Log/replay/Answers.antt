use Rattle.std.proofs.Common.{◌≡◌, ◌+◌, ◌≤◌, ◌∙◌, ℕ, Some, length, refl, arith, inl, inr, sym, ap, subst}
use Rattle.wrp_log.specs.Payloads.{payload_limit}
use Rattle.wrp_log.specs.Logs.{IsOn, replayed_in, stopped_at}
use Rattle.wrp_log.specs.contracts.log.Log.{the_view}
use Rattle.wrp_log.proofs.Adding.{limit_small}
use Rattle.wrp_log.proofs.Reached.{lent_next, not_none, on_next, on_still, has_room}
use Rattle.wrp_log.proofs.log.Log.replay.Goals as goal

pub read_payload-requires-clause-room : goal.read_payload-requires-clause-room
read_payload-requires-clause-room g c =
    let log = c.self.inside in
    let kept = c.self.invariant in
    let room = has_room log.fresh log.replayed log.count log.gate log.limit kept.7 kept.6 c.if-self.false in
    omega (arith, room, kept.8, limit_small log.version, c.limit_of-most.ensures)

pub returns-in-Ok-true : goal.returns-in-Ok-true
returns-in-Ok-true g c =
    let log = the_view c.self.inside in
    let disk = g.D.Disk.meaning c.args.disk.now in
    let new = g.D.Disk.meaning c.read_payload.new.disk in
    let lawful = g.met.D.Disk.lawful c.args.disk.now in
    let on = rw (← c.self.view_is) at c.requires.on in
    let payload = c.deref.result.now in
    let read = rw (← c.deref.ensures.value) at c.in-Ok-true.ensures.read in
    let size : c.len.result ≡ length payload = c.len.ensures ∙ sym c.deref.ensures.len in
    let passed = ap (λ (n : ℕ). record log { replayed = log.replayed + 1; next = log.next + 5 + n }) size in
    let short_enough : length payload ≤ payload_limit c.args.self.now.version = rw (← c.self.view_is) (omega (arith, c.in-Ok-true.ensures.short c.in-Ok-true.field-0-test, ap length c.deref.ensures.value, c.limit_of-most.ensures)) in
    let on_new = on_next log disk lawful on c.if-self.false _ c.limit_of-most.ensures _ payload read new c.read_payload.ensures.looks in (
      (refl, λ _. tt, (passed ∙ ap (replayed_in (Some payload)) c.self.view_is, subst (λ l. IsOn l new) (sym passed) on_new)),
      record {
        lent = rw (← c.self.view_is) (lent_next log disk lawful on c.if-self.false _ c.limit_of-most.ensures _ payload read);
        short = short_enough;
        looks = c.read_payload.ensures.looks;
        failed = tt;
        after_borrow = tt;
      },
    )

pub returns-in-Ok-false : goal.returns-in-Ok-false
returns-in-Ok-false g c =
    let log = the_view c.self.inside in
    let disk = g.D.Disk.meaning c.args.disk.now in
    let new = g.D.Disk.meaning c.read_payload.new.disk in
    let lawful = g.met.D.Disk.lawful c.args.disk.now in
    let on = rw (← c.self.view_is) at c.requires.on in (
      (refl, λ _. tt, (c.self.view_is, on_still log _ disk new on c.read_payload.ensures.looks (inl refl))),
      record {
        lent = rw (← c.self.view_is) (not_none log disk lawful on c.if-self.false _ c.limit_of-most.ensures _ _ c.in-Ok-false.ensures.read c.in-Ok-false.field-0-test);
        short = tt;
        looks = c.read_payload.ensures.looks;
        failed = tt;
        after_borrow = tt;
      },
    )

pub returns-in-Err : goal.returns-in-Err
returns-in-Err g c =
    let log = the_view c.self.inside in
    let disk = g.D.Disk.meaning c.args.disk.now in
    let new = g.D.Disk.meaning c.read_payload.new.disk in
    let on = rw (← c.self.view_is) at c.requires.on in (
      (refl, λ _. tt, (ap stopped_at c.self.view_is, on_still log _ disk new on c.read_payload.ensures.looks (inr refl))),
      record {
        lent = tt;
        short = tt;
        looks = c.read_payload.ensures.looks;
        failed = c.in-Err.ensures.failed;
        after_borrow = tt;
      },
    )
