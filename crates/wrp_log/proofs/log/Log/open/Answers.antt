use Rattle.std.proofs.Common.{◌≤◌, length, refl, arith}
use Rattle.wrp_disk.proofs.Time.{looks_then}
use Rattle.wrp_log.proofs.Adding.{if_some_map}
use Rattle.wrp_log.proofs.Appended.{told_both}
use Rattle.wrp_log.proofs.Opened.{in_fresh, in_begun, open_on, opens_fresh, opens_begun}
use Rattle.wrp_log.proofs.log.Log.open.Goals as goal

-- src/log.rt:68:13
pub returns-then-total-le-HEAD_SIZE-clause-on : goal.returns-then-total-le-HEAD_SIZE-clause-on
returns-then-total-le-HEAD_SIZE-clause-on g c =
    let syncs = c.in_ok-sync.ensures.syncs in
    let bytes = rw syncs.told at c.in_ok-total.ensures.bytes in
    open_on _ _ (g.D.Disk.meaning c.len.new.self) syncs c.len.ensures.looks _ c.limit-limit.ensures.limit
    (if_some_map (g.D.Disk.meaning c.args.disk.now).told (λ b is. in_fresh _ b refl refl refl refl refl (omega (arith, is, c.if-total-le-HEAD_SIZE.true))) bytes)

-- src/log.rt:68:13
pub returns-then-total-le-HEAD_SIZE-clause-exact : goal.returns-then-total-le-HEAD_SIZE-clause-exact
returns-then-total-le-HEAD_SIZE-clause-exact g c =
    let bytes = rw c.in_ok-sync.ensures.syncs.told at c.in_ok-total.ensures.bytes in
    if_some_map (g.D.Disk.meaning c.args.disk.now).told
    (λ b is. let short : length b ≤ 9 = omega (arith, is, c.if-total-le-HEAD_SIZE.true) in opens_fresh _ b refl refl refl refl short) bytes

-- src/log.rt:53:5
pub returns-clause-on : goal.returns-clause-on
returns-clause-on g c =
    let syncs = c.in_ok-sync.ensures.syncs in
    let place = rw (c.len.ensures.looks.told, syncs.told) at c.in_ok-version.ensures.place in
    open_on _ _ (g.D.Disk.meaning c.read_place.new.disk) syncs (looks_then _ _ _ c.len.ensures.looks c.read_place.ensures.looks) _ c.limit-limit.ensures.limit
    (if_some_map (g.D.Disk.meaning c.args.disk.now).told (λ b is. in_begun _ b refl refl refl is) place)

-- src/log.rt:53:5
pub returns-clause-exact : goal.returns-clause-exact
returns-clause-exact g c =
    let told = (g.D.Disk.meaning c.args.disk.now).told in
    let bytes = rw c.in_ok-sync.ensures.syncs.told at c.in_ok-total.ensures.bytes in
    let place = rw (c.len.ensures.looks.told, c.in_ok-sync.ensures.syncs.told) at c.in_ok-version.ensures.place in
    if_some_map told (λ b h. opens_begun _ b refl refl h.1 (omega (arith, h.0, c.if-total-le-HEAD_SIZE.false))) (told_both _ _ told bytes place)
