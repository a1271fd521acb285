use Rattle.std.proofs.Common.{◌+◌, arith}
use Rattle.wrp_log.proofs.Adding.{wrote, synced, opens, opened_synced, added, if_some_map, still_no_gap, either_way, on_ok_map, lasts, lasts_then}
use Rattle.wrp_log.proofs.block.add_block.Goals as goal

-- src/log.rt:22:5
pub returns-in_err-write_at-clause-any_moment : goal.returns-in_err-write_at-clause-any_moment
returns-in_err-write_at-clause-any_moment g c version payloads payload at block =
    wrote version payloads payload c.args.gate at.gate_is c.args.block.now block (g.D.Disk.meaning c.args.disk.now) (g.met.D.Disk.lawful c.args.disk.now) at.tells at.images _ _ c.in_err-write_at.ensures.tears.time

-- src/log.rt:23:5
pub returns-in_err-sync-clause-any_moment : goal.returns-in_err-sync-clause-any_moment
returns-in_err-sync-clause-any_moment g c version payloads payload at block =
    synced version payloads payload c.args.gate at.gate_is c.args.block.now block (g.D.Disk.meaning c.args.disk.now) (g.met.D.Disk.lawful c.args.disk.now) at.tells at.images _ _
    c.in_ok-write_at.ensures.writes c.in_err-sync.ensures.looks.time

-- src/log.rt:24:5
pub write_at-requires-2-clause-no_gap : goal.write_at-requires-2-clause-no_gap
write_at-requires-2-clause-no_gap g c =
    let near = still_no_gap (c.args.gate + 1) c.args.block.now (g.D.Disk.meaning c.args.disk.now).told _ _ c.requires.no_gap c.in_ok-write_at.ensures.writes.told c.in_ok-sync.ensures.syncs.told in
    if_some_map (g.D.Disk.meaning c.sync.new.self).told (λ b le. omega (arith, le)) near

-- src/log.rt:24:5
pub returns-in_err-write_at-2-clause-any_moment : goal.returns-in_err-write_at-2-clause-any_moment
returns-in_err-write_at-2-clause-any_moment g c version payloads payload at block =
    opens version payloads payload c.args.gate at.gate_is c.args.block.now block (g.D.Disk.meaning c.args.disk.now) (g.met.D.Disk.lawful c.args.disk.now) at.tells at.images _ _ _
    c.in_ok-write_at.ensures.writes c.in_ok-sync.ensures.syncs c.in_err-write_at-2.ensures.tears.time

-- src/log.rt:11:1
pub returns-clause-any_moment : goal.returns-clause-any_moment
returns-clause-any_moment g c version payloads payload at block =
    let go = opened_synced version payloads payload c.args.gate at.gate_is c.args.block.now block (g.D.Disk.meaning c.args.disk.now) (g.met.D.Disk.lawful c.args.disk.now) at.tells at.images _ _ _ (g.D.Disk.meaning c.sync-2.new.self)
    c.in_ok-write_at.ensures.writes c.in_ok-sync.ensures.syncs c.in_ok-write_at-2.ensures.writes in
    either_way c.sync-2.result c.sync-2.ensures.syncs c.sync-2.ensures.looks (λ syncs. go syncs.time) (λ looks. go looks.time)

-- src/log.rt:11:1
pub returns-clause-added : goal.returns-clause-added
returns-clause-added g c =
    on_ok_map c.sync-2.result (λ syncs version payloads payload at block.
    added version payloads payload c.args.gate at.gate_is c.args.block.now block (g.D.Disk.meaning c.args.disk.now) (g.met.D.Disk.lawful c.args.disk.now) at.tells at.images _ _ _ (g.D.Disk.meaning c.sync-2.new.self)
    (g.met.D.Disk.lawful c.sync.new.self) c.in_ok-write_at.ensures.writes c.in_ok-sync.ensures.syncs c.in_ok-write_at-2.ensures.writes syncs) c.sync-2.ensures.syncs

pub returns-in_err-write_at-clause-lasts : goal.returns-in_err-write_at-clause-lasts
returns-in_err-write_at-clause-lasts g c = lasts _ _ _ c.in_err-write_at.ensures.tears.time

pub returns-in_err-sync-clause-lasts : goal.returns-in_err-sync-clause-lasts
returns-in_err-sync-clause-lasts g c = lasts_then _ _ _ _ (lasts _ _ _ c.in_ok-write_at.ensures.writes.time) c.in_err-sync.ensures.looks.time

pub returns-in_err-write_at-2-clause-lasts : goal.returns-in_err-write_at-2-clause-lasts
returns-in_err-write_at-2-clause-lasts g c = lasts_then _ _ _ _ (lasts_then _ _ _ _ (lasts _ _ _ c.in_ok-write_at.ensures.writes.time) c.in_ok-sync.ensures.syncs.time) c.in_err-write_at-2.ensures.tears.time

pub returns-clause-lasts : goal.returns-clause-lasts
returns-clause-lasts g c =
    let three = lasts_then _ _ _ _ (lasts_then _ _ _ _ (lasts _ _ _ c.in_ok-write_at.ensures.writes.time) c.in_ok-sync.ensures.syncs.time) c.in_ok-write_at-2.ensures.writes.time in
    either_way c.sync-2.result c.sync-2.ensures.syncs c.sync-2.ensures.looks (λ syncs. lasts_then _ _ _ _ three syncs.time) (λ looks. lasts_then _ _ _ _ three looks.time)
