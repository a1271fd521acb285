use Rattle.std.proofs.lemmas.Result.{on_ok_weaker}
use Rattle.wrp_log.proofs.Adding.{either_way, lasts, lasts_then}
use Rattle.wrp_log.proofs.Upgrading.{label_written, label_synced, label_done}
use Rattle.wrp_log.proofs.block.write_version.Goals as goal

pub returns-in_err-write_at-clause-any_moment : goal.returns-in_err-write_at-clause-any_moment
returns-in_err-write_at-clause-any_moment g c payloads images = label_written payloads _ images _ c.in_err-write_at.ensures.tears.time

pub returns-clause-any_moment : goal.returns-clause-any_moment
returns-clause-any_moment g c payloads images =
    let go = label_synced payloads (g.D.Disk.meaning c.args.disk.now) images _ (g.D.Disk.meaning c.sync.new.self) c.in_ok-write_at.ensures.writes in
    either_way c.sync.result c.sync.ensures.syncs c.sync.ensures.looks (λ syncs. go syncs.time) (λ looks. go looks.time)

pub returns-clause-written : goal.returns-clause-written
returns-clause-written g c =
    on_ok_weaker c.sync.result (λ syncs payloads tells images. label_done payloads _ images _ (g.D.Disk.meaning c.sync.new.self) (g.met.D.Disk.lawful c.args.disk.now) tells c.in_ok-write_at.ensures.writes syncs) c.sync.ensures.syncs

pub returns-in_err-write_at-clause-lasts : goal.returns-in_err-write_at-clause-lasts
returns-in_err-write_at-clause-lasts g c = lasts _ _ _ c.in_err-write_at.ensures.tears.time

pub returns-clause-lasts : goal.returns-clause-lasts
returns-clause-lasts g c =
    let one = lasts _ _ _ c.in_ok-write_at.ensures.writes.time in
    either_way c.sync.result c.sync.ensures.syncs c.sync.ensures.looks (λ syncs. lasts_then _ _ _ _ one syncs.time) (λ looks. lasts_then _ _ _ _ one looks.time)
