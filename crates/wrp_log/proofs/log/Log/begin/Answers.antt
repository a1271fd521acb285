use Rattle.std.proofs.Common.{refl, ap}
use Rattle.wrp_log.specs.Logs.{begun_at}
use Rattle.wrp_disk.proofs.Time.{passes_none}
use Rattle.wrp_log.proofs.Beginning.{begin_moments, begun_on}
use Rattle.wrp_log.proofs.log.Log.begin.Goals as goal

pub returns-then-limit-lt-HEAD_SIZE-clause-any_moment : goal.returns-then-limit-lt-HEAD_SIZE-clause-any_moment
returns-then-limit-lt-HEAD_SIZE-clause-any_moment g c = begin_moments _ _ (g.met.D.Disk.lawful c.args.disk.now) c.requires.fresh c.requires.on _ (λ images. passes_none _ _)

pub returns-in-Ok-clause-begun : goal.returns-in-Ok-clause-begun
returns-in-Ok-clause-begun g c =
    let fresh = rw (← c.self.view_is) at c.requires.fresh in
    let on = rw (← c.self.view_is) at c.requires.on in
    record {
      log = ap begun_at c.self.view_is;
      on = begun_on _ _ (g.met.D.Disk.lawful c.args.disk.now) fresh on _ _ refl refl refl refl refl refl refl (g.met.D.Disk.lawful c.write_head.new.disk) c.write_head.ensures.lasts c.in-Ok.ensures.begun;
    }

pub returns-in-Ok-clause-any_moment : goal.returns-in-Ok-clause-any_moment
returns-in-Ok-clause-any_moment g c = begin_moments _ _ (g.met.D.Disk.lawful c.args.disk.now) c.requires.fresh c.requires.on _ c.write_head.ensures.any_moment

pub returns-in-Err-clause-any_moment : goal.returns-in-Err-clause-any_moment
returns-in-Err-clause-any_moment g c = begin_moments _ _ (g.met.D.Disk.lawful c.args.disk.now) c.requires.fresh c.requires.on _ c.write_head.ensures.any_moment

pub returns-then-limit-lt-HEAD_SIZE-clause-lasts : goal.returns-then-limit-lt-HEAD_SIZE-clause-lasts
returns-then-limit-lt-HEAD_SIZE-clause-lasts g c = passes_none _ _
