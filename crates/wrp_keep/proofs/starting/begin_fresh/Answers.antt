use Rattle.wrp_keep.proofs.FirstPayload.{empty_moments}
use Rattle.wrp_keep.proofs.starting.begin_fresh.Goals as goal

pub returns-then-not-fresh-clause-any_moment : goal.returns-then-not-fresh-clause-any_moment
returns-then-not-fresh-clause-any_moment g c =
    empty_moments c.args.log.now (g.D.Disk.meaning c.args.disk.now) c.requires.on c.requires.none (g.met.D.Disk.lawful c.args.disk.now)
