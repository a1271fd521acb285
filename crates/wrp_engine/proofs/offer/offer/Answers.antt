use Rattle.wrp_engine.proofs.Staging.{staged_on}
use Rattle.wrp_engine.proofs.offer.offer.Goals as goal

pub returns-in-Ok-clause-leaves : goal.returns-in-Ok-clause-leaves
returns-in-Ok-clause-leaves g c =
    staged_on c.args.keep.now (g.D.Disk.meaning c.args.disk.now) c.args.item c.requires.going c.requires.writable c.in-Ok.ensures.judged.0 c.stage.new.self
    c.in-Ok.ensures.staged c.in-Ok.ensures.acknowledged
