use Rattle.wrp_engine.proofs.Broken.{kcs_useful, taken_useful}
use Rattle.wrp_engine.proofs.cuts.kc_cuts.Goals as goal

pub returns : goal.returns
returns c =
    let pool = c.args.rows.now in
    let found = c.in_ok-cuts.cuts.items in
    taken_useful pool c.args.point.now c.truncate.new.self.items found 10 c.truncate.ensures.items (kcs_useful pool c.args.point.now found c.in_ok-cuts.ensures.broken)
