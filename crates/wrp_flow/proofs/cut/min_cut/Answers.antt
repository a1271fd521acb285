use Rattle.std.proofs.Common.{arith}
use Rattle.wrp_flow.proofs.Cuts.{value_small}
use Rattle.wrp_flow.proofs.cut.min_cut.Goals as goal

pub unreachable-requires : goal.unreachable-requires
unreachable-requires c =
    let found = c.in_ok-found.ensures.enough c.in-None.is in
    omega (arith, found.2, value_small c.args.net.now c.requires.net c.args.s c.args.t c.requires.poles found.0 found.1 found.3)
