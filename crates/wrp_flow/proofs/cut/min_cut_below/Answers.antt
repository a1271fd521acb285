use Rattle.std.proofs.Common.{arith}
use Rattle.wrp_sums.proofs.Integers.{casts}
use Rattle.wrp_flow.proofs.Pushing.{carried}
use Rattle.wrp_flow.proofs.Cuts.{all_leave}
use Rattle.wrp_flow.proofs.cut.min_cut_below.Goals as goal

pub returns-in_default-clause-enough : goal.returns-in_default-clause-enough
returns-in_default-clause-enough c = λ none set holds out.
    let net = c.args.net.now in
    let found = c.in_ok-found.ensures.enough c.in_default.is in
    let flows = all_leave net c.requires.net c.args.s c.args.t c.requires.poles found.0 (carried found.1) found.3.flow set holds out in
    let enough = c.limit_of-limit.ensures.enough in
    omega (arith, casts, enough, found.2, flows, c.ranges.enough)
