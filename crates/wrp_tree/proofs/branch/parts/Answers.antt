use Rattle.std.proofs.Common.{arith}
use Rattle.wrp_tree.proofs.Keeping.{in_all}
use Rattle.wrp_town.proofs.TownLaws.{legal_below}
use Rattle.wrp_tree.proofs.branch.parts.Goals as goal

pub enter-requires-clause-there : goal.enter-requires-clause-there
enter-requires-clause-there c = in_all c.args.town.now c.requires.kept.0 c.args.kept.now c.requires.kept.1 c.args.node c.requires.there

pub leave-requires-clause-there : goal.leave-requires-clause-there
leave-requires-clause-there c = in_all c.args.town.now c.requires.kept.0 c.args.kept.now c.requires.kept.1 c.args.node c.requires.there

pub range-range-requires : goal.range-range-requires
range-range-requires c = omega (arith, c.enter.ensures.arcs, c.requires.rest.fits.arcs, legal_below c.args.town.now c.args.arc c.requires.legal)
