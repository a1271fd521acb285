use Rattle.std.proofs.Common.{◌-◌, vec_len}
use Rattle.wrp_out.specs.Outside.{Took}
use Rattle.wrp_out.proofs.tests.read_whole.Given as goal

abbrev pub invariant-reads : goal.invariant-reads
invariant-reads g l = Took (g.S.Source.input l.initial.source) (g.S.Source.input l.source) l.whole.items

abbrev pub decreases-reads : goal.decreases-reads
decreases-reads g l = 100 - vec_len l.whole
