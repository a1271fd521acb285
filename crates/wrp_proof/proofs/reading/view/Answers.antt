use Rattle.std.proofs.Common.{refl}
use Rattle.wrp_rules.specs.Layouts.{record_kinds}
use Rattle.wrp_proof.proofs.KindLaws.{nothing-right}
use Rattle.wrp_proof.proofs.LineLaws.{not-spelled}
use Rattle.wrp_proof.proofs.reading.view.Goals as goal

pub fault_in-requires-clause-wrong : goal.fault_in-requires-clause-wrong
fault_in-requires-clause-wrong c = nothing-right record_kinds refl c.args.line.now c.in-None.ensures.none

pub returns-in-None-clause-none : goal.returns-in-None-clause-none
returns-in-None-clause-none c = λ short. not-spelled c.args.line.now c.in-None.ensures.none
