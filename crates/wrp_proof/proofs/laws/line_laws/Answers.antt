use Rattle.std.proofs.Common.{refl}
use Rattle.wrp_rules.specs.Layouts.{record_kinds}
use Rattle.wrp_rules.specs.Lines.{line_of}
use Rattle.wrp_proof.proofs.LineLaws.{spelled-line, line-spelled}
use Rattle.wrp_proof.proofs.FaultLaws.{one-fault}
use Rattle.wrp_proof.proofs.laws.line_laws.Goals as goal

pub returns-clause-line : goal.returns-clause-line
returns-clause-line c = λ item line. (line-spelled line item, spelled-line line item)

pub returns-clause-back : goal.returns-clause-back
returns-clause-back c = λ item numbers. line-spelled (line_of item) item (record { text = refl; numbers = numbers })

pub returns-clause-fault : goal.returns-clause-fault
returns-clause-fault c = λ line one other h k. one-fault record_kinds refl line one other h k
