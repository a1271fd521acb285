use Rattle.std.proofs.Common.{refl}
use Rattle.wrp_rules.specs.Lines.{end_line}
use Rattle.wrp_proof.proofs.LineLaws.{spelled-end_line, end_line-spelled}
use Rattle.wrp_proof.proofs.FaultLaws.{one-end_fault}
use Rattle.wrp_proof.proofs.laws.end_laws.Goals as goal

pub returns-clause-line : goal.returns-clause-line
returns-clause-line c = λ end line. (end_line-spelled line end, spelled-end_line line end)

pub returns-clause-back : goal.returns-clause-back
returns-clause-back c = λ end numbers. end_line-spelled (end_line end) end (record { text = refl; numbers = numbers })

pub returns-clause-fault : goal.returns-clause-fault
returns-clause-fault c = one-end_fault
