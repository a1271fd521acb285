use Rattle.wrp_check.proofs.Soundness.{accepted_is_proof, proof_holds}
use Rattle.wrp_check.proofs.Completeness.{proof_is_accepted}
use Rattle.wrp_check.proofs.pass.verdict_laws.Goals as goal

pub returns-clause-accepts : goal.returns-clause-accepts
returns-clause-accepts c = λ town end bytes. (proof_is_accepted town end bytes, accepted_is_proof town end bytes)

pub returns-clause-holds : goal.returns-clause-holds
returns-clause-holds c = λ town end bytes said. proof_holds town end bytes (accepted_is_proof town end bytes said)
