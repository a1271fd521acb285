use Rattle.wrp_street.proofs.DigitSteps.{ReadSoFar}
use Rattle.wrp_street.proofs.cost.digits.Given as goal

abbrev pub invariant-loop-digit : goal.invariant-loop-digit
invariant-loop-digit l = ReadSoFar l.text l.digit-index l.value
