use Rattle.wrp_licence.proofs.CutCauses.{cut_is_caused}
use Rattle.wrp_licence.proofs.broken_cuts_are_caused.Goals as goal

pub returns : goal.returns
returns c = λ town entry earlier between item point cut near at broken. cut_is_caused town entry earlier between item point cut near at broken
