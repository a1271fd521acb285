use Rattle.wrp_licence.proofs.Rounded.{meets_roundings}
use Rattle.wrp_licence.proofs.optima_meet_roundings.Goals as goal

pub returns : goal.returns
returns c = λ s node pool bounds lp has are relaxed optimal none. meets_roundings s node pool bounds has are lp relaxed optimal none
