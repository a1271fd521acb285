use Rattle.wrp_licence.proofs.Starts.{sound_at}
use Rattle.wrp_licence.proofs.starts_are_sound.Goals as goal

pub returns : goal.returns
returns c = sound_at
