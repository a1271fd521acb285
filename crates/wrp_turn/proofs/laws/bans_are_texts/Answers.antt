use Rattle.wrp_turn.proofs.BanTexts.{ban_spelled, turn_read}
use Rattle.wrp_turn.proofs.laws.bans_are_texts.Goals as goal

pub returns : goal.returns
returns c = record { spelled = ban_spelled; read = turn_read }
