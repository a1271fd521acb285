use Rattle.wrp_laws.proofs.Boxes.{boxes_cover}
use Rattle.wrp_laws.proofs.boxes_cover_the_root.Goals as goal

pub returns : goal.returns
returns c = boxes_cover
