use Rattle.wrp_out.proofs.OutsideFacts.{took_nothing}
use Rattle.wrp_out.proofs.tests.read_whole.Goals as goal

pub reads-init : goal.reads-init
reads-init g c = rw c.new-whole.ensures.items (took_nothing _)
