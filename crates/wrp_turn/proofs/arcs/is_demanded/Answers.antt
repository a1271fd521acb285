use Rattle.std.proofs.Common.{sym, ◌∙◌}
use Rattle.wrp_turn.proofs.StreetDemands.{demanded_at}
use Rattle.wrp_turn.proofs.arcs.is_demanded.Goals as goal

pub returns : goal.returns
returns c = c.is_needed.ensures ∙ sym (demanded_at c.args.town.now c.args.arc c.need_of.result c.need_of.ensures)
