use Rattle.std.proofs.Common.{◌%◌, ◌==◌, not, sym, ◌∙◌}
use Rattle.std.specs.Prelude.{is_some}
use Rattle.wrp_turn.specs.Needs.{is_lost}
use Rattle.wrp_turn.proofs.StreetDemands.{unservable_at}
use Rattle.wrp_turn.proofs.arcs.is_unservable.Goals as goal

pub returns : goal.returns
returns c =
    c.is_lost.ensures
    ∙ (λ i. is_lost c.need_of.result (c.args.arc % 2 == 0) (not ((c.is_some.ensures ∙ (λ j. is_some (c.cost.ensures.value j))) i)) (not ((c.is_some-2.ensures ∙ (λ j. is_some (c.cost-2.ensures.value j))) i)))
    ∙ sym (unservable_at c.args.town.now c.args.arc c.need_of.result c.need_of.ensures)
