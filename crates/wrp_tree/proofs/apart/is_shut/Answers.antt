use Rattle.std.proofs.Common.{ℕ, List, ap, ◌∙◌}
use Rattle.std.specs.List.{list_all}
use Rattle.wrp_town.specs.Arcs.{legal_arcs}
use Rattle.wrp_tree.specs.Leaks.{stays_at}
use Rattle.wrp_tree.proofs.Shutting.{shut_same}
use Rattle.wrp_tree.proofs.apart.is_shut.Goals as goal

pub returns : goal.returns
returns c = λ set node marked box.
    c.are_shut.ensures ∙ ap (λ (hi : List ℕ). list_all (stays_at c.args.town.now c.args.marks.now hi) (legal_arcs c.args.town.now)) c.as_slice.ensures
    ∙ shut_same c.args.town.now set c.args.marks.now node c.args.bounds.now marked box
