use Rattle.std.proofs.Common.{◌==◌, Bool, not, ℕ, Option, List, length, filter, ap, sym, ◌∙◌}
use Rattle.std.specs.List.{list_any}
use Rattle.wrp_rules.specs.Nodes.{is_open}
use Rattle.wrp_nodes.specs.declared.kept.KeptNode.{KeptNode}
use Rattle.wrp_nodes.specs.Kept.{is_open_kept}
use Rattle.wrp_nodes.proofs.Keeping.{none_open}
use Rattle.wrp_nodes.proofs.nodes.Nodes.is_done.Goals as goal

pub returns : goal.returns
returns c = λ town s has upper.
    ap (λ (t : Bool). not t) (c.has_open.ensures ∙ ap (λ (xs : List KeptNode). list_any (is_open_kept c.args.upper) xs) (c.deref.ensures.value ∙ c.self.view_is))
    ∙ none_open c.args.upper c.args.self.now s.nodes has.keeps
    ∙ ap (λ (u : Option ℕ). length (filter (is_open u) s.nodes) == 0) (sym upper)
