use Rattle.std.proofs.Common.{◌≡◌, ◌+◌, List, [], ◌∷◌, ◌++◌, ap, sym, subst, ◌∙◌}
use Rattle.wrp_nodes.specs.declared.kept.KeptNode.{KeptNode}
use Rattle.wrp_nodes.specs.declared.kept.Cut.TheVariants.{AtLeast, AtMost}
use Rattle.wrp_nodes.specs.Kept.{child_of, GainsChildren}
use Rattle.wrp_nodes.proofs.Splitting.{gains}
use Rattle.wrp_nodes.proofs.nodes.Nodes.push_children.Goals as goal

pub returns-clause-ok : goal.returns-clause-ok
returns-clause-ok c =
    let old = c.args.self.now in
    let node = c.args.node in
    let arc = c.args.arc in
    let k = c.args.k in
    let one : c.push_child.new.self ≡ old ++ child_of old node arc (AtMost k) ∷ [] = c.in_ok-push_child.ensures.ok in
    let two : c.push_child-2.new.self ≡ c.push_child.new.self ++ child_of c.push_child.new.self node arc (AtLeast (k + 1)) ∷ [] = c.in_default.ensures.ok in
    let both = two ∙ ap (λ (xs : List KeptNode). xs ++ child_of xs node arc (AtLeast (k + 1)) ∷ []) one in
    subst (λ (xs : List KeptNode). GainsChildren old xs node arc k) (sym both) (gains old node arc k c.requires.there)
