use Rattle.std.proofs.Common.{◌≡◌, true, pos, ◌≤ℤ◌, List, ap, ◌∙◌, subst}
use Rattle.std.specs.Prelude.{IfSome}
use Rattle.wrp_town.specs.declared.street.Step.{Step}
use Rattle.wrp_town.specs.Walks.{is_tour, walk_cost}
use Rattle.wrp_rules.specs.Nodes.{standing, lower}
use Rattle.wrp_tree.specs.Trees.{TreeState, now}
use Rattle.wrp_tree.proofs.Growing.{lower_bounds}
use Rattle.wrp_tree.proofs.tree.Tree.lower.Goals as goal

pub returns-clause-value : goal.returns-clause-value
returns-clause-value c =
    let town = c.self.inside.town.now in
    let s = standing town c.self.inside.kept.records.items in
    let is = c.self.invariant.kept_is in
    c.lower.ensures town s.nodes s.upper is.index ∙ ap (λ (t : TreeState). lower (now t)) c.self.view_is

pub returns-clause-bounds : goal.returns-clause-bounds
returns-clause-bounds c =
    let town = c.self.inside.town.now in
    let s = standing town c.self.inside.kept.records.items in
    let is = c.self.invariant.kept_is in
    subst (λ (t : TreeState). IfSome c.lower.result (λ low. (steps : List Step) → is_tour t.town steps ≡ true → low ≤ℤ pos (walk_cost t.town steps))) c.self.view_is
    (lower_bounds town c.self.inside.kept.records.items c.lower.result c.self.invariant.valid (c.lower.ensures town s.nodes s.upper is.index))
