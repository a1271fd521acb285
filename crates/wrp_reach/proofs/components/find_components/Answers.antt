use Rattle.std.proofs.Common.{◌≡◌, ℕ, ◌∙◌, ap, map, length, subst, List, arith}
use Rattle.wrp_town.specs.declared.town.Town.{Town}
use Rattle.wrp_reach.specs.declared.search.Mark.{Mark}
use Rattle.wrp_reach.specs.Components.{label_of}
use Rattle.wrp_reach.specs.Search.{IsAtRoot}
use Rattle.wrp_reach.proofs.Roots.{components_found}
use Rattle.wrp_reach.proofs.components.find_components.Goals as goal

pub returns : goal.returns
returns c =
    let s = c.loop-root.search in
    let last : c.loop-root.root ≡ length c.args.graph.now.junctions = omega (arith, c.loop-root-test.false, c.loop-root.auto.root-end, c.len-root-end.ensures, ap (λ (t : Town). length t.junctions) c.town-town.ensures) in
    components_found c.args.graph.now s c.in_ok-labels_of.field-0.items
    (subst (λ (r : ℕ). IsAtRoot c.args.graph.now r s) last c.loop-root.invariant)
    (c.in_ok-labels_of.ensures ∙ ap (λ (ms : List Mark). map label_of ms) c.deref.ensures.value)
