use Rattle.std.proofs.Common.{◌≡◌, List, set, rules, FitsSigned, ap, subst, sym}
use Rattle.std.specs.Int.{w128}
use Rattle.std.proofs.lemmas.Int.{to_z-of_z}
use Rattle.wrp_rules.specs.Nodes.{changed, with_bound}
use Rattle.wrp_nodes.specs.declared.kept.KeptNode.{KeptNode}
use Rattle.wrp_nodes.specs.Kept.{kept_at, Becomes}
use Rattle.wrp_nodes.proofs.Changes.{becomes_bound}
use Rattle.wrp_nodes.proofs.nodes.Nodes.set_bound.Goals as goal

pub returns : goal.returns
returns c =
    let node = c.args.node in
    let bound = c.args.bound in
    let new : KeptNode = record c.kept-kept.result { bound = bound } in
    let fits : FitsSigned w128 bound = search rules in
    let is : new ≡ record (kept_at c.args.self.now node) { bound = bound } = ap (λ (k : KeptNode). record k { bound = bound }) c.kept-kept.ensures in
    rw (to_z-of_z w128 bound fits)
    (subst (λ (xs : List KeptNode). Becomes c.args.self.now (set xs node new) (changed (with_bound bound) node)) (sym c.self.view_is)
    (becomes_bound bound c.args.self.now node new c.requires is))
