use Rattle.std.proofs.Common.{◌≡◌, true, List, set, rules, FitsSigned, ap, subst, sym}
use Rattle.std.specs.Int.{w128}
use Rattle.std.proofs.lemmas.Int.{to_z-of_z}
use Rattle.wrp_rules.specs.Nodes.{changed, closed}
use Rattle.wrp_nodes.specs.declared.kept.KeptNode.{KeptNode}
use Rattle.wrp_nodes.specs.Kept.{kept_at, Becomes}
use Rattle.wrp_nodes.proofs.Changes.{becomes_closed}
use Rattle.wrp_nodes.proofs.nodes.Nodes.close.Goals as goal

pub returns : goal.returns
returns c =
    let node = c.args.node in
    let new : KeptNode = record c.kept-kept.result { is_closed = true } in
    let fits : FitsSigned w128 c.kept-kept.result.bound = search rules in
    let is : new ≡ record (kept_at c.args.self.now node) { is_closed = true } = ap (λ (k : KeptNode). record k { is_closed = true }) c.kept-kept.ensures in
    rw (to_z-of_z w128 c.kept-kept.result.bound fits)
    (subst (λ (xs : List KeptNode). Becomes c.args.self.now (set xs node new) (changed closed node)) (sym c.self.view_is)
    (becomes_closed c.args.self.now node new c.requires is))
