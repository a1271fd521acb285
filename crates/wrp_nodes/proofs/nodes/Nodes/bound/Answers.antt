use Rattle.std.proofs.Common.{FitsSigned, rules, ap, ◌∙◌}
use Rattle.std.specs.Int.{w128}
use Rattle.std.proofs.lemmas.Int.{to_z-of_z}
use Rattle.wrp_rules.specs.Nodes.{root}
use Rattle.wrp_nodes.specs.declared.kept.KeptNode.{KeptNode}
use Rattle.wrp_nodes.specs.Kept.{kept_root}
use Rattle.wrp_nodes.proofs.Keeping.{zip_at}
use Rattle.wrp_nodes.proofs.nodes.Nodes.bound.Goals as goal

pub returns : goal.returns
returns c = λ town nodes has.
    let fits : FitsSigned w128 c.kept.result.bound = search rules in
    to_z-of_z w128 c.kept.result.bound fits ∙ ap (λ (k : KeptNode). k.bound) c.kept.ensures
    ∙ (zip_at c.args.self.now nodes c.args.node kept_root (root town) has.keeps c.requires).bound
