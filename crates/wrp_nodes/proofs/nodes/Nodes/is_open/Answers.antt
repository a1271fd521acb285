use Rattle.std.proofs.Common.{ap, ◌∙◌}
use Rattle.wrp_rules.specs.Nodes.{root}
use Rattle.wrp_nodes.specs.declared.kept.KeptNode.{KeptNode}
use Rattle.wrp_nodes.specs.Kept.{kept_root, node_in, is_open_kept}
use Rattle.wrp_nodes.proofs.Keeping.{zip_at, same_open}
use Rattle.wrp_nodes.proofs.nodes.Nodes.is_open.Goals as goal

pub returns : goal.returns
returns c = λ town nodes has.
    c.is_open.ensures ∙ ap (λ (k : KeptNode). is_open_kept c.args.upper k) c.kept.ensures
    ∙ same_open c.args.upper _ (node_in town nodes c.args.node) (zip_at c.args.self.now nodes c.args.node kept_root (root town) has.keeps c.requires)
