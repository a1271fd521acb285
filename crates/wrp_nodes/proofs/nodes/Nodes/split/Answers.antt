use Rattle.wrp_nodes.proofs.Splitting.{splits}
use Rattle.wrp_nodes.proofs.nodes.Nodes.split.Goals as goal

pub returns-clause-ok : goal.returns-clause-ok
returns-clause-ok c =
    splits c.args.self.now c.push_children.new.self c.close.new.self c.args.node c.args.arc c.args.k c.requires.there c.in_ok-push_children.ensures.ok c.close.ensures
