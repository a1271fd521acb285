use Rattle.wrp_tree.proofs.kept.Kept.has_node.Goals as goal

pub returns : goal.returns
returns c = λ town s is. c.is_there.ensures town s.nodes s.upper is.index
