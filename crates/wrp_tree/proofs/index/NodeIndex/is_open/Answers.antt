use Rattle.std.proofs.Common.{◌++◌}
use Rattle.wrp_tree.proofs.Wholes.{below_kept, below_nodes, same_told}
use Rattle.wrp_tree.proofs.index.NodeIndex.is_open.Goals as goal

pub is_open-requires : goal.is_open-requires
is_open-requires c =
    let sound = c.requires.sound in
    below_kept sound.0 sound.1 sound.2 c.args.self.now sound.3 c.args.node c.requires.there

pub returns : goal.returns
returns c = λ town nodes upper is.
    same_told town nodes upper c.args.self.now is c.args.node c.is_open.result (below_nodes town nodes upper c.args.self.now is c.args.node c.requires.there)
    (c.is_open.ensures town (nodes ++ is.spare) is.whole)
