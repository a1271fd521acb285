use Rattle.std.proofs.Common.{◌++◌, FitsSigned, rules, ◌∙◌}
use Rattle.std.specs.Int.{w128}
use Rattle.std.proofs.lemmas.Int.{to_z-of_z}
use Rattle.wrp_tree.proofs.Wholes.{below_kept, below_nodes, same_bound}
use Rattle.wrp_tree.proofs.index.NodeIndex.bound.Goals as goal

pub bound-requires : goal.bound-requires
bound-requires c =
    let sound = c.requires.sound in
    below_kept sound.0 sound.1 sound.2 c.args.self.now sound.3 c.args.node c.requires.there

pub returns : goal.returns
returns c = λ town nodes upper is.
    let fits : FitsSigned w128 c.bound.result = search rules in
    same_bound town nodes upper c.args.self.now is c.args.node _ (below_nodes town nodes upper c.args.self.now is c.args.node c.requires.there)
    (to_z-of_z w128 c.bound.result fits ∙ c.bound.ensures town (nodes ++ is.spare) is.whole)
