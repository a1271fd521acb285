use Rattle.std.proofs.Common.{length, ap, ◌∙◌, arith}
use Rattle.std.proofs.lemmas.List.{length-take-le}
use Rattle.wrp_tree.proofs.Wholes.{kept_long}
use Rattle.wrp_tree.proofs.index.NodeIndex.drop_children.Goals as goal

pub returns-clause-alone : goal.returns-clause-alone
returns-clause-alone c = λ sound.
    ap length c.truncate.ensures ∙ length-take-le c.args.self.now.count c.args.self.now.nodes (omega (arith, kept_long sound.0 sound.1 sound.2 c.args.self.now sound.3, sound.3.count))
