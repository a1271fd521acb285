use Rattle.std.proofs.Common.{arith}
use Rattle.wrp_tree.proofs.Indexing.{few_entries}
use Rattle.wrp_tree.proofs.index.NodeIndex.done.Goals as goal

pub overflow_sub-result : goal.overflow_sub-result
overflow_sub-result c =
    let sound = c.requires in
    omega (arith, few_entries sound.2 sound.1 c.args.self.now.entries.items sound.3.entries, sound.3.count)

pub returns : goal.returns
returns c = λ town nodes upper is. omega (arith, few_entries upper nodes c.args.self.now.entries.items is.entries, is.count)
