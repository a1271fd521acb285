use Rattle.std.proofs.Common.{refl}
use Rattle.wrp_tree.proofs.Indexing.{index_cut}
use Rattle.wrp_tree.proofs.index.NodeIndex.lower_upper.Goals as goal

pub returns : goal.returns
returns c = λ town nodes upper is low. record {
  count = is.count;
  front = is.front;
  spare = is.spare;
  whole = is.whole;
  cheapest = refl;
  entries = index_cut upper nodes c.args.cost c.args.self.now.entries.items c.cut_below.new.entries.items is.entries low c.cut_below.ensures.ascending c.cut_below.ensures.others;
}
