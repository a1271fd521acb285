use Rattle.std.proofs.Common.{pos, List, [], ◌∷◌, ◌++◌, ap, sym, ◌∙◌, refl}
use Rattle.wrp_tree.specs.declared.entries.Entry.{Entry}
use Rattle.wrp_tree.proofs.Indexing.{index_root}
use Rattle.wrp_tree.proofs.Wholes.{whole_index}
use Rattle.wrp_tree.proofs.index.NodeIndex.new.Goals as goal

pub returns : goal.returns
returns c = λ town. whole_index town _ _ _ (c.in_ok-nodes.ensures.nodes town) (sym c.in_ok-nodes.ensures.count) refl (index_root town c.push.new.self.items (c.in_ok-push.ensures.items ∙ ap (λ (xs : List Entry). xs ++ record { bound = pos 0; node = 0 } ∷ []) c.new-entries.ensures.items))
