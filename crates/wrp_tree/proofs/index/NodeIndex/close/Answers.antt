use Rattle.std.proofs.Common.{◌≡◌, ℕ, ℤ, ◌∷◌, ap, sym, ◌∙◌, subst, arith}
use Rattle.std.specs.List.Sorted.{IsPermutation}
use Rattle.wrp_rules.specs.Nodes.{root}
use Rattle.wrp_nodes.specs.Kept.{node_in}
use Rattle.wrp_tree.specs.declared.entries.Entry.{Entry}
use Rattle.wrp_tree.proofs.Indexing.{index_closed}
use Rattle.wrp_tree.proofs.Wholes.{below_kept, below_nodes, told_kept, open_there, all_nodes, whole_index}
use Rattle.wrp_tree.proofs.index.NodeIndex.close.Goals as goal

pub take_out-requires-clause-there : goal.take_out-requires-clause-there
take_out-requires-clause-there c =
    let some = c.requires.open.sound in
    open_there some.0 some.1 some.2 c.args.self.now some.3 c.args.node c.entry-old.result c.requires.open.there c.requires.open.told c.entry-old.ensures.node (c.entry-old.ensures.bound some.0 some.1 some.2 some.3)

pub close-requires : goal.close-requires
close-requires c =
    let some = c.requires.open.sound in
    below_kept some.0 some.1 some.2 c.args.self.now some.3 c.args.node c.requires.open.there

pub returns : goal.returns
returns c = λ town nodes upper is.
    let index = c.args.self.now in
    let node = c.args.node in
    let below = below_nodes town nodes upper index is node c.requires.open.there in
    let told = sym (told_kept town nodes upper index is node c.requires.open.there) ∙ c.requires.open.told in
    let own : c.entry-old.result ≡ record { bound = (node_in town nodes node).bound; node = node } =
    ap (λ (z : ℤ). record { bound = z; node = c.entry-old.result.node }) (c.entry-old.ensures.bound town nodes upper is)
    ∙ ap (λ (n : ℕ). record { bound = (node_in town nodes node).bound; node = n }) c.entry-old.ensures.node in
    let out = index_closed upper nodes index.entries.items c.take_out.new.entries.items node (root town) is.entries below told c.take_out.ensures.ascending
    (subst (λ (e : Entry). IsPermutation index.entries.items (e ∷ c.take_out.new.entries.items)) own c.take_out.ensures.others) in
    whole_index town _ upper _ (c.close.ensures.nodes town nodes (all_nodes town nodes upper index is c.requires.alone)) (omega (arith, c.close.ensures.count, c.requires.alone)) is.cheapest out
