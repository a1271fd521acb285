use Rattle.std.proofs.Common.{◌≡◌, ℕ, ◌+◌, ◌-◌, ℤ, false, ◌==◌, List, [], ◌∷◌, ◌++◌, length, FitsSigned, rules, ap, sym, ◌∙◌, subst, arith, length-append, append_assoc}
use Rattle.std.specs.Int.{w128}
use Rattle.std.specs.List.{All}
use Rattle.std.proofs.lemmas.Int.{to_z-of_z}
use Rattle.std.specs.List.Sorted.{IsPermutation}
use Rattle.wrp_rules.specs.Nodes.{Node, root, closed, changed, at_most, at_least}
use Rattle.wrp_nodes.specs.Kept.{node_in, HasNodes, split_nodes, children}
use Rattle.wrp_nodes.proofs.NodeLists.{length-changed, changed-append}
use Rattle.wrp_tree.specs.declared.entries.Entry.{Entry}
use Rattle.wrp_tree.specs.Entries.{IsIndexOf}
use Rattle.wrp_tree.proofs.Indexing.{index_closed, index_next, next_gone}
use Rattle.wrp_tree.proofs.Wholes.{below_kept, below_nodes, told_kept, open_there, whole_index}
use Rattle.wrp_tree.proofs.index.NodeIndex.split.Goals as goal

pub take_out-requires-clause-there : goal.take_out-requires-clause-there
take_out-requires-clause-there c =
    let some = c.requires.open.sound in
    open_there some.0 some.1 some.2 c.args.self.now some.3 c.args.node c.entry-old.result c.requires.open.there c.requires.open.told c.entry-old.ensures.node (c.entry-old.ensures.bound some.0 some.1 some.2 some.3)

pub close-requires : goal.close-requires
close-requires c =
    let some = c.requires.open.sound in
    below_kept some.0 some.1 some.2 c.args.self.now some.3 c.args.node c.requires.open.there

pub put_in-requires-clause-new : goal.put_in-requires-clause-new
put_in-requires-clause-new c =
    let town = c.requires.open.sound.0 in
    let nodes = c.requires.open.sound.1 in
    let upper = c.requires.open.sound.2 in
    let is = c.requires.open.sound.3 in
    let index = c.args.self.now in
    let node = c.args.node in
    let below = below_nodes town nodes upper index is node c.requires.open.there in
    let told = sym (told_kept town nodes upper index is node c.requires.open.there) ∙ c.requires.open.told in
    let own : c.entry-old.result ≡ record { bound = (node_in town nodes node).bound; node = node } =
    ap (λ (z : ℤ). record { bound = z; node = c.entry-old.result.node }) (c.entry-old.ensures.bound town nodes upper is)
    ∙ ap (λ (n : ℕ). record { bound = (node_in town nodes node).bound; node = n }) c.entry-old.ensures.node in
    let out = index_closed upper nodes index.entries.items c.take_out.new.entries.items node (root town) is.entries below told c.take_out.ensures.ascending
    (subst (λ (e : Entry). IsPermutation index.entries.items (e ∷ c.take_out.new.entries.items)) own c.take_out.ensures.others) in
    let long : length nodes + 2 ≡ c.len-count.result = omega (arith, c.len-count.ensures, c.close.ensures.count, c.requires.count, is.count) in
    let changed_long = length-changed closed node nodes in
    let first_number : c.len-count.result - 2 ≡ length (changed closed node nodes) = omega (arith, long, changed_long) in
    subst (λ (n : ℕ). All (λ e. (e.node == n) ≡ false) c.take_out.new.entries.items) (sym first_number) (next_gone upper (changed closed node nodes) c.take_out.new.entries.items out)

pub put_in-requires-2-clause-new : goal.put_in-requires-2-clause-new
put_in-requires-2-clause-new c =
    let town = c.requires.open.sound.0 in
    let nodes = c.requires.open.sound.1 in
    let upper = c.requires.open.sound.2 in
    let is = c.requires.open.sound.3 in
    let arc : ℕ = 0 in
    let k : ℕ = 0 in
    let index = c.args.self.now in
    let node = c.args.node in
    let below = below_nodes town nodes upper index is node c.requires.open.there in
    let told = sym (told_kept town nodes upper index is node c.requires.open.there) ∙ c.requires.open.told in
    let own : c.entry-old.result ≡ record { bound = (node_in town nodes node).bound; node = node } =
    ap (λ (z : ℤ). record { bound = z; node = c.entry-old.result.node }) (c.entry-old.ensures.bound town nodes upper is)
    ∙ ap (λ (n : ℕ). record { bound = (node_in town nodes node).bound; node = n }) c.entry-old.ensures.node in
    let out = index_closed upper nodes index.entries.items c.take_out.new.entries.items node (root town) is.entries below told c.take_out.ensures.ascending
    (subst (λ (e : Entry). IsPermutation index.entries.items (e ∷ c.take_out.new.entries.items)) own c.take_out.ensures.others) in
    let long : length nodes + 2 ≡ c.len-count.result = omega (arith, c.len-count.ensures, c.close.ensures.count, c.requires.count, is.count) in
    let changed_long = length-changed closed node nodes in
    let first_number : c.len-count.result - 2 ≡ length (changed closed node nodes) = omega (arith, long, changed_long) in
    let parent = node_in town nodes node in
    let fits : FitsSigned w128 c.entry-old.result.bound = search rules in
    let one = index_next upper (changed closed node nodes) (at_most arc k parent) (record c.entry-old.result { node = c.len-count.result - 2 }) c.take_out.new.entries.items c.put_in.new.entries.items out told (c.entry-old.ensures.bound town nodes upper is) first_number c.put_in.ensures.ascending (rw (to_z-of_z w128 c.entry-old.result.bound fits) at c.put_in.ensures.others) in
    let second_number : c.len-count.result - 1 ≡ length (changed closed node nodes ++ at_most arc k parent ∷ []) = omega (arith, first_number, long, length-append (changed closed node nodes) (at_most arc k parent ∷ [])) in
    subst (λ (n : ℕ). All (λ e. (e.node == n) ≡ false) c.put_in.new.entries.items) (sym second_number) (next_gone upper (changed closed node nodes ++ at_most arc k parent ∷ []) c.put_in.new.entries.items one)

pub returns : goal.returns
returns c = λ town nodes upper arc k is both.
    let index = c.args.self.now in
    let node = c.args.node in
    let below = below_nodes town nodes upper index is node c.requires.open.there in
    let told = sym (told_kept town nodes upper index is node c.requires.open.there) ∙ c.requires.open.told in
    let own : c.entry-old.result ≡ record { bound = (node_in town nodes node).bound; node = node } =
    ap (λ (z : ℤ). record { bound = z; node = c.entry-old.result.node }) (c.entry-old.ensures.bound town nodes upper is)
    ∙ ap (λ (n : ℕ). record { bound = (node_in town nodes node).bound; node = n }) c.entry-old.ensures.node in
    let out = index_closed upper nodes index.entries.items c.take_out.new.entries.items node (root town) is.entries below told c.take_out.ensures.ascending
    (subst (λ (e : Entry). IsPermutation index.entries.items (e ∷ c.take_out.new.entries.items)) own c.take_out.ensures.others) in
    let long : length nodes + 2 ≡ c.len-count.result = omega (arith, c.len-count.ensures, c.close.ensures.count, c.requires.count, is.count) in
    let changed_long = length-changed closed node nodes in
    let first_number : c.len-count.result - 2 ≡ length (changed closed node nodes) = omega (arith, long, changed_long) in
    let parent = node_in town nodes node in
    let fits : FitsSigned w128 c.entry-old.result.bound = search rules in
    let one = index_next upper (changed closed node nodes) (at_most arc k parent) (record c.entry-old.result { node = c.len-count.result - 2 }) c.take_out.new.entries.items c.put_in.new.entries.items out told (c.entry-old.ensures.bound town nodes upper is) first_number c.put_in.ensures.ascending (rw (to_z-of_z w128 c.entry-old.result.bound fits) at c.put_in.ensures.others) in
    let second_number : c.len-count.result - 1 ≡ length (changed closed node nodes ++ at_most arc k parent ∷ []) = omega (arith, first_number, long, length-append (changed closed node nodes) (at_most arc k parent ∷ [])) in
    let two = index_next upper (changed closed node nodes ++ at_most arc k parent ∷ []) (at_least arc (k + 1) parent) (record c.entry-old.result { node = c.len-count.result - 1 }) c.put_in.new.entries.items c.put_in-2.new.entries.items one told (c.entry-old.ensures.bound town nodes upper is) second_number c.put_in-2.ensures.ascending (rw (to_z-of_z w128 c.entry-old.result.bound fits) at c.put_in-2.ensures.others) in
    whole_index town (split_nodes town node arc k nodes) upper _
    (subst (HasNodes town c.close.new.self) (changed-append closed node nodes (children town node arc k nodes) below) (c.close.ensures.nodes town (nodes ++ children town node arc k nodes) both.both))
    c.len-count.ensures is.cheapest
    (subst (λ (xs : List Node). IsIndexOf upper xs c.put_in-2.new.entries.items) (append_assoc (changed closed node nodes) (at_most arc k parent ∷ []) (at_least arc (k + 1) parent ∷ [])) two)
