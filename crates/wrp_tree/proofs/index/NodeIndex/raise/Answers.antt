use Rattle.std.proofs.Common.{◌≡◌, ℕ, ℤ, true, false, ◌∷◌, FitsSigned, rules, ap, sym, ◌∙◌, subst, arith}
use Rattle.std.specs.Int.{w128}
use Rattle.std.proofs.lemmas.Int.{to_z-of_z}
use Rattle.std.specs.List.Sorted.{IsPermutation}
use Rattle.wrp_rules.specs.Nodes.{root, is_below}
use Rattle.wrp_nodes.specs.Kept.{node_in}
use Rattle.wrp_tree.specs.declared.entries.Entry.{Entry}
use Rattle.wrp_tree.proofs.Indexing.{index_closed, index_raised, index_raised_out, closed_gone}
use Rattle.wrp_tree.proofs.Wholes.{below_kept, below_nodes, told_kept, open_there, all_nodes, whole_index}
use Rattle.wrp_tree.proofs.index.NodeIndex.raise.Goals as goal

pub take_out-requires-clause-there : goal.take_out-requires-clause-there
take_out-requires-clause-there c =
    let some = c.requires.open.sound in
    open_there some.0 some.1 some.2 c.args.self.now some.3 c.args.node c.entry-old.result c.requires.open.there c.requires.open.told c.entry-old.ensures.node (c.entry-old.ensures.bound some.0 some.1 some.2 some.3)

pub put_in-requires-clause-new : goal.put_in-requires-clause-new
put_in-requires-clause-new c =
    let town = c.requires.open.sound.0 in
    let nodes = c.requires.open.sound.1 in
    let upper = c.requires.open.sound.2 in
    let is = c.requires.open.sound.3 in
    let index = c.args.self.now in
    let node = c.args.node in
    let below = below_nodes town nodes upper index is node c.requires.open.there in
    let told = sym (told_kept town nodes upper index is node c.requires.open.there) ∙ c.requires.open.told in
    let own : c.entry-old.result ≡ record { bound = (node_in town nodes node).bound; node = node } =
    ap (λ (z : ℤ). record { bound = z; node = c.entry-old.result.node }) (c.entry-old.ensures.bound town nodes upper is)
    ∙ ap (λ (n : ℕ). record { bound = (node_in town nodes node).bound; node = n }) c.entry-old.ensures.node in
    let out = index_closed upper nodes index.entries.items c.take_out.new.entries.items node (root town) is.entries below told c.take_out.ensures.ascending
    (subst (λ (e : Entry). IsPermutation index.entries.items (e ∷ c.take_out.new.entries.items)) own c.take_out.ensures.others) in
    closed_gone upper nodes c.take_out.new.entries.items node out below

pub set_bound-requires : goal.set_bound-requires
set_bound-requires c =
    let some = c.requires.open.sound in
    below_kept some.0 some.1 some.2 c.args.self.now some.3 c.args.node c.requires.open.there

pub returns-then-is_below : goal.returns-then-is_below
returns-then-is_below c = λ town nodes upper is.
    let index = c.args.self.now in
    let node = c.args.node in
    let below = below_nodes town nodes upper index is node c.requires.open.there in
    let told = sym (told_kept town nodes upper index is node c.requires.open.there) ∙ c.requires.open.told in
    let own : c.entry-old.result ≡ record { bound = (node_in town nodes node).bound; node = node } =
    ap (λ (z : ℤ). record { bound = z; node = c.entry-old.result.node }) (c.entry-old.ensures.bound town nodes upper is)
    ∙ ap (λ (n : ℕ). record { bound = (node_in town nodes node).bound; node = n }) c.entry-old.ensures.node in
    let out = index_closed upper nodes index.entries.items c.take_out.new.entries.items node (root town) is.entries below told c.take_out.ensures.ascending
    (subst (λ (e : Entry). IsPermutation index.entries.items (e ∷ c.take_out.new.entries.items)) own c.take_out.ensures.others) in
    let fits : FitsSigned w128 c.args.bound = search rules in
    let below_upper : is_below c.args.bound upper ≡ true = sym (ap (is_below c.args.bound) is.cheapest) ∙ sym (rw (to_z-of_z w128 c.args.bound fits) at c.is_below.ensures) ∙ c.if-is_below.true in
    let entry : IsPermutation (record { bound = c.args.bound; node = node } ∷ c.take_out.new.entries.items) c.put_in.new.entries.items = rw (to_z-of_z w128 c.args.bound fits) at c.put_in.ensures.others in
    whole_index town _ upper _ (rw (to_z-of_z w128 c.args.bound fits) at (c.set_bound.ensures.nodes town nodes (all_nodes town nodes upper index is c.requires.alone))) (omega (arith, c.set_bound.ensures.count, c.requires.alone)) is.cheapest
    (index_raised upper nodes c.take_out.new.entries.items node (root town) c.args.bound out below told c.put_in.new.entries.items below_upper c.put_in.ensures.ascending entry)

pub returns-else-is_below : goal.returns-else-is_below
returns-else-is_below c = λ town nodes upper is.
    let index = c.args.self.now in
    let node = c.args.node in
    let below = below_nodes town nodes upper index is node c.requires.open.there in
    let told = sym (told_kept town nodes upper index is node c.requires.open.there) ∙ c.requires.open.told in
    let own : c.entry-old.result ≡ record { bound = (node_in town nodes node).bound; node = node } =
    ap (λ (z : ℤ). record { bound = z; node = c.entry-old.result.node }) (c.entry-old.ensures.bound town nodes upper is)
    ∙ ap (λ (n : ℕ). record { bound = (node_in town nodes node).bound; node = n }) c.entry-old.ensures.node in
    let out = index_closed upper nodes index.entries.items c.take_out.new.entries.items node (root town) is.entries below told c.take_out.ensures.ascending
    (subst (λ (e : Entry). IsPermutation index.entries.items (e ∷ c.take_out.new.entries.items)) own c.take_out.ensures.others) in
    let fits : FitsSigned w128 c.args.bound = search rules in
    let not_below : is_below c.args.bound upper ≡ false = sym (ap (is_below c.args.bound) is.cheapest) ∙ sym (rw (to_z-of_z w128 c.args.bound fits) at c.is_below.ensures) ∙ c.if-is_below.false in
    whole_index town _ upper _ (rw (to_z-of_z w128 c.args.bound fits) at (c.set_bound.ensures.nodes town nodes (all_nodes town nodes upper index is c.requires.alone))) (omega (arith, c.set_bound.ensures.count, c.requires.alone)) is.cheapest
    (index_raised_out upper nodes c.take_out.new.entries.items node (root town) c.args.bound out below told not_below)
