use Rattle.std.proofs.Common.{◌≡◌, ℤ, pos, true, false, Option, Some, None, FitsSigned, rules, sym, ap, subst, ◌∙◌, arith}
use Rattle.std.specs.Int.{w128}
use Rattle.std.specs.Option.{option_map, option_or}
use Rattle.std.proofs.lemmas.Int.{to_z-of_z}
use Rattle.std.proofs.lemmas.List.{get_or_default}
use Rattle.wrp_sums.proofs.Integers.{tests}
use Rattle.wrp_rules.specs.Nodes.{Node, root, is_open}
use Rattle.wrp_tree.specs.Indexes.{IsFirst}
use Rattle.wrp_tree.proofs.Indexing.{least_is, least_of_none}
use Rattle.wrp_tree.proofs.index.NodeIndex.lower.Goals as goal

pub returns-in-Some : goal.returns-in-Some
returns-in-Some c = λ town nodes upper is.
    let first : IsFirst town nodes upper (Some c.in-Some.entry) = subst (IsFirst town nodes upper) c.in-Some.is (c.first.ensures town nodes upper is) in
    let fits : FitsSigned w128 c.in-Some.entry.bound = search rules in
    let least = least_is (is_open upper) nodes c.in-Some.entry.bound c.in-Some.entry.node (root town) first.0.there first.0.told (sym first.1)
    (λ k d below told.
    let same = get_or_default nodes k d (root town) below in
    omega (arith, tests, first.1, ap (λ (n : Node). n.bound) same, first.0.least k below (subst (λ (n : Node). is_open upper n ≡ true) same told))) in
    rw (to_z-of_z w128 c.in-Some.entry.bound fits) (sym (ap (λ (o : Option ℤ). option_or o (option_map pos upper)) least))

pub returns-in-None : goal.returns-in-None
returns-in-None c = λ town nodes upper is.
    let none : IsFirst town nodes upper None = subst (IsFirst town nodes upper) c.in-None.is (c.first.ensures town nodes upper is) in
    let least = least_of_none (is_open upper) nodes (λ k d below. subst (λ (n : Node). is_open upper n ≡ false) (get_or_default nodes k (root town) d below) (none k below)) in
    let mapped : c.map.result ≡ option_map pos c.args.self.now.upper = search rules in
    mapped ∙ ap (option_map pos) is.cheapest ∙ sym (ap (λ (o : Option ℤ). option_or o (option_map pos upper)) least)
