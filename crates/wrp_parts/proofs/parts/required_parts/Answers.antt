use Rattle.std.proofs.Common.{◌≡◌, List, ℕ, Option, rules, length, sym, ap, ◌∙◌, subst, arith}
use Rattle.std.proofs.lemmas.List.{with_items_is}
use Rattle.wrp_town.specs.declared.town.Town.{Town}
use Rattle.wrp_parts.specs.RequiredParts.{AreParts}
use Rattle.wrp_parts.specs.Traversal.{IsNetwork, AreNumbered}
use Rattle.wrp_parts.proofs.Edges.{town_network, length-rows}
use Rattle.wrp_parts.proofs.Order.{numbered_none}
use Rattle.wrp_parts.proofs.Whole.{are_parts}
use Rattle.wrp_parts.proofs.parts.required_parts.Goals as goal

pub number_parts-requires-clause-network : goal.number_parts-requires-clause-network
number_parts-requires-clause-network c = subst (λ (rows : List (List ℕ)). IsNetwork rows) (sym c.in_ok-rows.ensures) (town_network c.town-town.result.now)

pub number_parts-requires-clause-none : goal.number_parts-requires-clause-none
number_parts-requires-clause-none c =
    numbered_none c.in_ok-rows.rows c.len.result c.as_mut_slice.result.now (c.as_mut_slice.ensures.value ∙ c.in_ok-of.ensures.items_if_clones_equal (λ y h. search rules))
    (c.len.ensures ∙ sym (length-rows c.town-town.result.now) ∙ sym (ap length c.in_ok-rows.ensures))

pub returns : goal.returns
returns c =
    let town = c.town-town.result.now in
    let long : length c.number_parts.new.of ≡ c.in_ok-of.of.len = omega (arith, c.as_mut_slice.ensures.len) in
    let of = c.from_vec.ensures ∙ with_items_is c.in_ok-of.of c.number_parts.new.of long in
    let numbered = subst (λ (rows : List (List ℕ)). AreNumbered rows c.in_ok-count.count (length rows) c.number_parts.new.of) c.in_ok-rows.ensures c.in_ok-count.ensures in
    subst (λ (t : Town). AreParts t c.in_ok-count.count c.from_vec.result) c.town-town.ensures
    (subst (λ (os : List (Option ℕ)). AreParts town c.in_ok-count.count os) (sym of) (are_parts town c.in_ok-count.count c.number_parts.new.of numbered))
