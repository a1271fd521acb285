-- The parts of a network are those of its town.
use Rattle.std.proofs.Common.{◌≡◌, ℕ, ◌<◌, Bool, true, false, nat_lt, List, length, refl, sym, ap, ◌∙◌, subst, arith, Option, is_some}
use Rattle.std.specs.Option.{option_to_list}
use Rattle.std.specs.List.{flat_map}
use Rattle.std.proofs.lemmas.Bool.{ltb-true}
use Rattle.std.proofs.lemmas.Bool.Decides.{nat_tests}
use Rattle.std.proofs.lemmas.List.{take_all}
use Rattle.wrp_town.specs.declared.town.Town.{Town}
use Rattle.wrp_town.specs.Streets.{come_in_order}
use Rattle.wrp_town.specs.Arcs.{arcs, tail_of, head_of}
use Rattle.wrp_town.proofs.TownLaws.{some_value}
use Rattle.wrp_graph.specs.Sorted.{items_of, buckets_of}
use Rattle.wrp_graph.proofs.Sorting.{map_same}
use Rattle.wrp_graph.proofs.Keyed.{items_of-map}
use Rattle.wrp_parts.specs.RequiredParts.{ends_required, part_at, AreParts}
use Rattle.wrp_parts.specs.Neighbours.{required_arcs, neighbours_at, neighbours_of, required_ends_of}
use Rattle.wrp_parts.specs.Traversal.{AreNumbered}
use Rattle.wrp_parts.proofs.Edges.{length-rows, joined_from_reached, part_of_joined, ended_test}

-- the rows are the sorted ends
pub sorted_rows : (town : Town) (n : ℕ) (entries : List (ℕ × ℕ)) → n ≡ length town.junctions → entries ≡ required_ends_of town (arcs town) → buckets_of n entries ≡ neighbours_of town
sorted_rows town n entries count is =
    ap (λ (m : ℕ). buckets_of m entries) count
    ∙ ap (buckets_of (length town.junctions)) is
    ∙ map_same (items_of (required_ends_of town (arcs town))) (neighbours_at town) (length town.junctions) (λ k small. items_of-map (λ a. (tail_of town a, head_of town a)) k (required_arcs town))

same_test : (b c : Bool) → (b ≡ true → c ≡ true) → (c ≡ true → b ≡ true) → b ≡ c
same_test true c there back = sym (there refl)
same_test false true there back = back refl
same_test false false there back = refl

some_length : (n : ℕ) → 0 < n → nat_lt 0 n ≡ true
some_length n some = grind (arith, nat_tests)

ended_part : (town : Town) (count j : ℕ) (of : List (Option ℕ)) → AreNumbered (neighbours_of town) count (length (neighbours_of town)) of → j < length town.junctions → is_some (part_at of j) ≡ ends_required town j
ended_part town count j of a small =
    same_test (is_some (part_at of j)) (ends_required town j)
    (λ has. let part = some_value (part_at of j) has in ended_test town j small ∙ some_length _ (a.parts.ended j part.0 part.1))
    (λ ends. a.done j (omega (arith, length-rows town)) (ltb-true 0 _ (sym (ended_test town j small) ∙ ends)))

pub are_parts : (town : Town) (count : ℕ) (of : List (Option ℕ)) → AreNumbered (neighbours_of town) count (length (neighbours_of town)) of → AreParts town count of
are_parts town count of a = record {
  each = a.parts.long ∙ length-rows town;
  ended = λ j small. ended_part town count j of a small;
  same = λ i j part small_i small_j is. (λ has. joined_from_reached town i j (a.parts.reached i j part is has), λ joined. part_of_joined town i j count part of a.parts joined is);
  in_order = subst (λ (os : List (Option ℕ)). come_in_order count 0 (flat_map option_to_list os) ≡ true) (take_all (length (neighbours_of town)) of (omega (arith, a.parts.long))) a.in_order;
}
