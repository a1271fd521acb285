-- Sets of the net between parts decide the connectivity rows.
use Rattle.std.proofs.Common.{◌≡◌, ◌≢◌, ℕ, ◌*◌, ◌/◌, ◌%◌, ◌<◌, ◌≤◌, Bool, true, false, cond, ◌&&◌, ◌||◌, not, pos, List, length, get_or, ap, refl, sym, ◌∙◌, subst, inl, inr, ◌⊎◌, arith, Option, Some}
use Rattle.std.proofs.lemmas.Bool.{cases_eq, cases_Bool, true≢false}
use Rattle.wrp_sums.proofs.Integers.{≤-from_pos}
use Rattle.wrp_town.specs.declared.town.Town.{Town}
use Rattle.wrp_town.specs.Arcs.{tail_of, head_of, is_required}
use Rattle.wrp_town.proofs.TownLaws.{tail_of-below, head_of-below, some_value}
use Rattle.wrp_parts.specs.RequiredParts.{AreParts, part_at}
use Rattle.wrp_webs.specs.Webs.{outside}
use Rattle.wrp_webs.specs.TownWebs.{IsOnLegal, IsBalanced, out_of_set, part_node, IsUncrossed}
use Rattle.wrp_webs.proofs.SumsBelow.{same_sum}
use Rattle.wrp_webs.proofs.ConnRows.{leaving_outside}
use Rattle.wrp_webs.proofs.PartSets.{uncrossed_keeps, keeps_uncrossed}
use Rattle.wrp_flow.specs.declared.net.Net.{Net}
use Rattle.wrp_flow.specs.Flows.{leaving_in, LeavesAll}
use Rattle.std.specs.Option.{unwrap_or}
use Rattle.std.specs.List.{range_with_len}
use Rattle.std.proofs.lemmas.List.FromFn.{length-range_with_len, get_or-range_with_len}
use Rattle.wrp_town.proofs.Lists.{list_all-at}
use Rattle.wrp_rules.specs.Sets.{is_in, crosses}
use Rattle.wrp_parts.proofs.Edges.{arcs_turned}
use Rattle.wrp_conn.specs.Conns.{is_uncrossed}
use Rattle.wrp_conn.proofs.Streets.{part_has_street}
use Rattle.wrp_conn.specs.Shrunk.{street_at, ArePartStreets, named_by, AreNodes, LeavesAsAt}

module _ (town : Town) (of streets : List (Option ℕ)) (nodes : List ℕ) (at_nodes : AreNodes town of streets nodes) where
  -- a set of junctions that holds all of a part or none is left by what leaves it in the net
  pub leaves_as_net : (x : ℕ → ℕ) (net : Net) → LeavesAsAt town nodes x (2 * length town.streets) net → (set : ℕ → Bool)
      → ((j : ℕ) → j < length town.junctions → set (part_node of (named_by town streets) j) ≡ set j) → leaving_in net set ≡ out_of_set town x set
  leaves_as_net x net leaves set keeps =
      leaves set
      ∙ same_sum (λ a. cond (set (get_or nodes (tail_of town a) 0) && not (set (get_or nodes (head_of town a) 0))) (x a) 0) (λ a. cond (set (tail_of town a) && not (set (head_of town a))) (x a) 0) (2 * length town.streets)
      (λ a below. ap (λ (b : Bool). cond (b && not (set (get_or nodes (head_of town a) 0))) (x a) 0) (at_end (tail_of town a) (tail_of-below town a below))
      ∙ ap (λ (b : Bool). cond (set (tail_of town a) && not b) (x a) 0) (at_end (head_of town a) (head_of-below town a below)))
    where
      at_end : (j : ℕ) → j < length town.junctions → set (get_or nodes j 0) ≡ set j
      at_end j below = ap set (at_nodes.is j below) ∙ keeps j below

  -- where enough leaves each set between one node and each other one, it leaves each set that parts nodes
  pub enough_leaves : (x : ℕ → ℕ) (net : Net) (e s : ℕ) (Node : ℕ → Type 0) → IsOnLegal town x → IsBalanced town x → LeavesAsAt town nodes x (2 * length town.streets) net
      → ((t : ℕ) → Node t → s ≢ t → LeavesAll net s t (pos e))
      → (set : ℕ → Bool) (u v : ℕ) → ((j : ℕ) → j < length town.junctions → set (part_node of (named_by town streets) j) ≡ set j) → Node u → Node v → set u ≡ true → set v ≡ false → e ≤ out_of_set town x set
  enough_leaves x net e s Node on balanced leaves all set u v keeps first second holds out = by (cases_Bool (set s))
    where
      by : (set s ≡ true) ⊎ (set s ≡ false) → e ≤ out_of_set town x set
      by (inl has) =
          omega (arith, ≤-from_pos e (leaving_in net set) (all v second (λ same. true≢false (sym has ∙ ap set same ∙ out)) set has out), leaves_as_net x net leaves set keeps)
      by (inr none) =
          omega (
            arith,
            ≤-from_pos e (leaving_in net (outside set)) (all u first (λ same. true≢false (sym holds ∙ ap set (sym same) ∙ none)) (outside set) (ap not none) (ap not holds)),
            leaves_as_net x net leaves (outside set) (λ j below. ap not (keeps j below)),
            leaving_outside town x on balanced set,
          )

-- ---- parts by their streets

module _ (town : Town) (count : ℕ) (of streets : List (Option ℕ)) (parts : AreParts town count of) (all : ArePartStreets town count of (length town.streets) streets) where
  -- the junction that stands for a part is a junction of it
  pub named_inside : (part j : ℕ) → j < length town.junctions → part_at of j ≡ Some part → (named_by town streets part < length town.junctions) × (part_at of (named_by town streets part) ≡ Some part)
  named_inside part j below has =
      let street = some_value (street_at streets part) (part_has_street town count of parts streets all j part below has) in
      let here : named_by town streets part ≡ tail_of town (2 * street.0) = ap (λ (o : Option ℕ). tail_of town (2 * unwrap_or o 0)) street.1 in
      (omega (arith, here, tail_of-below town (2 * street.0) (omega (arith, all.inside part street.0 street.1))), ap (part_at of) here ∙ all.parts part street.0 street.1)

  pub keeps_parts : (set : ℕ → Bool) → IsUncrossed town set → (j : ℕ) → j < length town.junctions → set (part_node of (named_by town streets) j) ≡ set j
  keeps_parts set uncrossed = uncrossed_keeps town count of parts (named_by town streets) named_inside set uncrossed

  pub parts_kept : (set : ℕ → Bool) → ((j : ℕ) → j < length town.junctions → set (part_node of (named_by town streets) j) ≡ set j) → IsUncrossed town set
  parts_kept set keeps = keeps_uncrossed town count of parts (named_by town streets) named_inside set keeps

-- ---- sets as lists

-- the test of required streets says that of required arcs
pub uncrossed_by_test : (town : Town) (set : List ℕ) → is_uncrossed town set ≡ true → IsUncrossed town (is_in set)
uncrossed_by_test town set test arc below required =
    let s : ℕ = arc / 2 in
    let inside : s < length town.streets = omega arith in
    let passes = list_all-at (λ street. not (is_required town street && crosses town set (2 * street))) (range_with_len 0 (length town.streets)) s 0 test (omega (arith, length-range_with_len 0 (length town.streets))) in
    let here : get_or (range_with_len 0 (length town.streets)) s 0 ≡ s = get_or-range_with_len 0 (length town.streets) s 0 inside ∙ omega arith in
    let uncrossed = subst (λ (k : ℕ). not (is_required town k && crosses town set (2 * k)) ≡ true) here passes in
    let same : is_in set (tail_of town (2 * s)) ≡ is_in set (head_of town (2 * s)) = both_or_none (is_required town s) (is_in set (tail_of town (2 * s))) (is_in set (head_of town (2 * s))) required uncrossed in
    elim (cases_eq (arc % 2) 0) [
      | inl even ↦ (let e : arc ≡ 2 * s = omega arith in ap (λ (k : ℕ). is_in set (tail_of town k)) e ∙ same ∙ ap (λ (k : ℕ). is_in set (head_of town k)) (sym e))
      | inr odd ↦ (
          let turned = arcs_turned town (2 * s) arc (omega arith) (omega arith) (omega arith) odd in
          ap (is_in set) turned.0 ∙ sym same ∙ ap (is_in set) (sym turned.1)
          )
    ]
  where
    both_or_none : (r a b : Bool) → r ≡ true → not (r && ((a && not b) || (not a && b))) ≡ true → a ≡ b
    both_or_none true true true e h = refl
    both_or_none true true false e h = absurd (true≢false (sym h))
    both_or_none true false true e h = absurd (true≢false (sym h))
    both_or_none true false false e h = refl
    both_or_none false a b e h = absurd (true≢false (sym e))
