-- A chain has no more inner sets than junctions.
use Rattle.std.proofs.Common.{◌≡◌, ℕ, ◌+◌, ◌-◌, ◌*◌, ◌<◌, ◌≤◌, Bool, true, false, ◌&&◌, ◌==◌, List, ◌%◌, length, get_or, Contains, refl, ◌∙◌, subst, arith}
use Rattle.std.specs.Prelude.{slice_index, nat_le}
use Rattle.std.specs.List.{list_any, list_all, range_with_len}
use Rattle.std.proofs.lemmas.Bool.{and_parts, eqb-true, leb-true}
use Rattle.std.proofs.lemmas.List.FromFn.{length-range_with_len, get_or-range_with_len}
use Rattle.std.proofs.lemmas.List.{get_or_default}
use Rattle.wrp_town.specs.declared.town.Town.{Town}
use Rattle.wrp_town.specs.Arcs.{is_required, tail_of, head_of}
use Rattle.wrp_town.proofs.Lists.{list_all-at}
use Rattle.wrp_town.proofs.Members.{member_from_any}
use Rattle.wrp_town.proofs.TownLaws.{tail_of-below}
use Rattle.wrp_rules.specs.Rows.{is_held, inner_sets_hold, streets_keep_sets, joining_demands, is_chain}
use Rattle.wrp_rules.specs.Rules.{is_partition}
use Rattle.wrp_rows.proofs.Ranges.{enough_places}

-- a set that holds a street is the set of a junction
held_inside : (town : Town) (of : List ℕ) (i : ℕ) → length of ≡ length town.junctions → list_any (is_held town of i) (range_with_len 0 (length town.streets)) ≡ true → Contains of i
held_inside town of i many held =
    let m = member_from_any (is_held town of i) (range_with_len 0 (length town.streets)) held in
    let street = m.0 in
    let small : street < length town.streets = inside_range (length town.streets) street m.1 in
    let parts = and_parts (is_required town street && (slice_index of (tail_of town (2 * street)) == i)) (slice_index of (head_of town (2 * street)) == i) m.2 in
    let at : slice_index of (tail_of town (2 * street)) ≡ i = eqb-true (slice_index of (tail_of town (2 * street))) i (and_parts (is_required town street) (slice_index of (tail_of town (2 * street)) == i) parts.0).1 in
    let inside : tail_of town (2 * street) < length of = omega (arith, tail_of-below town (2 * street) (omega arith)) in
    (tail_of town (2 * street), inside, get_or_default of (tail_of town (2 * street)) i 0 inside ∙ at)
  where
    inside_range : (n x : ℕ) → Contains (range_with_len 0 n) x → x < n
    inside_range n x (k, below, is) =
        let small : k < n = omega (arith, length-range_with_len 0 n) in
        omega (arith, get_or-range_with_len 0 n k x small)

few_inner_sets : (town : Town) (k : ℕ) (of : List ℕ) → length of ≡ length town.junctions → inner_sets_hold town k of ≡ true → k - 1 ≤ length town.junctions
few_inner_sets town k of many hold =
    let each = λ (i : ℕ) (below : i < k - 1).
    let small : i < length (range_with_len 1 (k - 1)) = omega (arith, length-range_with_len 1 (k - 1)) in
    let at : get_or (range_with_len 1 (k - 1)) i 0 ≡ i + 1 = get_or-range_with_len 1 (k - 1) i 0 below ∙ omega arith in
    held_inside town of (i + 1) many
    (subst (λ (j : ℕ). list_any (is_held town of j) (range_with_len 0 (length town.streets)) ≡ true) at (list_all-at (λ (j : ℕ). list_any (is_held town of j) (range_with_len 0 (length town.streets))) (range_with_len 1 (k - 1)) i 0 hold small)) in
    omega (arith, enough_places (k - 1) of each)

-- with more of them it is no chain
pub long_is_no_chain : (town : Town) (k : ℕ) (of : List ℕ) → length of ≡ length town.junctions → length town.junctions < k - 1 → is_chain town k of ≡ false
long_is_no_chain town k of many long = by (is_chain town k of) refl
  where
    by : (t : Bool) → is_chain town k of ≡ t → t ≡ false
    by true chain =
        let a = and_parts (inner_sets_hold town k of && (joining_demands town k of % 2 == 0) && nat_le 2 (joining_demands town k of)) (streets_keep_sets town k of) chain in
        let b = and_parts (inner_sets_hold town k of && (joining_demands town k of % 2 == 0)) (nat_le 2 (joining_demands town k of)) a.0 in
        let c = and_parts (inner_sets_hold town k of) (joining_demands town k of % 2 == 0) b.0 in
        absurd (omega (arith, few_inner_sets town k of many c.0))
    by false none = refl

-- a partition has one set number for each junction, none above k, and k is at least 3
pub record IsPartition (town : Town) (k : ℕ) (of : List ℕ) : Type 0 where
  pub many : length of ≡ length town.junctions
  pub long : 3 ≤ k
  pub low : list_all (λ i. nat_le i k) of ≡ true

pub partition_parts : (town : Town) (k : ℕ) (of : List ℕ) → is_partition town k of ≡ true → IsPartition town k of
partition_parts town k of is =
    let a = and_parts ((length of == length town.junctions) && nat_le 3 k) (list_all (λ i. nat_le i k) of) is in
    let b = and_parts (length of == length town.junctions) (nat_le 3 k) a.0 in
    record { many = eqb-true (length of) (length town.junctions) b.0; long = leb-true 3 k b.1; low = a.1 }
