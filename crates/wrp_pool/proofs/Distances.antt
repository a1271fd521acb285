-- The row of a K-C cut, arc after arc.
use Rattle.std.proofs.Common.{◌≡◌, ℕ, ◌+◌, ◌-◌, ◌*◌, ◌<◌, ◌≤◌, Bool, true, false, cond, ◌&&◌, ◌==◌, ℤ, unsigned_abs, List, [], ◌∷◌, ◌++◌, length, slice_index, filter, ap, refl, sym, ◌∙◌, subst, arith, mul-le-mul}
use Rattle.std.specs.Prelude.{if◌then◌else◌, nat_le}
use Rattle.std.specs.Int.{abs_diff}
use Rattle.std.specs.List.{list_all, range_with_len}
use Rattle.std.proofs.lemmas.Bool.{and_parts, leb-true}
use Rattle.std.proofs.lemmas.Grind.{flat_map-append}
use Rattle.std.proofs.lemmas.List.{append_assoc}
use Rattle.std.proofs.lemmas.List.Elements.{filter-append, filter_passes}
use Rattle.wrp_town.specs.declared.town.Town.{Town}
use Rattle.wrp_town.specs.Arcs.{is_legal, tail_of, head_of, arcs, legal_arcs}
use Rattle.wrp_town.proofs.Lists.{range_with_len-more, list_all-at}
use Rattle.wrp_town.proofs.TownLaws.{few_junctions, legal_below, tail_of-below, head_of-below}
use Rattle.wrp_rules.specs.Rules.{is_partition}
use Rattle.wrp_rules.specs.Rows.{joins_ends, joining_demands, chain_distance, kc_row, is_chain}
use Rattle.wrp_rules.specs.Sets.{arc_at}
use Rattle.wrp_rules.proofs.LegalArcs.{legal_once}
use Rattle.wrp_pool.specs.declared.row.Pool.{Pool}
use Rattle.wrp_pool.specs.Pools.{sparse_row, most_right_side, IsRow}
use Rattle.wrp_pool.specs.Cuts.{term_unless_zero, terms_unless_zero, Gains}
use Rattle.wrp_pool.specs.Chains.{distance_at}
use Rattle.wrp_pool.proofs.Listed.{times, nonzero_row}
use Rattle.wrp_pool.proofs.Borders.{times_legal}
use Rattle.wrp_pool.proofs.Demands.{few_counted}
use Rattle.wrp_pool.proofs.Holders.{few_sets, partition_long}

-- the terms of one arc more
pub distances_more : (town : Town) (f : ℕ → ℤ) (n : ℕ) (initial old new : List (ℕ × ℤ)) → old ≡ initial ++ terms_unless_zero f (filter (is_legal town) (range_with_len 0 n)) → new ≡ old ++ terms_unless_zero f (if is_legal town n then n ∷ [] else [])
    → new ≡ initial ++ terms_unless_zero f (filter (is_legal town) (range_with_len 0 (n + 1)))
distances_more town f n initial old new are added =
    added
    ∙ ap (λ (ts : List (ℕ × ℤ)). ts ++ terms_unless_zero f (filter (is_legal town) (n ∷ []))) are
    ∙ append_assoc initial _ _
    ∙ ap (λ (ts : List (ℕ × ℤ)). initial ++ ts) (sym (flat_map-append (λ arc. term_unless_zero arc (f arc)) (filter (is_legal town) (range_with_len 0 n)) (filter (is_legal town) (n ∷ []))))
    ∙ ap (λ (xs : List ℕ). initial ++ terms_unless_zero f xs) (sym (filter-append (is_legal town) (range_with_len 0 n) (n ∷ [])))
    ∙ ap (λ (xs : List ℕ). initial ++ terms_unless_zero f (filter (is_legal town) xs)) (sym (range_with_len-more 0 n n (omega arith)))

-- ---- sizes

-- few sets, and few demands that join the first and the last
pub last_is_small : (town : Town) (last : ℕ) (of : List ℕ) → is_partition town last of ≡ true → is_chain town last of ≡ true → last ≤ 2001
last_is_small town last of is chain = omega (arith, few_sets town last of is chain, partition_long town last of is, few_junctions town)

pub least_last : (town : Town) (last : ℕ) (of : List ℕ) → is_partition town last of ≡ true → 3 ≤ last
least_last town last of is =
    leb-true 3 last (and_parts (length of == length town.junctions) (nat_le 3 last) (and_parts ((length of == length town.junctions) && nat_le 3 last) (list_all (λ i. nat_le i last) of) is).0).1

pub few_joining : (town : Town) (last : ℕ) (of : List ℕ) → joining_demands town last of ≤ 4000
few_joining town last of = few_counted town (λ d. joins_ends town last of (arc_at d))

pub product_fits : (last joining : ℕ) → last ≤ 2001 → joining ≤ 4000 → (last - 2) * joining ≤ 7996000
product_fits last joining few little = let less : last - 2 ≤ 1999 = omega arith in mul-le-mul less little

-- the sets of two ends are at most so far apart
pub distance_most : (town : Town) (last : ℕ) (of : List ℕ) (arc : ℕ) → is_partition town last of ≡ true → is_legal town arc ≡ true → chain_distance town last of arc ≤ last
distance_most town last of arc is legal = by (joins_ends town last of arc)
  where
    numbered : (j : ℕ) → j < length town.junctions → slice_index of j ≤ last
    numbered j below =
        leb-true (slice_index of j) last
        (list_all-at (λ i. nat_le i last) of j 0 (and_parts ((length of == length town.junctions) && nat_le 3 last) (list_all (λ i. nat_le i last) of) is).1 (omega (arith, below, partition_long town last of is)))

    tail : slice_index of (tail_of town arc) ≤ last
    tail = numbered (tail_of town arc) (tail_of-below town arc (legal_below town arc legal))

    head : slice_index of (head_of town arc) ≤ last
    head = numbered (head_of town arc) (head_of-below town arc (legal_below town arc legal))

    by : (t : Bool) → (if t then last - 2 else abs_diff (slice_index of (tail_of town arc)) (slice_index of (head_of town arc))) ≤ last
    by true = omega arith
    by false = omega (arith, tail, head)

-- ---- the row

pub kc_gained : (town : Town) (last : ℕ) (of : List ℕ) (old new : Pool) (bare terms : List (ℕ × ℤ)) (side : ℤ)
    → is_partition town last of ≡ true → is_chain town last of ≡ true
    → side ≡ (kc_row town last of).right_side → unsigned_abs side ≤ most_right_side
    → terms ≡ bare ++ terms_unless_zero (distance_at town last of) (legal_arcs town) → bare ≡ [] → new.rows ≡ old.rows ++ sparse_row terms side ∷ []
    → Gains town (kc_row town last of) old new
kc_gained town last of old new bare terms side partition chain same fits are empty added = record {
  sparse = sparse_row terms side;
  added = added;
  is_row = subst (λ z. IsRow town (sparse_row terms z) (kc_row town last of)) (sym same)
      (subst (λ ts. IsRow town (sparse_row ts (kc_row town last of).right_side) (kc_row town last of)) (sym (are ∙ ap (λ (ts : List (ℕ × ℤ)). ts ++ terms_unless_zero (distance_at town last of) (legal_arcs town)) empty))
      (nonzero_row town (distance_at town last of) (legal_arcs town) (kc_row town last of)
      (λ arc. once arc (is_legal town arc) (times_legal town arc))
      (filter_passes (is_legal town) (arcs town))
      (λ k d below. omega (arith, distance_most town last of _ partition (filter_passes (is_legal town) (arcs town) k d below), last_is_small town last of partition chain))
      (λ arc legal one. refl)
      (λ arc legal none. absurd (omega (arith, legal_once town arc legal, none)))
      (subst (λ z. unsigned_abs z ≤ most_right_side) same fits)));
}
  where
    once : (arc : ℕ) (t : Bool) → times (legal_arcs town) arc ≡ cond t 1 0 → times (legal_arcs town) arc ≤ 1
    once arc true e = omega (arith, e)
    once arc false e = omega (arith, e)
