-- How many demands count for a right side, street after street.
use Rattle.std.proofs.Common.{◌≡◌, ℕ, ◌+◌, ◌*◌, ◌<◌, ◌≤◌, Bool, true, false, cond, ◌&&◌, ◌||◌, ◌==◌, List, length, get_or, drop, count_by, ap, refl, ◌∙◌, arith}
use Rattle.std.specs.Prelude.{slice_index}
use Rattle.std.proofs.lemmas.List.Sums.{sum_by-append}
use Rattle.wrp_town.specs.declared.street.Need.{Need}
use Rattle.wrp_town.specs.declared.street.Need.TheVariants.{No, Either, Forward, Backward, Both}
use Rattle.wrp_town.specs.declared.street.Street.{Street}
use Rattle.wrp_town.specs.declared.town.Town.{Town}
use Rattle.wrp_town.specs.Streets.{demands_at, demands_from}
use Rattle.wrp_town.proofs.DemandLaws.{demands_from-drop_read, demands_from-drop_end}
use Rattle.wrp_rules.specs.Sets.{arc_at}
use Rattle.wrp_rules.proofs.TwoWays.{both_ways_same}
use Rattle.wrp_laws.proofs.Crossings.{over_both_ways}
use Rattle.wrp_rows.specs.declared.pattern.Pattern.{Pattern}
use Rattle.wrp_rows.specs.declared.pattern.Pattern.TheVariants.{Leaving, Crossing, Chain, Sums}
use Rattle.wrp_rows.specs.Marks.{is_marked}
use Rattle.wrp_rows.specs.Patterns.{are_ends, joins_by}

ends_turned : (k i j : ℕ) → are_ends k i j ≡ are_ends k j i
ends_turned k i j = by (i == 0) (j == k) (i == k) (j == 0)
  where
    by : (a b c d : Bool) → ((a && b) || (c && d)) ≡ ((d && c) || (b && a))
    by true true true true = refl
    by true true true false = refl
    by true true false true = refl
    by true true false false = refl
    by true false true true = refl
    by true false true false = refl
    by true false false true = refl
    by true false false false = refl
    by false true true true = refl
    by false true true false = refl
    by false true false true = refl
    by false true false false = refl
    by false false true true = refl
    by false false true false = refl
    by false false false true = refl
    by false false false false = refl

-- both arcs of a street count, or none
joins_both_ways : (town : Town) (pattern : Pattern) (s : ℕ) → joins_by town pattern (2 * s) ≡ joins_by town pattern (2 * s + 1)
joins_both_ways town (Leaving marks) s = refl
joins_both_ways town (Crossing marks) s = over_both_ways town (is_marked marks.now) s
joins_both_ways town (Chain k of) s =
    both_ways_same town (λ u v. are_ends k (slice_index of.now u) (slice_index of.now v)) (λ u v. ends_turned k (slice_index of.now u) (slice_index of.now v)) s
joins_both_ways town (Sums sums) s = refl

-- the demands of a street count, or none of them does
count_at : (q : ℕ → Bool) (s : ℕ) (need : Need) → q (2 * s) ≡ q (2 * s + 1) → count_by (λ d. q (arc_at d)) (demands_at s need) ≡ cond (q (2 * s)) (length (demands_at s need)) 0
count_at q s No same = none_or_none (q (2 * s))
  where
    none_or_none : (t : Bool) → 0 ≡ cond {A = ℕ} t 0 0
    none_or_none true = refl
    none_or_none false = refl
count_at q s Either same = omega arith
count_at q s Forward same = omega arith
count_at q s Backward same = omega (arith, ap (λ (t : Bool). cond {A = ℕ} t 1 0) same)
count_at q s Both same = omega (arith, ap (λ (t : Bool). cond {A = ℕ} t 1 0) same, twice (q (2 * s)))
  where
    twice : (t : Bool) → cond {A = ℕ} t 1 0 + cond t 1 0 ≡ cond t 2 0
    twice true = refl
    twice false = refl

pub demands_more : (town : Town) (pattern : Pattern) (items : List Street) (i : ℕ) (street : Street) → items ≡ town.streets → i < length items → street ≡ get_or items i street
    → count_by (λ d. joins_by town pattern (arc_at d)) (demands_from i (drop i town.streets))
    ≡ cond (joins_by town pattern (2 * i)) (length (demands_at i street.need)) 0 + count_by (λ d. joins_by town pattern (arc_at d)) (demands_from (i + 1) (drop (i + 1) town.streets))
demands_more town pattern items i street same below is =
    let counts = λ (d : List ℕ). joins_by town pattern (arc_at d) in
    ap (count_by counts) (demands_from-drop_read town.streets items i street same below is)
    ∙ sum_by-append (λ d. cond (counts d) 1 0) (demands_at i street.need) (demands_from (i + 1) (drop (i + 1) town.streets))
    ∙ ap (λ (n : ℕ). n + count_by counts (demands_from (i + 1) (drop (i + 1) town.streets))) (count_at (joins_by town pattern) i street.need (joins_both_ways town pattern i))

pub demands_none : (town : Town) (pattern : Pattern) (items : List Street) (i : ℕ) → items ≡ town.streets → length items ≤ i → count_by (λ d. joins_by town pattern (arc_at d)) (demands_from i (drop i town.streets)) ≡ 0
demands_none town pattern items i same past = ap (count_by (λ d. joins_by town pattern (arc_at d))) (demands_from-drop_end town.streets items i same past)
