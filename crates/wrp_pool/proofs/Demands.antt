-- Counts of demands, one street after another.
use Rattle.std.proofs.Common.{◌≡◌, ℕ, ◌+◌, ◌*◌, ◌<◌, ◌≤◌, Bool, true, false, cond, not, ◌&&◌, ◌||◌, ◌==◌, slice_index, List, length, drop, get_or, count_by, ap, refl, sym, ◌∙◌, arith}
use Rattle.std.proofs.lemmas.List.Sums.{sum_by-append, count_by-le-length}
use Rattle.wrp_town.specs.declared.street.Need.{Need}
use Rattle.wrp_town.specs.declared.street.Need.TheVariants.{No, Either, Forward, Backward, Both}
use Rattle.wrp_town.specs.declared.street.Street.{Street}
use Rattle.wrp_town.specs.declared.town.Town.{Town}
use Rattle.wrp_town.specs.Streets.{forward_arc, demands_at, demands_from}
use Rattle.wrp_town.specs.Arcs.{demands}
use Rattle.wrp_town.proofs.DemandLaws.{demands_from-drop_read, demands_from-drop_end}
use Rattle.wrp_town.proofs.TownLaws.{few_demands}
use Rattle.wrp_rules.specs.Sets.{is_in, crosses, arc_at}
use Rattle.wrp_rules.specs.Rows.{joins_ends}
use Rattle.wrp_rules.proofs.TwoWays.{both_ways_same, over_turned}

-- a test that both arcs of a street pass alike counts all demands of the street or none
pub counted_at : (q : ℕ → Bool) (s : ℕ) (need : Need) → q (2 * s) ≡ q (2 * s + 1) → count_by (λ d. q (arc_at d)) (demands_at s need) ≡ cond (q (2 * s)) (length (demands_at s need)) 0
counted_at q s No both = by (q (2 * s))
  where
    by : (t : Bool) → 0 ≡ cond {A = ℕ} t 0 0
    by true = refl
    by false = refl
counted_at q s Either both = by (q (2 * s))
  where
    by : (t : Bool) → 0 + cond {A = ℕ} t 1 0 ≡ cond t 1 0
    by true = refl
    by false = refl
counted_at q s Forward both = by (q (2 * s))
  where
    by : (t : Bool) → 0 + cond {A = ℕ} t 1 0 ≡ cond t 1 0
    by true = refl
    by false = refl
counted_at q s Backward both = ap (λ (t : Bool). 0 + cond {A = ℕ} t 1 0) (sym both) ∙ by (q (2 * s))
  where
    by : (t : Bool) → 0 + cond {A = ℕ} t 1 0 ≡ cond t 1 0
    by true = refl
    by false = refl
counted_at q s Both both = ap (λ (t : Bool). 0 + cond {A = ℕ} (q (2 * s)) 1 0 + cond t 1 0) (sym both) ∙ by (q (2 * s))
  where
    by : (t : Bool) → 0 + cond {A = ℕ} t 1 0 + cond t 1 0 ≡ cond t 2 0
    by true = refl
    by false = refl

-- a set is crossed by both arcs of a street or by none
crosses_both_ways : (town : Town) (set : List ℕ) (s : ℕ) → crosses town set (2 * s) ≡ crosses town set (2 * s + 1)
crosses_both_ways town set s = both_ways_same town (λ u v. (is_in set u && not (is_in set v)) || (not (is_in set u) && is_in set v)) (λ u v. over_turned (is_in set u) (is_in set v)) s

pub crossing_here : (town : Town) (set : List ℕ) (s : ℕ) (need : Need) → count_by (λ d. crosses town set (arc_at d)) (demands_at s need) ≡ cond (crosses town set (forward_arc s)) (length (demands_at s need)) 0
crossing_here town set s need = counted_at (crosses town set) s need (crosses_both_ways town set s)

-- ---- one street after another

module _ (p : List ℕ → Bool) (streets items : List Street) (i : ℕ) (street : Street) (same : items ≡ streets) where
  -- the demands of a street, and those of the streets after it
  pub counted_read : i < length items → street ≡ get_or items i street → count_by p (demands_from i (drop i streets)) ≡ count_by p (demands_at i street.need) + count_by p (demands_from (i + 1) (drop (i + 1) streets))
  counted_read below is =
      ap (count_by p) (demands_from-drop_read streets items i street same below is)
      ∙ sum_by-append (λ d. cond (p d) 1 0) (demands_at i street.need) (demands_from (i + 1) (drop (i + 1) streets))

-- none are left behind the last
pub counted_end : (p : List ℕ → Bool) (streets items : List Street) (i : ℕ) → items ≡ streets → length items ≤ i → count_by p (demands_from i (drop i streets)) ≡ 0
counted_end p streets items i same past = ap (count_by p) (demands_from-drop_end streets items i same past)

-- there are few
pub few_counted : (town : Town) (p : List ℕ → Bool) → count_by p (demands town) ≤ 4000
few_counted town p = omega (arith, count_by-le-length p (demands town), few_demands town)

-- both arcs of a street join the first set and the last, or none does
joins_both_ways : (town : Town) (last : ℕ) (of : List ℕ) (s : ℕ) → joins_ends town last of (2 * s) ≡ joins_ends town last of (2 * s + 1)
joins_both_ways town last of s =
    both_ways_same town (λ u v. ((slice_index of u == 0) && (slice_index of v == last)) || ((slice_index of u == last) && (slice_index of v == 0)))
    (λ u v. turned (slice_index of u == 0) (slice_index of v == last) (slice_index of u == last) (slice_index of v == 0)) s
  where
    turned : (a b c d : Bool) → ((a && b) || (c && d)) ≡ ((d && c) || (b && a))
    turned true true c d = by (d && c)
      where
        by : (t : Bool) → true ≡ (t || true)
        by true = refl
        by false = refl
    turned true false true true = refl
    turned true false true false = refl
    turned true false false true = refl
    turned true false false false = refl
    turned false true true true = refl
    turned false true true false = refl
    turned false true false true = refl
    turned false true false false = refl
    turned false false true true = refl
    turned false false true false = refl
    turned false false false true = refl
    turned false false false false = refl

pub joining_here : (town : Town) (last : ℕ) (of : List ℕ) (s : ℕ) (need : Need) → count_by (λ d. joins_ends town last of (arc_at d)) (demands_at s need) ≡ cond (joins_ends town last of (forward_arc s)) (length (demands_at s need)) 0
joining_here town last of s need = counted_at (joins_ends town last of) s need (joins_both_ways town last of s)
