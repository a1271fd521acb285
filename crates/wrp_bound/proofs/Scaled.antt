-- Multipliers that are scaled fit a bound, and are the same where they fit already.
use Rattle.std.proofs.Common.{◌≡◌, ℕ, zero, suc, ◌+◌, ◌-◌, ◌*◌, ◌/◌, ◌^◌, ◌<◌, ◌≤◌, max, Bool, true, false, ◌&&◌, ◌==◌, not, AllPairs, ℤ, pos, List, [], ◌∷◌, ◌++◌, map, length, get_or, take, filter, unsigned_abs, inl, inr, ap, refl, sym, ◌∙◌, subst, arith, length-append}
use Rattle.std.specs.Prelude.{nat_le, nat_lt, if◌then◌else◌}
use Rattle.std.specs.List.{All, list_all}
use Rattle.std.proofs.lemmas.Bool.{and_from, le-leb, lt-ltb, le-ltb, eqb-false, cases_lt, not-true}
use Rattle.std.proofs.lemmas.List.{map-append, length-map, get_or-map, length-take, length-take-le, get_or-take, take_all, take-append-le, take_more, append-nil}
use Rattle.std.proofs.lemmas.List.Elements.{All-map, All-take, All-filter, All-weaker, filter-append, filter_passes}
use Rattle.std.proofs.lemmas.List.Kept.{AllPairs-filter}
use Rattle.std.proofs.Math.Nat.{div-lt_iff_lt-mul}
use Rattle.wrp_rules.specs.Ranges.{most_multipliers, is_from_one, is_ascending, are_pairs, are_multipliers}
use Rattle.wrp_bound.specs.Mults.{most_denominator, most_multiplier, greatest, scale_of, scaled, with_pair, without_zeros, FitABound}

-- ---- the greatest

pub none_greater : (mult : List (ℕ × ℤ)) → All (λ q. unsigned_abs q.1 ≤ greatest mult) mult
none_greater [] k d below = absurd (omega arith)
none_greater (q ∷ mult) zero d below = omega arith
none_greater (q ∷ mult) (suc k) d below = let h = none_greater mult k d (omega arith) in omega arith

pub greatest_low : (mult : List (ℕ × ℤ)) (most : ℕ) → All (λ q. unsigned_abs q.1 ≤ most) mult → greatest mult ≤ most
greatest_low [] most all = omega arith
greatest_low (q ∷ mult) most all =
    let first : unsigned_abs q.1 ≤ most = all 0 q (omega arith) in
    let rest = greatest_low mult most (λ k d below. all (suc k) d (omega arith)) in
    omega arith

-- ---- one pair after another

-- the pair of one multiplier
abbrev scaled_pair : ℕ → ℕ × ℤ → ℕ × ℕ
scaled_pair scale q = (q.0, unsigned_abs q.1 / scale)

scaled_more : (scale : ℕ) (mult : List (ℕ × ℤ)) (i : ℕ) (d : ℕ × ℤ) → i < length mult → scaled scale (take (i + 1) mult) ≡ scaled scale (take i mult) ++ filter (λ (q : ℕ × ℕ). not (q.1 == 0)) (scaled_pair scale (get_or mult i d) ∷ [])
scaled_more scale mult i d below =
    let kept = λ (q : ℕ × ℕ). not (q.1 == 0) in
    ap (λ (qs : List (ℕ × ℤ)). filter kept (map (scaled_pair scale) qs)) (take_more mult i d below)
    ∙ ap (filter kept) (map-append (scaled_pair scale) (take i mult) (get_or mult i d ∷ []))
    ∙ filter-append kept (map (scaled_pair scale) (take i mult)) (scaled_pair scale (get_or mult i d) ∷ [])

-- the first of a list with one more item
take_push : (n : ℕ) (xs : List (ℕ × ℕ)) (x : ℕ × ℕ) → (if nat_lt (length (take n xs)) n then take n xs ++ x ∷ [] else take n xs) ≡ take n (xs ++ x ∷ [])
take_push n xs x =
    elim (cases_lt (length xs) n) [
      | inl room ↦ (
          let whole : take n xs ≡ xs = take_all n xs (omega arith) in
          let free : nat_lt (length (take n xs)) n ≡ true = lt-ltb (length (take n xs)) n (omega (arith, ap length whole)) in
          ap (λ (t : Bool). if t then take n xs ++ x ∷ [] else take n xs) free
          ∙ ap (λ (ys : List (ℕ × ℕ)). ys ++ x ∷ []) whole
          ∙ sym (take_all n (xs ++ x ∷ []) (omega (arith, length-append xs (x ∷ []))))
          )
      | inr full ↦ (
          let none : nat_lt (length (take n xs)) n ≡ false = le-ltb (length (take n xs)) n (omega (arith, length-take-le n xs full)) in
          ap (λ (t : Bool). if t then take n xs ++ x ∷ [] else take n xs) none
          ∙ sym (take-append-le n xs (x ∷ []) full)
          )
    ]

pushed_by : (some : Bool) (xs : List (ℕ × ℕ)) (x : ℕ × ℕ) → not (x.1 == 0) ≡ some → with_pair (take most_multipliers xs) x ≡ take most_multipliers (xs ++ filter (λ (q : ℕ × ℕ). not (q.1 == 0)) (x ∷ []))
pushed_by true xs x is = rw is (take_push most_multipliers xs x)
pushed_by false xs x is = rw is (ap (take most_multipliers) (sym (append-nil xs)))

pub scaled_step : (scale : ℕ) (mult : List (ℕ × ℤ)) (i : ℕ) (d : ℕ × ℤ) (old new : List (ℕ × ℕ)) → i < length mult → old ≡ take most_multipliers (scaled scale (take i mult)) → new ≡ with_pair old (scaled_pair scale (get_or mult i d)) → new ≡ take most_multipliers (scaled scale (take (i + 1) mult))
scaled_step scale mult i d old new below before added =
    added
    ∙ ap (λ (qs : List (ℕ × ℕ)). with_pair qs (scaled_pair scale (get_or mult i d))) before
    ∙ pushed_by (not ((scaled_pair scale (get_or mult i d)).1 == 0)) (scaled scale (take i mult)) (scaled_pair scale (get_or mult i d)) refl
    ∙ ap (take most_multipliers) (sym (scaled_more scale mult i d below))

-- ---- the ranges

-- what is divided by the scale is low
pub scaled_low : (scale : ℕ) (mult : List (ℕ × ℤ)) → greatest mult / scale ≤ most_multiplier → 0 < scale → All (λ q. unsigned_abs q.1 / scale ≤ most_multiplier) mult
scaled_low scale mult low positive k d below =
    let most = greatest mult in
    let under : most < (most_multiplier + 1) * scale = (div-lt_iff_lt-mul positive).0 (omega arith) in
    let own = none_greater mult k d below in
    let small : unsigned_abs (get_or mult k d).1 / scale < most_multiplier + 1 = (div-lt_iff_lt-mul positive).1 (omega arith) in
    omega arith

all_list : {X : Type 0} (p : X → Bool) (xs : List X) → All (λ x. p x ≡ true) xs → list_all p xs ≡ true
all_list p [] all = refl
all_list p (x ∷ xs) all = and_from (p x) (list_all p xs) (all 0 x (omega arith)) (all_list p xs (λ k d below. all (suc k) d (omega arith)))

ascending_from : (most : ℕ) (xs : List ℕ) → AllPairs (λ x y. x < y) xs → All (λ x. x ≤ most) xs → is_ascending most xs ≡ true
ascending_from most [] ascending low = refl
ascending_from most (x ∷ xs) ascending low =
    and_from (nat_le x most && list_all (nat_lt x) xs) (is_ascending most xs)
    (and_from (nat_le x most) (list_all (nat_lt x) xs) (le-leb x most (low 0 x (omega arith)))
    (all_list (nat_lt x) xs (λ k d below. lt-ltb x (get_or xs k d) (ascending 0 (suc k) d (omega arith) (omega arith)))))
    (ascending_from most xs (λ i j d less below. ascending (suc i) (suc j) d (omega arith) (omega arith)) (λ k d below. low (suc k) d (omega arith)))

-- the rows ascend as they did
ascending_scaled : (scale : ℕ) (mult : List (ℕ × ℤ)) → AllPairs (λ p q. p.0 < q.0) mult → AllPairs (λ p q. p.0 < q.0) (scaled scale mult)
ascending_scaled scale mult ascending =
    AllPairs-filter (λ (p q : ℕ × ℕ). p.0 < q.0) (λ (q : ℕ × ℕ). not (q.1 == 0)) (map (scaled_pair scale) mult)
    (λ i j d less below.
    let second : j < length mult = omega (arith, length-map mult (scaled_pair scale)) in
    let first : i < length mult = omega arith in
    rw (get_or-map (scaled_pair scale) mult i (0, pos 0) d first, get_or-map (scaled_pair scale) mult j (0, pos 0) d second) (ascending i j (0, pos 0) less second))

taken_pairs : (n : ℕ) (pairs : List (ℕ × ℕ)) → AllPairs (λ p q. p.0 < q.0) pairs → AllPairs (λ p q. p.0 < q.0) (take n pairs)
taken_pairs n pairs ascending i j d less below =
    let few = length-take n pairs in
    let second : j < n = omega arith in
    let first : i < n = omega arith in
    rw (get_or-take n pairs i d first, get_or-take n pairs j d second) (ascending i j d less (omega arith))

firsts_ascend : (pairs : List (ℕ × ℕ)) → AllPairs (λ p q. p.0 < q.0) pairs → AllPairs (λ x y. x < y) (map (λ (q : ℕ × ℕ). q.0) pairs)
firsts_ascend pairs ascending i j d less below =
    let first_of = λ (q : ℕ × ℕ). q.0 in
    let second : j < length pairs = omega (arith, length-map pairs first_of) in
    let first : i < length pairs = omega arith in
    rw (get_or-map first_of pairs i (0, 0) d first, get_or-map first_of pairs j (0, 0) d second) (ascending i j (0, 0) less second)

in_range : (n : ℕ) → not (n == 0) ≡ true → n ≤ most_multiplier → is_from_one most_multiplier n ≡ true
in_range n some low =
    let positive = eqb-false n 0 (not-true (n == 0) some) in
    and_from (nat_le 1 n) (nat_le n most_multiplier) (le-leb 1 n (omega arith)) (le-leb n most_multiplier low)

pub scaled_in_ranges : (scale : ℕ) (mult : List (ℕ × ℤ)) (pairs : List (ℕ × ℕ)) → AllPairs (λ p q. p.0 < q.0) mult → All (λ q. unsigned_abs q.1 / scale ≤ most_multiplier) mult → pairs ≡ take most_multipliers (scaled scale mult) → All (λ q. q.0 < 2 ^ 32) pairs → are_multipliers most_multiplier pairs ≡ true
scaled_in_ranges scale mult pairs ascending low is rows =
    let whole = scaled scale mult in
    let kept = λ (q : ℕ × ℕ). not (q.1 == 0) in
    let up : AllPairs (λ (p q : ℕ × ℕ). p.0 < q.0) pairs = subst (λ (ps : List (ℕ × ℕ)). AllPairs (λ (p q : ℕ × ℕ). p.0 < q.0) ps) (sym is) (taken_pairs most_multipliers whole (ascending_scaled scale mult ascending)) in
    let some : All (λ (q : ℕ × ℕ). not (q.1 == 0) ≡ true) pairs = subst (λ (ps : List (ℕ × ℕ)). All (λ (q : ℕ × ℕ). not (q.1 == 0) ≡ true) ps) (sym is) (All-take (λ (q : ℕ × ℕ). not (q.1 == 0) ≡ true) most_multipliers whole (filter_passes kept (map (scaled_pair scale) mult))) in
    let small : All (λ (q : ℕ × ℕ). q.1 ≤ most_multiplier) pairs = subst (λ (ps : List (ℕ × ℕ)). All (λ (q : ℕ × ℕ). q.1 ≤ most_multiplier) ps) (sym is)
    (All-take (λ (q : ℕ × ℕ). q.1 ≤ most_multiplier) most_multipliers whole (All-filter kept (λ (q : ℕ × ℕ). q.1 ≤ most_multiplier) (map (scaled_pair scale) mult) (All-map (λ (q : ℕ × ℕ). q.1 ≤ most_multiplier) (scaled_pair scale) mult low))) in
    and_from (are_pairs most_multiplier pairs) (nat_le (length pairs) most_multipliers)
    (and_from (is_ascending (2 ^ 32 - 1) (map (λ (q : ℕ × ℕ). q.0) pairs)) (list_all (λ q. is_from_one most_multiplier q.1) pairs)
    (ascending_from (2 ^ 32 - 1) (map (λ (q : ℕ × ℕ). q.0) pairs) (firsts_ascend pairs up)
    (All-map (λ (x : ℕ). x ≤ 2 ^ 32 - 1) (λ (q : ℕ × ℕ). q.0) pairs (All-weaker (λ (q : ℕ × ℕ). q.0 < 2 ^ 32) (λ (q : ℕ × ℕ). q.0 ≤ 2 ^ 32 - 1) (λ q h. omega arith) pairs rows)))
    (all_list (λ q. is_from_one most_multiplier q.1) pairs (λ k d below. in_range (get_or pairs k d).1 (some k d below) (small k d below))))
    (le-leb (length pairs) most_multipliers (omega (arith, ap length is, length-take most_multipliers whole)))

-- ---- what fits stays

-- the pair of one multiplier as it is
abbrev plain_pair : ℕ × ℤ → ℕ × ℕ
plain_pair q = (q.0, unsigned_abs q.1)

map_by_one : (mult : List (ℕ × ℤ)) → map (scaled_pair 1) mult ≡ map plain_pair mult
map_by_one [] = refl
map_by_one (q ∷ mult) =
    let same : unsigned_abs q.1 / 1 ≡ unsigned_abs q.1 = omega arith in
    let first : scaled_pair 1 q ≡ plain_pair q = cc in
    let rest = map_by_one mult in
    cc

scale_is_one : (den : ℤ) (mult : List (ℕ × ℤ)) → FitABound den mult → scale_of (unsigned_abs den) (greatest mult) ≡ 1
scale_is_one den mult fit =
    let low = le-leb (unsigned_abs den) most_denominator fit.low in
    let light = le-leb (greatest mult) most_multiplier (greatest_low mult most_multiplier fit.light) in
    rw (low, light) refl

pub same_where_fit : (den : ℤ) (mult : List (ℕ × ℤ)) (scale number : ℕ) (pairs : List (ℕ × ℕ)) → FitABound den mult → 0 < unsigned_abs den → scale ≡ scale_of (unsigned_abs den) (greatest mult) → number ≡ max (unsigned_abs den / scale) 1 → pairs ≡ take most_multipliers (scaled scale mult) → (number ≡ unsigned_abs den) × (pairs ≡ without_zeros mult)
same_where_fit den mult scale number pairs fit positive is number_is pairs_are =
    let one : scale ≡ 1 = is ∙ scale_is_one den mult fit in
    let kept = λ (q : ℕ × ℕ). not (q.1 == 0) in
    let same : scaled scale mult ≡ without_zeros mult = ap (λ (n : ℕ). scaled n mult) one ∙ ap (filter kept) (map_by_one mult) in
    let whole : unsigned_abs den / 1 ≡ unsigned_abs den = omega arith in (
      number_is ∙ ap (λ (n : ℕ). max (unsigned_abs den / n) 1) one ∙ ap (λ (n : ℕ). max n 1) whole ∙ omega arith,
      pairs_are ∙ ap (take most_multipliers) same ∙ take_all most_multipliers (without_zeros mult) fit.few,
    )
