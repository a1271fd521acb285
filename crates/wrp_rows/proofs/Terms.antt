-- The terms of a row: they are small where the coefficients are, and they follow the coefficients.
use Rattle.std.proofs.Common.{◌≡◌, ℕ, ◌-◌, ◌*◌, ◌<◌, ◌≤◌, Bool, true, false, ◌&&◌, ◌==◌, not, AllPairs, ℤ, pos, unsigned_abs, List, length, filter, sym, subst, arith}
use Rattle.std.specs.Prelude.{if◌then◌else◌, nat_le, slice_index}
use Rattle.std.specs.Int.{abs_diff}
use Rattle.std.specs.List.{All, range_with_len}
use Rattle.std.proofs.lemmas.Bool.{and_parts, leb-true}
use Rattle.std.proofs.lemmas.List.{length-map, get_or-map}
use Rattle.std.proofs.lemmas.List.Elements.{All-map, All-weaker, filter_passes}
use Rattle.std.proofs.lemmas.List.Kept.{AllPairs-filter}
use Rattle.std.proofs.lemmas.List.FromFn.{length-range_with_len, get_or-range_with_len}
use Rattle.wrp_town.specs.declared.town.Town.{Town}
use Rattle.wrp_town.specs.Arcs.{arcs, is_legal, tail_of, head_of}
use Rattle.wrp_town.proofs.Lists.{list_all-at}
use Rattle.wrp_town.proofs.TownLaws.{legal_below, tail_of-below, head_of-below}
use Rattle.wrp_rules.specs.Rows.{most_coefficient}
use Rattle.wrp_rows.specs.Pools.{is_term, terms_of}
use Rattle.wrp_rows.specs.declared.pattern.Pattern.{Pattern}
use Rattle.wrp_rows.specs.declared.pattern.Pattern.TheVariants.{Leaving, Crossing, Chain, Sums}
use Rattle.wrp_rows.specs.Marks.{is_marked, differ}
use Rattle.wrp_rows.specs.Patterns.{are_ends, coef_by, Fits}
use Rattle.wrp_rows.specs.Sizes.{AreSmallTerms}

ascending_range : (n : ℕ) → AllPairs (λ x y. x < y) (range_with_len 0 n)
ascending_range n i j d less below =
    let short : j < n = omega (arith, length-range_with_len 0 n) in
    omega (arith, get_or-range_with_len 0 n i d (omega arith), get_or-range_with_len 0 n j d short)

-- each arc of a term passes the test of a term
passes_test : (town : Town) (coef : ℕ → ℤ) → All (λ arc. is_term town coef arc ≡ true) (filter (is_term town coef) (arcs town))
passes_test town coef = filter_passes (is_term town coef) (arcs town)

pub legal_of_term : (town : Town) (coef : ℕ → ℤ) (arc : ℕ) → is_term town coef arc ≡ true → is_legal town arc ≡ true
legal_of_term town coef arc is = (and_parts (is_legal town arc) (not (unsigned_abs (coef arc) == 0)) is).0

pub are_small_terms : (town : Town) (coef : ℕ → ℤ) → ((arc : ℕ) → is_legal town arc ≡ true → unsigned_abs (coef arc) ≤ most_coefficient) → AreSmallTerms (2 * length town.streets) (terms_of town coef)
are_small_terms town coef small =
    let kept = filter (is_term town coef) (arcs town) in
    let term : ℕ → ℕ × ℤ = λ arc. (arc, coef arc) in
    record {
      ascending = λ i j d less below.
          let few : j < length kept = omega (arith, length-map kept term) in
          let h = AllPairs-filter (λ x y. x < y) (is_term town coef) (arcs town) (ascending_range (2 * length town.streets)) i j 0 less few in
          let few_i : i < length kept = omega arith in
          rw (get_or-map term kept i 0 d few_i, get_or-map term kept j 0 d few) h;
      within = All-map (λ t. t.0 < 2 * length town.streets) term kept
          (All-weaker (λ arc. is_term town coef arc ≡ true) (λ arc. arc < 2 * length town.streets) (λ arc is. legal_below town arc (legal_of_term town coef arc is)) kept (passes_test town coef));
      small = All-map (λ t. unsigned_abs t.1 ≤ most_coefficient) term kept
          (All-weaker (λ arc. is_term town coef arc ≡ true) (λ arc. unsigned_abs (coef arc) ≤ most_coefficient) (λ arc is. small arc (legal_of_term town coef arc is)) kept (passes_test town coef));
    }

-- ---- the coefficients of a pattern are small

one_if_small : (t : Bool) → unsigned_abs (if t then pos 1 else pos 0) ≤ most_coefficient
one_if_small true = omega arith
one_if_small false = omega arith

distance_small : (t : Bool) (k i j : ℕ) → i ≤ k → j ≤ k → k ≤ most_coefficient → (if t then k - 2 else abs_diff i j) ≤ most_coefficient
distance_small true k i j low_i low_j low = omega arith
distance_small false k i j low_i low_j low = omega arith

pub coef_small : (town : Town) (pattern : Pattern) (arc : ℕ) → Fits town pattern → is_legal town arc ≡ true → unsigned_abs (coef_by town pattern arc) ≤ most_coefficient
coef_small town (Leaving marks) arc fits legal = one_if_small (is_marked marks.now (tail_of town arc) && not (is_marked marks.now (head_of town arc)))
coef_small town (Crossing marks) arc fits legal = one_if_small (differ marks.now (tail_of town arc) (head_of town arc))
coef_small town (Chain k of) arc fits legal =
    let below = legal_below town arc legal in
    let i = slice_index of.now (tail_of town arc) in
    let j = slice_index of.now (head_of town arc) in
    let low_i : i ≤ k = leb-true i k (list_all-at (λ n. nat_le n k) of.now (tail_of town arc) 0 fits.1 (omega (arith, fits.0, tail_of-below town arc below))) in
    let low_j : j ≤ k = leb-true j k (list_all-at (λ n. nat_le n k) of.now (head_of town arc) 0 fits.1 (omega (arith, fits.0, head_of-below town arc below))) in
    distance_small (are_ends k i j) k i j low_i low_j fits.3
coef_small town (Sums sums) arc fits legal = fits.1 arc legal

pub pattern_terms_small : (town : Town) (pattern : Pattern) (terms : List (ℕ × ℤ)) → Fits town pattern → terms ≡ terms_of town (coef_by town pattern) → AreSmallTerms (2 * length town.streets) terms
pattern_terms_small town pattern terms fits is =
    subst (AreSmallTerms (2 * length town.streets)) (sym is) (are_small_terms town (coef_by town pattern) (λ arc legal. coef_small town pattern arc fits legal))
