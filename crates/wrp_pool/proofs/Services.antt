-- The sparse rows of a town before any cut are its base rows.
use Rattle.std.proofs.Common.{◌≡◌, ℕ, zero, suc, ◌+◌, ◌*◌, ◌<◌, ◌≤◌, ◌≢◌, Bool, true, false, cond, ◌==◌, ◌&&◌, ◌||◌, nat_eq, AllPairs, pos, unsigned_abs, List, [], ◌∷◌, ◌++◌, map, length, get_or, filter, Contains, count_by, ap, refl, sym, ◌∙◌, subst, arith, eq-eqb}
use Rattle.std.specs.Prelude.{if◌then◌else◌, nat_lt}
use Rattle.std.specs.List.{AllZip, AllByRecursion, list_any}
use Rattle.std.proofs.lemmas.Bool.{eqb-true, true≢false}
use Rattle.std.proofs.lemmas.Bool.Decides.{nat_tests}
use Rattle.std.proofs.lemmas.List.Elements.{All-cons}
use Rattle.std.proofs.lemmas.List.Kept.{AllPairs-cons}
use Rattle.std.proofs.lemmas.Map.Views.{Contains-from_any}
use Rattle.std.proofs.lemmas.List.FromFn.{length-map-range_with_len, get_or-map-range_with_len}
use Rattle.wrp_sums.proofs.Integers.{linear}
use Rattle.wrp_sums.proofs.SumsOver.{count_by-filter, count_once, count_none}
use Rattle.wrp_sums.proofs.FirstNumbers.{distinct_of_ascending}
use Rattle.wrp_town.specs.declared.street.Need.{Need}
use Rattle.wrp_town.specs.declared.street.Need.TheVariants.{No, Either, Forward, Backward, Both}
use Rattle.wrp_town.specs.declared.street.Street.{Street}
use Rattle.wrp_town.specs.declared.town.Town.{Town}
use Rattle.wrp_town.specs.Streets.{demands_at, demands_from}
use Rattle.wrp_town.specs.Arcs.{is_legal, has_arc, junctions, demands}
use Rattle.wrp_town.proofs.TownLaws.{legal_below}
use Rattle.wrp_rules.specs.Rows.{one_if, balance_row, service_row, base_rows}
use Rattle.wrp_pool.specs.declared.row.SparseRow.{SparseRow}
use Rattle.wrp_pool.specs.Pools.{most_right_side, IsRow}
use Rattle.wrp_pool.proofs.Listed.{times, ones_row}
use Rattle.wrp_pool.specs.Sparse.{bare_row, sparse_service, IsBalanceBelow, AreBalancesBelow}

-- ---- lists, one against another

zip_by_index : {A B : Type 0} (R : A → B → Type 0) (xs : List A) (ys : List B) (d : A) (e : B) → length xs ≡ length ys → ((k : ℕ) → k < length xs → R (get_or xs k d) (get_or ys k e)) → AllZip R xs ys
zip_by_index R [] [] d e same each = tt
zip_by_index R [] (y ∷ ys) d e same each = absurd (omega arith)
zip_by_index R (x ∷ xs) [] d e same each = absurd (omega arith)
zip_by_index R (x ∷ xs) (y ∷ ys) d e same each =
    (each 0 (omega arith), zip_by_index R xs ys d e (omega arith) (λ k below. each (suc k) (omega arith)))

pub zip_append : {A B : Type 0} (R : A → B → Type 0) (xs : List A) (ys : List B) (us : List A) (vs : List B) → AllZip R xs ys → AllZip R us vs → AllZip R (xs ++ us) (ys ++ vs)
zip_append R [] [] us vs first second = second
zip_append R [] (y ∷ ys) us vs first second = absurd first
zip_append R (x ∷ xs) [] us vs first second = absurd first
zip_append R (x ∷ xs) (y ∷ ys) us vs first second = (first.0, zip_append R xs ys us vs first.1 second)

-- ---- balance

balance_is_row : (town : Town) (j : ℕ) (row : SparseRow) → IsBalanceBelow town (2 * length town.streets) j row → IsRow town row (balance_row town j)
balance_is_row town j row is = record {
  coef = λ arc legal.
      let below : nat_lt arc (2 * length town.streets) ≡ true = let h = legal_below town arc legal in grind (arith, nat_tests) in
      is.coef arc legal ∙ ap (λ (t : Bool). if t then (balance_row town j).coef arc else pos 0) below;
  right_side = is.right_side;
  small = record { terms = is.terms.are; right_side = subst (λ z. unsigned_abs z ≤ most_right_side) (sym is.right_side) (omega arith) };
}

balances_are_rows : (town : Town) (rows : List SparseRow) → AreBalancesBelow town (2 * length town.streets) rows → AllZip (IsRow town) rows (map (balance_row town) (junctions town))
balances_are_rows town rows are =
    zip_by_index (IsRow town) rows (map (balance_row town) (junctions town)) bare_row (balance_row town 0)
    (are.count ∙ sym (length-map-range_with_len (balance_row town) 0 (length town.junctions)))
    (λ k below.
    let inside : k < length town.junctions = omega (arith, are.count) in
    subst (IsRow town (get_or rows k bare_row)) (sym (get_or-map-range_with_len (balance_row town) 0 (length town.junctions) k k (balance_row town 0) inside (omega arith)))
    (balance_is_row town k (get_or rows k bare_row) (are.each k inside)))

-- ---- service

any_inside : (a : ℕ) (xs : List ℕ) → list_any (nat_eq a) xs ≡ true → Contains xs a
any_inside a xs found = Contains-from_any eqb-true a xs found

inside_any : (a : ℕ) (xs : List ℕ) → Contains xs a → list_any (nat_eq a) xs ≡ true
inside_any a [] (k, below, is) = absurd (omega arith)
inside_any a (x ∷ xs) (zero, below, is) = ap (λ (t : Bool). t || list_any (nat_eq a) xs) (eq-eqb a x (sym is))
inside_any a (x ∷ xs) (suc k, below, is) = by (nat_eq a x) (inside_any a xs (k, omega arith, is))
  where
    by : (t : Bool) → list_any (nat_eq a) xs ≡ true → (t || list_any (nat_eq a) xs) ≡ true
    by true rest = refl
    by false rest = rest

-- a list of distinct numbers has each as often as it is in it
member_count : (a : ℕ) (xs : List ℕ) → AllPairs (λ x y. x ≢ y) xs → pos (count_by (λ x. x == a) xs) ≡ one_if (list_any (nat_eq a) xs)
member_count a xs distinct = by (list_any (nat_eq a) xs) refl
  where
    by : (t : Bool) → list_any (nat_eq a) xs ≡ t → pos (count_by (λ x. x == a) xs) ≡ one_if t
    by true e = ap pos (count_once a xs distinct (any_inside a xs e))
    by false e = ap pos (count_none a xs (λ inside. true≢false (sym (inside_any a xs inside) ∙ e)))

-- what each demand is: ascending arcs
abbrev IsDemand : List ℕ → Type 0
IsDemand demand = AllPairs (λ x y. x < y) demand

one_arc : (x : ℕ) → IsDemand (x ∷ [])
one_arc x i j d less below = absurd (omega arith)

two_arcs : (x y : ℕ) → x < y → IsDemand (x ∷ y ∷ [])
two_arcs x y less = AllPairs-cons (λ u v. u < v) x (y ∷ []) (All-cons (λ v. x < v) y [] less (λ k d below. absurd (omega arith))) (one_arc y)

each_demand : (s : ℕ) (streets : List Street) → AllByRecursion IsDemand (demands_from s streets)
each_demand s [] = tt
each_demand s (street ∷ streets) = by street.need (demands_from (s + 1) streets) (each_demand (s + 1) streets)
  where
    by : (need : Need) (ds : List (List ℕ)) → AllByRecursion IsDemand ds → AllByRecursion IsDemand (demands_at s need ++ ds)
    by No ds rest = rest
    by Either ds rest = (two_arcs _ _ (omega arith), rest)
    by Forward ds rest = (one_arc _, rest)
    by Backward ds rest = (one_arc _, rest)
    by Both ds rest = (one_arc _, (one_arc _, rest))

service_is_row : (town : Town) (demand : List ℕ) → IsDemand demand → IsRow town (sparse_service town demand) (service_row demand)
service_is_row town demand is = ones_row town (has_arc demand) (filter (is_legal town) demand) (pos 1) listed (omega arith)
  where
    listed : (arc : ℕ) → times (filter (is_legal town) demand) arc ≡ cond (is_legal town arc && has_arc demand arc) 1 0
    listed arc = by (is_legal town arc) (has_arc demand arc) (count_by-filter arc (is_legal town) demand) (member_count arc demand (distinct_of_ascending demand is))
      where
        by : (t u : Bool) → times (filter (is_legal town) demand) arc ≡ cond t (times demand arc) 0 → pos (times demand arc) ≡ one_if u → times (filter (is_legal town) demand) arc ≡ cond (t && u) 1 0
        by true true kept count = omega (arith, linear, kept, count)
        by true false kept count = omega (arith, linear, kept, count)
        by false u kept count = kept

services_are_rows : (town : Town) (ds : List (List ℕ)) → AllByRecursion IsDemand ds → AllZip (IsRow town) (map (sparse_service town) ds) (map service_row ds)
services_are_rows town [] are = tt
services_are_rows town (d ∷ ds) are = (service_is_row town d are.0, services_are_rows town ds are.1)

-- ---- all rows before any cut

pub base_rows_held : (town : Town) (balances rows : List SparseRow) → AreBalancesBelow town (2 * length town.streets) balances → rows ≡ balances ++ map (sparse_service town) (demands town) → AllZip (IsRow town) rows (base_rows town)
base_rows_held town balances rows are is =
    subst (λ xs. AllZip (IsRow town) xs (base_rows town)) (sym is)
    (zip_append (IsRow town) balances (map (balance_row town) (junctions town)) (map (sparse_service town) (demands town)) (map service_row (demands town))
    (balances_are_rows town balances are)
    (services_are_rows town (demands town) (each_demand 0 town.streets)))
