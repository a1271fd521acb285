-- The rows that are kept say what the rows say.
use Rattle.std.proofs.Common.{◌≡◌, ℕ, ◌*◌, ◌<◌, ◌≢◌, Bool, true, false, cond, ◌&&◌, ◌==◌, not, AllPairs, ℤ, pos, ◌*ℤ◌, unsigned_abs, List, [], ◌∷◌, map, length, filter, count_by, Contains, ap, refl, sym, ◌∙◌, arith}
use Rattle.std.specs.Prelude.{nat_lt}
use Rattle.std.specs.List.{range_with_len}
use Rattle.std.proofs.lemmas.Bool.{and_parts, eqb-true, ltb-true}
use Rattle.std.proofs.lemmas.List.{length-map, get_or-map}
use Rattle.std.proofs.lemmas.List.FromFn.{length-range_with_len, get_or-range_with_len}
use Rattle.wrp_sums.specs.Sums.{coef_at}
use Rattle.wrp_sums.specs.Duality.{combine_rows}
use Rattle.wrp_sums.proofs.Integers.{linear, sized, one-*ℤ, times_zero}
use Rattle.wrp_sums.proofs.SumsOver.{sum_over-map, sum_over-filter, sum_over-ext, sum_over_at, count_once}
use Rattle.wrp_town.specs.declared.town.Town.{Town}
use Rattle.wrp_town.specs.Arcs.{arcs, is_legal}
use Rattle.wrp_town.proofs.TownLaws.{legal_below}
use Rattle.wrp_rules.specs.Rows.{Row, row_at}
use Rattle.wrp_rows.specs.Pools.{SparseRow, is_term, terms_of, sparse_of, sparse_at}
use Rattle.wrp_rows.specs.Tables.{name_rows, combined_coef, combined_side}

-- ---- the coefficient of an arc in the terms

pub in_range : (n x : ℕ) → x < n → Contains (range_with_len 0 n) x
in_range n x below =
    (x, omega (arith, length-range_with_len 0 n), get_or-range_with_len 0 n x x below ∙ omega arith)

distinct_range : (n : ℕ) → AllPairs (λ x y. x ≢ y) (range_with_len 0 n)
distinct_range n i j d less below same =
    let short : j < n = omega (arith, length-range_with_len 0 n) in
    omega (arith, get_or-range_with_len 0 n i d (omega arith), get_or-range_with_len 0 n j d short)

once_in_range : (n x : ℕ) → x < n → count_by (λ y. y == x) (range_with_len 0 n) ≡ 1
once_in_range n x below = count_once x (range_with_len 0 n) (distinct_range n) (in_range n x below)

-- where a coefficient is 0, it makes no difference that it is left out
left_out : (legal zero same : Bool) (z : ℤ) → (zero ≡ true → z ≡ pos 0) → cond (legal && not zero) (cond same z (pos 0)) (pos 0) ≡ cond same (cond legal z (pos 0)) (pos 0)
left_out true true true z none = sym (none refl)
left_out true true false z none = refl
left_out true false same z none = refl
left_out false zero true z none = refl
left_out false zero false z none = refl

pub is_zero : (z : ℤ) → (unsigned_abs z == 0) ≡ true → z ≡ pos 0
is_zero z none = let size : unsigned_abs z ≡ 0 = eqb-true (unsigned_abs z) 0 none in omega (arith, sized)

pub coef_at_terms : (town : Town) (coef : ℕ → ℤ) (a : ℕ) → coef_at (terms_of town coef) a ≡ cond (is_legal town a) (coef a) (pos 0)
coef_at_terms town coef a =
    let term : ℕ → ℕ × ℤ = λ x. (x, coef x) in
    let legal = λ (x : ℕ). cond (is_legal town x) (coef x) (pos 0) in
    sum_over-map (λ t. cond (t.0 == a) t.1 (pos 0)) term (filter (is_term town coef) (arcs town))
    ∙ sum_over-filter (λ x. cond (x == a) (coef x) (pos 0)) (is_term town coef) (arcs town)
    ∙ sum_over-ext (λ x. cond (is_term town coef x) (cond (x == a) (coef x) (pos 0)) (pos 0)) (λ x. cond (x == a) (legal x) (pos 0))
    (λ x. left_out (is_legal town x) (unsigned_abs (coef x) == 0) (x == a) (coef x) (is_zero (coef x))) (arcs town)
    ∙ sum_over_at legal a (arcs town)
    ∙ by (is_legal town a) refl
  where
    by : (t : Bool) → is_legal town a ≡ t → pos (count_by (λ x. x == a) (arcs town)) *ℤ cond t (coef a) (pos 0) ≡ cond t (coef a) (pos 0)
    by true e =
        let once = once_in_range (2 * length town.streets) a (legal_below town a e) in
        ap (λ (n : ℕ). pos n *ℤ coef a) once ∙ one-*ℤ (coef a)
    by false e = times_zero (pos (count_by (λ x. x == a) (arcs town)))

-- ---- rows that are kept

pub kept_at : (town : Town) (rows : List Row) (i : ℕ) → i < length rows → sparse_at (map (sparse_of town) rows) i ≡ sparse_of town (row_at rows i)
kept_at town rows i below = get_or-map (sparse_of town) rows i _ _ below

pub coef_kept : (town : Town) (rows : List Row) (i a : ℕ) → i < length rows → coef_at (sparse_at (map (sparse_of town) rows) i).terms a ≡ cond (is_legal town a) ((row_at rows i).coef a) (pos 0)
coef_kept town rows i a below = ap (λ (r : SparseRow). coef_at r.terms a) (kept_at town rows i below) ∙ coef_at_terms town (row_at rows i).coef a

-- the first pair names a row, and so do those after it
first_named : (rows : List SparseRow) (q : ℕ × ℕ) (mult : List (ℕ × ℕ)) → name_rows rows (q ∷ mult) ≡ true → (q.0 < length rows) × (name_rows rows mult ≡ true)
first_named rows q mult named =
    let parts = and_parts (nat_lt q.0 (length rows)) (name_rows rows mult) named in
    (ltb-true q.0 (length rows) parts.0, parts.1)

pub combined_coef_kept : (town : Town) (rows : List Row) (mult : List (ℕ × ℕ)) (a : ℕ) → name_rows (map (sparse_of town) rows) mult ≡ true → is_legal town a ≡ true → combined_coef (map (sparse_of town) rows) mult a ≡ combine_rows mult (λ i. (row_at rows i).coef a)
combined_coef_kept town rows [] a named legal = refl
combined_coef_kept town rows (q ∷ mult) a named legal =
    let first = first_named (map (sparse_of town) rows) q mult named in
    let below : q.0 < length rows = omega (arith, length-map rows (sparse_of town)) in
    let own = coef_kept town rows q.0 a below ∙ ap (λ (t : Bool). cond t ((row_at rows q.0).coef a) (pos 0)) legal in
    omega (arith, linear, ap (λ (z : ℤ). pos q.1 *ℤ z) own, combined_coef_kept town rows mult a first.1 legal)

pub combined_side_kept : (town : Town) (rows : List Row) (mult : List (ℕ × ℕ)) → name_rows (map (sparse_of town) rows) mult ≡ true → combined_side (map (sparse_of town) rows) mult ≡ combine_rows mult (λ i. (row_at rows i).right_side)
combined_side_kept town rows [] named = refl
combined_side_kept town rows (q ∷ mult) named =
    let first = first_named (map (sparse_of town) rows) q mult named in
    let below : q.0 < length rows = omega (arith, length-map rows (sparse_of town)) in
    let own = ap (λ (r : SparseRow). r.right_side) (kept_at town rows q.0 below) in
    omega (arith, linear, ap (λ (z : ℤ). pos q.1 *ℤ z) own, combined_side_kept town rows mult first.1)
