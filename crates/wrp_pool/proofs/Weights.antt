-- The combined rows of the pool, pair after pair, and that they are those of the rows that it holds.
use Rattle.std.proofs.Common.{◌≡◌, ℕ, zero, suc, ◌<◌, ◌≤◌, true, ℤ, pos, ◌*ℤ◌, List, [], ◌∷◌, ◌++◌, length, get_or, ap, refl, sym, arith, subst}
use Rattle.std.specs.Prelude.{nat_lt, nat_le}
use Rattle.std.specs.List.{All, AllZip, list_all}
use Rattle.std.proofs.lemmas.Bool.{and_parts, ltb-true, leb-true}
use Rattle.std.proofs.lemmas.Slice.Zip.{AllZip-long}
use Rattle.wrp_sums.specs.Duality.{combine_rows}
use Rattle.wrp_sums.proofs.Integers.{linear}
use Rattle.wrp_town.specs.declared.town.Town.{Town}
use Rattle.wrp_town.specs.Arcs.{is_legal}
use Rattle.wrp_rules.specs.Rows.{Row, row_at}
use Rattle.wrp_rules.specs.Ranges.{are_pairs, are_multipliers}
use Rattle.wrp_town.proofs.Lists.{list_all-at}
use Rattle.wrp_pool.specs.declared.row.SparseRow.{SparseRow}
use Rattle.wrp_pool.specs.declared.row.Pool.{Pool}
use Rattle.wrp_pool.specs.Cuts.{Gains}
use Rattle.wrp_pool.proofs.Services.{zip_append}
use Rattle.wrp_pool.specs.Pools.{IsSmallRow, IsRow, Holds, sparse_at, has_rows, combined_coef, combined_side}

-- the row of each pair is there
pub row_there : (pool : Pool) (pairs : List (ℕ × ℕ)) (i : ℕ) (d : ℕ × ℕ) → has_rows pool pairs ≡ true → i < length pairs → (get_or pairs i d).0 < length pool.rows
row_there pool pairs i d are below = ltb-true _ (length pool.rows) (list_all-at (λ q. nat_lt q.0 (length pool.rows)) pairs i d are below)

-- and there are few pairs
pub most_pairs : (most : ℕ) (pairs : List (ℕ × ℕ)) → are_multipliers most pairs ≡ true → length pairs ≤ 4096
most_pairs most pairs are = leb-true (length pairs) 4096 (and_parts (are_pairs most pairs) (nat_le (length pairs) 4096) are).1

-- the first pair's row is there, and those of the pairs after it
first_row : (pool : Pool) (q : ℕ × ℕ) (mult : List (ℕ × ℕ)) → has_rows pool (q ∷ mult) ≡ true → (q.0 < length pool.rows) × (has_rows pool mult ≡ true)
first_row pool q mult are =
    let parts = and_parts (nat_lt q.0 (length pool.rows)) (has_rows pool mult) are in
    (ltb-true q.0 (length pool.rows) parts.0, parts.1)

-- rows that are held are held number by number
row_of_zip : (town : Town) (sparse : List SparseRow) (rows : List Row) (i : ℕ) (d : SparseRow) (e : Row) → AllZip (IsRow town) sparse rows → i < length sparse → IsRow town (get_or sparse i d) (get_or rows i e)
row_of_zip town [] rows i d e holds below = absurd (omega arith)
row_of_zip town (s ∷ sparse) [] i d e holds below = absurd holds
row_of_zip town (s ∷ sparse) (r ∷ rows) zero d e holds below = holds.0
row_of_zip town (s ∷ sparse) (r ∷ rows) (suc i) d e holds below = row_of_zip town sparse rows i d e holds.1 (omega arith)

pub row_held : (town : Town) (pool : Pool) (rows : List Row) (i : ℕ) → Holds town pool rows → i < length pool.rows → IsRow town (sparse_at pool i) (row_at rows i)
row_held town pool rows i holds below = row_of_zip town pool.rows rows i _ _ holds below

-- the combined rows of the pool are those of the rows
pub combined_coef_held : (town : Town) (pool : Pool) (rows : List Row) (mult : List (ℕ × ℕ)) (arc : ℕ) → Holds town pool rows → has_rows pool mult ≡ true → is_legal town arc ≡ true → combined_coef pool mult arc ≡ combine_rows mult (λ i. (row_at rows i).coef arc)
combined_coef_held town pool rows [] arc holds are legal = refl
combined_coef_held town pool rows (q ∷ mult) arc holds are legal =
    let first = first_row pool q mult are in
    let row = row_held town pool rows q.0 holds first.0 in
    omega (
      arith,
      linear,
      ap (λ (z : ℤ). pos q.1 *ℤ z) (row.coef arc legal),
      combined_coef_held town pool rows mult arc holds first.1 legal,
    )

pub combined_side_held : (town : Town) (pool : Pool) (rows : List Row) (mult : List (ℕ × ℕ)) → Holds town pool rows → has_rows pool mult ≡ true → combined_side pool mult ≡ combine_rows mult (λ i. (row_at rows i).right_side)
combined_side_held town pool rows [] holds are = refl
combined_side_held town pool rows (q ∷ mult) holds are =
    let first = first_row pool q mult are in
    let row = row_held town pool rows q.0 holds first.0 in
    omega (
      arith,
      linear,
      ap (λ (z : ℤ). pos q.1 *ℤ z) row.right_side,
      combined_side_held town pool rows mult holds first.1,
    )

-- as many rows
pub has_rows_held : (town : Town) (pool : Pool) (rows : List Row) (mult : List (ℕ × ℕ)) → Holds town pool rows → has_rows pool mult ≡ list_all (λ q. nat_lt q.0 (length rows)) mult
has_rows_held town pool rows mult holds =
    ap (λ (n : ℕ). list_all (λ (q : ℕ × ℕ). nat_lt q.0 n) mult) (sym (AllZip-long (IsRow town) pool.rows rows holds))

-- their numbers are small
pub small_rows : (town : Town) (pool : Pool) (rows : List Row) → Holds town pool rows → All (IsSmallRow town) pool.rows
small_rows town pool rows holds k d below = (row_of_zip town pool.rows rows k d (row_at rows k) holds below).small

-- a pool that gains a row holds it behind the others
pub gained : (town : Town) (row : Row) (old new : Pool) (rows : List Row) → Holds town old rows → Gains town row old new → Holds town new (rows ++ row ∷ [])
gained town row old new rows holds gains =
    subst (λ xs. AllZip (IsRow town) xs (rows ++ row ∷ [])) (sym gains.added)
    (zip_append (IsRow town) old.rows rows (gains.sparse ∷ []) (row ∷ []) holds (gains.is_row, tt))
