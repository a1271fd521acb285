-- The rows that stand are the first of the table, and what is combined of them is the same there.
use Rattle.std.proofs.Common.{◌≡◌, ℕ, ◌<◌, ◌≤◌, true, ℤ, pos, ◌*ℤ◌, List, [], ◌∷◌, length, take, ap, refl, sym, ◌∙◌, subst, arith}
use Rattle.std.specs.Prelude.{nat_lt}
use Rattle.std.proofs.lemmas.Bool.{and_parts, and_from, ltb-true, lt-ltb}
use Rattle.std.proofs.lemmas.List.{get_or-take, length-take-le}
use Rattle.wrp_sums.specs.Sums.{coef_at}
use Rattle.wrp_sums.specs.Duality.{combine_rows}
use Rattle.wrp_sums.proofs.Integers.{linear}
use Rattle.wrp_rows.specs.Pools.{SparseRow, sparse_at}
use Rattle.wrp_rows.specs.Tables.{name_rows, AreCombined}

pub names_more : (rows more : List SparseRow) (mult : List (ℕ × ℕ)) → length rows ≤ length more → name_rows rows mult ≡ true → name_rows more mult ≡ true
names_more rows more [] few named = refl
names_more rows more (q ∷ mult) few named =
    let parts = and_parts (nat_lt q.0 (length rows)) (name_rows rows mult) named in
    let below = ltb-true q.0 (length rows) parts.0 in
    and_from (nat_lt q.0 (length more)) (name_rows more mult) (lt-ltb q.0 (length more) (omega arith)) (names_more rows more mult few parts.1)

-- rows that are named among the first are the same among all
combined_same : (table : List SparseRow) (count : ℕ) (number : SparseRow → ℤ) (mult : List (ℕ × ℕ)) → count ≤ length table → name_rows (take count table) mult ≡ true → combine_rows mult (λ i. number (sparse_at table i)) ≡ combine_rows mult (λ i. number (sparse_at (take count table) i))
combined_same table count number [] few named = refl
combined_same table count number (q ∷ mult) few named =
    let parts = and_parts (nat_lt q.0 (length (take count table))) (name_rows (take count table) mult) named in
    let below : q.0 < count = (let h = ltb-true q.0 (length (take count table)) parts.0 in omega (arith, length-take-le count table few)) in
    omega (
      arith,
      linear,
      ap (λ (row : SparseRow). pos q.1 *ℤ number row) (sym (get_or-take count table q.0 (record { terms = []; right_side = pos 0 }) below)),
      combined_same table count number mult few parts.1,
    )

pub combined_first : (table rows : List SparseRow) (count : ℕ) (mult : List (ℕ × ℕ)) (sums : List ℤ) (side : ℤ) → rows ≡ take count table → count ≤ length table → name_rows rows mult ≡ true → AreCombined table mult sums side → AreCombined rows mult sums side
combined_first table rows count mult sums side is few named are =
    let named_first = subst (λ (r : List SparseRow). name_rows r mult ≡ true) is named in
    subst (λ (r : List SparseRow). AreCombined r mult sums side) (sym is)
    (record {
      coefs = λ arc. are.coefs arc ∙ combined_same table count (λ row. coef_at row.terms arc) mult few named_first;
      right_side = are.right_side ∙ combined_same table count (λ row. row.right_side) mult few named_first;
      small_coefs = are.small_coefs;
      small_side = are.small_side;
    })
