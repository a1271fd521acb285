-- A store of rows: what it holds after a cut is prepared, and after it is committed.
use Rattle.std.proofs.Common.{◌≡◌, ℕ, zero, suc, ◌+◌, ◌*◌, ◌≤◌, Bool, true, cond, ℤ, List, [], ◌∷◌, ◌++◌, map, length, take, drop, Option, None, Some, ap, refl, sym, ◌∙◌, subst, arith, add-one, length-append}
use Rattle.std.specs.Prelude.{nat_lt}
use Rattle.std.specs.Option.{option_map, option_to_list}
use Rattle.std.specs.List.{All}
use Rattle.std.proofs.lemmas.Bool.{false≢true, ltb-true}
use Rattle.std.proofs.lemmas.List.{map-append, length-map, length-take-le, drop_all}
use Rattle.std.proofs.lemmas.List.Elements.{All-take, All-push}
use Rattle.std.proofs.lemmas.List.Sums.{sum_by-append}
use Rattle.std.proofs.lemmas.List.FromFn.{length-range_with_len}
use Rattle.wrp_town.specs.declared.town.Town.{Town}
use Rattle.wrp_town.specs.Arcs.{junctions, demands}
use Rattle.wrp_town.proofs.TownLaws.{few_junctions, few_demands}
use Rattle.wrp_rules.specs.declared.record.Record.{Record}
use Rattle.wrp_rules.specs.declared.record.Record.TheVariants.{Tour, Conn, Odd, Round, Kc, Bound, Empty, Apart, Point, Blind, Split, Labels}
use Rattle.wrp_rules.specs.Rows.{Row, balance_row, service_row, base_rows, row_of}
use Rattle.wrp_rules.specs.Nodes.{Standing, after}
use Rattle.wrp_rules.specs.Rules.{is_cut}
use Rattle.wrp_rows.specs.Pools.{SparseRow, RowPool, sparse_of, committed, HasRowsOf, HasPrepared}
use Rattle.wrp_rows.specs.declared.bench.Bench.{Bench}
use Rattle.wrp_rows.specs.Sizes.{IsSmallRow}
use Rattle.wrp_rows.specs.Making.{IsBenchOf}
use Rattle.wrp_rows.specs.Stores.{first_of, pool_of, IsStore}

-- the base rows are few
pub few_base_rows : (town : Town) → length (base_rows town) ≤ 6000
few_base_rows town =
    let balances = map (balance_row town) (junctions town) in
    omega (
      arith,
      length-append balances (map service_row (demands town)),
      length-map (junctions town) (balance_row town),
      length-map (demands town) service_row,
      length-range_with_len 0 (length town.junctions),
      few_junctions town,
      few_demands town,
    )

-- a cut adds one row
one_row : (town : Town) (rows : List Row) (item : Record) → is_cut item ≡ true → length (option_to_list (row_of town rows item)) ≡ 1
one_row town rows (Tour cost steps) cut = absurd (false≢true cut)
one_row town rows (Conn r1 r2 set) cut = refl
one_row town rows (Odd set) cut = refl
one_row town rows (Round divisor mult) cut = refl
one_row town rows (Kc k of) cut = refl
one_row town rows (Bound node den mult) cut = absurd (false≢true cut)
one_row town rows (Empty node mult) cut = absurd (false≢true cut)
one_row town rows (Apart node r1 r2 set) cut = absurd (false≢true cut)
one_row town rows (Point node den numbers) cut = absurd (false≢true cut)
one_row town rows (Blind node) cut = absurd (false≢true cut)
one_row town rows (Split node arc k) cut = absurd (false≢true cut)
one_row town rows (Labels labels streets) cut = absurd (false≢true cut)

kept_of_option : (town : Town) (row : Option Row) → option_to_list (option_map (sparse_of town) row) ≡ map (sparse_of town) (option_to_list row)
kept_of_option town None = refl
kept_of_option town (Some row) = refl

-- the rows after a cut that was prepared
pub rows_after : (s : Standing) (item : Record) (pool : RowPool) → is_cut item ≡ true → HasRowsOf s pool → HasPrepared s item pool → HasRowsOf (after pool.town s item) (committed pool)
rows_after s item pool cut has prepared = record {
  rows = ap (λ (rows : List SparseRow). rows ++ option_to_list pool.prepared) has.rows
      ∙ ap (λ (row : Option SparseRow). map (sparse_of pool.town) s.rows ++ option_to_list row) prepared
      ∙ ap (λ (rows : List SparseRow). map (sparse_of pool.town) s.rows ++ rows) (kept_of_option pool.town (row_of pool.town s.rows item))
      ∙ sym (map-append (sparse_of pool.town) s.rows (option_to_list (row_of pool.town s.rows item)));
  cuts = omega (
    arith,
    has.cuts,
    length-append s.rows (option_to_list (row_of pool.town s.rows item)),
    one_row pool.town s.rows item cut,
    sum_by-append (λ (x : Record). cond (is_cut x) 1 0) s.records (item ∷ []),
    ap (λ (t : Bool). cond {A = ℕ} t 1 0) cut,
  );
}

-- ---- the table

take_first : {X : Type 0} (n : ℕ) (xs : List X) → take (suc n) xs ≡ take n xs ++ option_to_list (first_of (drop n xs))
take_first zero [] = refl
take_first zero (x ∷ xs) = refl
take_first (suc n) [] = refl
take_first (suc n) (x ∷ xs) = ap (λ ys. x ∷ ys) (take_first n xs)

pub commit_is : (town : Town) (table : List SparseRow) (count : ℕ) → length table ≤ count + 1 → pool_of town table (count + 1) ≡ committed (pool_of town table count)
commit_is town table count few =
    let rows : take (count + 1) table ≡ take count table ++ option_to_list (first_of (drop count table)) = rw add-one (take_first count table) in
    let none : first_of (drop (count + 1) table) ≡ None = ap first_of (drop_all (count + 1) table few) in
    cc

-- the store after the prepared row is dropped, and after another one is prepared
pub store_cleared : (town : Town) (table new : List SparseRow) (count base : ℕ) (bench made : Bench) → IsStore town table count base bench → new ≡ take count table → IsBenchOf town made → IsStore town new count base made
store_cleared town table new count base bench made store is room =
    let long : length new ≡ count = ap length is ∙ length-take-le count table store.counted in
    record {
      counted = omega arith;
      one_more = omega arith;
      few = let h = store.few in let k = store.counted in omega arith;
      base_count = store.base_count;
      small = subst (λ (rows : List SparseRow). All (IsSmallRow (2 * length town.streets)) rows) (sym is) (All-take (IsSmallRow (2 * length town.streets)) count table store.small);
      room = room;
    }

pub store_pushed : (town : Town) (table old new : List SparseRow) (row : SparseRow) (count base : ℕ) (bench made : Bench) → IsStore town table count base bench → old ≡ take count table → new ≡ old ++ row ∷ [] → nat_lt (length old) (base + 20000) ≡ true → IsSmallRow (2 * length town.streets) row → IsBenchOf town made → IsStore town new count base made
store_pushed town table old new row count base bench made store is pushed free small room =
    let cleared = store_cleared town table old count base bench made store is room in
    let long : length old ≡ count = ap length is ∙ length-take-le count table store.counted in
    let longer : length new ≡ count + 1 = omega (arith, ap length pushed, length-append old (row ∷ [])) in
    let below = ltb-true (length old) (base + 20000) free in
    record {
      counted = omega arith;
      one_more = omega arith;
      few = omega arith;
      base_count = store.base_count;
      small = subst (λ (rows : List SparseRow). All (IsSmallRow (2 * length town.streets)) rows) (sym pushed) (All-push (IsSmallRow (2 * length town.streets)) old row cleared.small small);
      room = room;
    }

pub small_same : (n : ℕ) (a b : List (ℕ × ℤ)) (x y : ℤ) → IsSmallRow n (record { terms = a; right_side = x }) → b ≡ a → y ≡ x → IsSmallRow n (record { terms = b; right_side = y })
small_same n a b x y small terms side =
    subst (λ (ts : List (ℕ × ℤ)). IsSmallRow n (record { terms = ts; right_side = y })) (sym terms)
    (subst (λ (z : ℤ). IsSmallRow n (record { terms = a; right_side = z })) (sym side) small)
