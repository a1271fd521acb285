-- The laws of the rows that are kept.
use Rattle.std.proofs.Common.{◌≡◌, ℕ, ◌<◌, Bool, true, false, cond, ◌&&◌, ◌==◌, not, ℤ, pos, ◌*ℤ◌, unsigned_abs, List, [], ◌∷◌, ◌++◌, map, length, filter, ap, refl, sym, ◌∙◌, arith}
use Rattle.std.specs.Option.{option_to_list}
use Rattle.std.proofs.lemmas.Bool.{true≢false}
use Rattle.std.proofs.lemmas.List.{length-map, append-nil}
use Rattle.std.proofs.lemmas.List.Sums.{sum_by-append}
use Rattle.wrp_sums.specs.Sums.{sum_over}
use Rattle.wrp_sums.proofs.Integers.{zero_times}
use Rattle.wrp_sums.proofs.SumsOver.{sum_over-map, sum_over-filter, sum_over-ext}
use Rattle.wrp_town.specs.declared.town.Town.{Town}
use Rattle.wrp_town.specs.Arcs.{arcs, is_legal, legal_arcs}
use Rattle.wrp_rules.specs.declared.record.Record.{Record}
use Rattle.wrp_rules.specs.declared.record.Record.TheVariants.{Tour, Conn, Odd, Round, Kc, Bound, Empty, Apart, Point, Blind, Split, Labels}
use Rattle.wrp_rules.specs.Rows.{Row, row_of, row_at}
use Rattle.wrp_rules.specs.Nodes.{Standing, after}
use Rattle.wrp_rules.specs.Rules.{is_cut}
use Rattle.wrp_rows.specs.Pools.{SparseRow, RowPool, is_term, terms_of, sparse_of, sparse_at, HasRowsOf}
use Rattle.wrp_rows.proofs.Kept.{kept_at, is_zero}

-- a term that is left out adds nothing
nothing_lost : (legal zero : Bool) (z x : ℤ) → (zero ≡ true → z ≡ pos 0) → cond legal (z *ℤ x) (pos 0) ≡ cond (legal && not zero) (z *ℤ x) (pos 0)
nothing_lost true true z x none = ap (λ (y : ℤ). y *ℤ x) (none refl) ∙ zero_times x
nothing_lost true false z x none = refl
nothing_lost false zero z x none = refl

pub sum_of_terms : (town : Town) (row : Row) (x : ℕ → ℤ) → sum_over (λ arc. row.coef arc *ℤ x arc) (legal_arcs town) ≡ sum_over (λ t. t.1 *ℤ x t.0) (terms_of town row.coef)
sum_of_terms town row x =
    let term : ℕ → ℕ × ℤ = λ arc. (arc, row.coef arc) in
    sum_over-filter (λ arc. row.coef arc *ℤ x arc) (is_legal town) (arcs town)
    ∙ sum_over-ext (λ arc. cond (is_legal town arc) (row.coef arc *ℤ x arc) (pos 0)) (λ arc. cond (is_term town row.coef arc) (row.coef arc *ℤ x arc) (pos 0))
    (λ arc. nothing_lost (is_legal town arc) (unsigned_abs (row.coef arc) == 0) (row.coef arc) (x arc) (is_zero (row.coef arc))) (arcs town)
    ∙ sym (sum_over-map (λ t. t.1 *ℤ x t.0) term (filter (is_term town row.coef) (arcs town))
    ∙ sum_over-filter (λ arc. row.coef arc *ℤ x arc) (is_term town row.coef) (arcs town))

pub as_many : (s : Standing) (pool : RowPool) → HasRowsOf s pool → length pool.rows ≡ length s.rows
as_many s pool has = ap length has.rows ∙ length-map s.rows (sparse_of pool.town)

pub row_there : (s : Standing) (pool : RowPool) (i : ℕ) → HasRowsOf s pool → i < length pool.rows → sparse_at pool.rows i ≡ sparse_of pool.town (row_at s.rows i)
row_there s pool i has below =
    ap (λ (rows : List SparseRow). sparse_at rows i) has.rows
    ∙ kept_at pool.town s.rows i (omega (arith, as_many s pool has))

-- a record that is no cut adds no row
no_row : (town : Town) (rows : List Row) (item : Record) → is_cut item ≡ false → option_to_list (row_of town rows item) ≡ []
no_row town rows (Tour cost steps) other = refl
no_row town rows (Conn r1 r2 set) other = absurd (true≢false other)
no_row town rows (Odd set) other = absurd (true≢false other)
no_row town rows (Round divisor mult) other = absurd (true≢false other)
no_row town rows (Kc k of) other = absurd (true≢false other)
no_row town rows (Bound node den mult) other = refl
no_row town rows (Empty node mult) other = refl
no_row town rows (Apart node r1 r2 set) other = refl
no_row town rows (Point node den numbers) other = refl
no_row town rows (Blind node) other = refl
no_row town rows (Split node arc k) other = refl
no_row town rows (Labels labels streets) other = refl

pub rows_stay : (s : Standing) (pool : RowPool) (town : Town) (item : Record) → is_cut item ≡ false → HasRowsOf s pool → HasRowsOf (after town s item) pool
rows_stay s pool town item other has =
    let same : s.rows ++ option_to_list (row_of town s.rows item) ≡ s.rows = ap (λ (rows : List Row). s.rows ++ rows) (no_row town s.rows item other) ∙ append-nil s.rows in
    record {
      rows = has.rows ∙ ap (map (sparse_of pool.town)) (sym same);
      cuts = omega (arith, ap length same, has.cuts, sum_by-append (λ (x : Record). cond (is_cut x) 1 0) s.records (item ∷ []), ap (λ (t : Bool). cond {A = ℕ} t 1 0) other);
    }
