-- The rows of a drawn town: they stay within the limits, and make a town.
use Rattle.std.proofs.Common.{◌≡◌, ℕ, ◌+◌, ◌*◌, ◌<◌, ◌≤◌, Bool, true, false, List, [], ◌∷◌, ◌++◌, length, drop, get_or, Contains, refl, sym, ap, ◌∙◌, subst, arith}
use Rattle.std.specs.Prelude.{if◌then◌else◌, nat_lt, ◌==◌}
use Rattle.std.specs.List.{All, flat_map, range_with_len, list_any}
use Rattle.std.specs.Str.{bytes_eq}
use Rattle.std.proofs.lemmas.Bool.{le-leb}
use Rattle.std.proofs.lemmas.List.{drop_more, drop_all, length-append, length_push}
use Rattle.std.proofs.lemmas.List.Elements.{All-append, All-nil, All-cons}
use Rattle.std.proofs.lemmas.List.FromFn.{length-range_with_len, get_or-range_with_len}
use Rattle.wrp_town.specs.declared.street.Need.TheVariants.{No, Either}
use Rattle.wrp_town.specs.Names.{is_name}
use Rattle.wrp_town.specs.Limits.{cost_limit}
use Rattle.wrp_town.specs.Streets.{IsTown, is_cost, demands_at, demands_from}
use Rattle.wrp_town.proofs.Members.{inside_head, inside_tail}
use Rattle.wrp_street.specs.declared.row.Row.{Row}
use Rattle.wrp_street.specs.declared.reader.TableReader.{TableReader}
use Rattle.wrp_street.specs.Tables.{Table, no_rows, with_junction, with_ends, with_row, street_in}
use Rattle.wrp_street.specs.Growing.{rows_in, IsGrowing}
use Rattle.wrp_street.proofs.RowFacts.{IsRow}
use Rattle.wrp_street.proofs.RowSteps.{IsWithin, length-demands_from-push}
use Rattle.wrp_street.proofs.TownSteps.{town_with_row, town_of_none}
use Rattle.wrp_report.specs.declared.grid.Plan.{Plan}
use Rattle.wrp_report.specs.Grid.{next_state, drawn, point, cost_drawn, row_drawn, state_after, plans_at, plans_in, plans_of, with_plans, grid_of}
use Rattle.wrp_report.proofs.Grids.{point_is_name, street_is_name}

-- ---- the streets of a grid

abbrev pub IsInGrid : Plan → Type 0
IsInGrid plan = (plan.x < 20) × (plan.y < 20)

from_range : (n k : ℕ) → Contains (range_with_len 0 n) k → k < n
from_range n k (i, small, is) = let inside : i < n = omega (arith, length-range_with_len 0 n) in omega (arith, is, get_or-range_with_len 0 n i k inside)

all_flat : (P : Plan → Type 0) (f : ℕ → List Plan) (xs : List ℕ) → ((x : ℕ) → Contains xs x → All P (f x)) → All P (flat_map f xs)
all_flat P f [] each = All-nil P
all_flat P f (x ∷ xs) each = All-append P (f x) (flat_map f xs) (each x (inside_head x xs)) (all_flat P f xs (λ y has. each y (inside_tail x xs y has)))

length_flat : (f : ℕ → List Plan) (k : ℕ) (xs : List ℕ) → ((x : ℕ) → length (f x) ≤ k) → length (flat_map f xs) ≤ length xs * k
length_flat f k [] each = omega arith
length_flat f k (x ∷ xs) each = let e = each x in let r = length_flat f k xs each in omega (arith, length-append (f x) (flat_map f xs), e, r)

one_plan : (b east : Bool) (x y : ℕ) → x < 20 → y < 20 → All IsInGrid (if b then record { east = east; x = x; y = y } ∷ [] else [])
one_plan true east x y small_x small_y = All-cons IsInGrid (record { east = east; x = x; y = y }) [] (small_x, small_y) (All-nil IsInGrid)
one_plan false east x y small_x small_y = All-nil IsInGrid

one_length : (b east : Bool) (x y : ℕ) → length {A = Plan} (if b then record { east = east; x = x; y = y } ∷ [] else []) ≤ 1
one_length true east x y = omega arith
one_length false east x y = omega arith

pub plans_inside : (width height : ℕ) → width ≤ 20 → height ≤ 20 → All IsInGrid (plans_of width height)
plans_inside width height wide high =
    all_flat IsInGrid (plans_in width height) (range_with_len 0 height)
    (λ y has_y. all_flat IsInGrid (plans_at width height y) (range_with_len 0 width)
    (λ x has_x.
    let small_x : x < 20 = omega (arith, from_range width x has_x) in
    let small_y : y < 20 = omega (arith, from_range height y has_y) in
    All-append IsInGrid (if nat_lt (x + 1) width then record { east = true; x = x; y = y } ∷ [] else []) (if nat_lt (y + 1) height then record { east = false; x = x; y = y } ∷ [] else [])
    (one_plan (nat_lt (x + 1) width) true x y small_x small_y) (one_plan (nat_lt (y + 1) height) false x y small_x small_y)))

at_most_two : (width height y x : ℕ) → length (plans_at width height y x) ≤ 2
at_most_two width height y x =
    omega (
      arith,
      length-append {A = Plan} (if nat_lt (x + 1) width then record { east = true; x = x; y = y } ∷ [] else []) (if nat_lt (y + 1) height then record { east = false; x = x; y = y } ∷ [] else []),
      one_length (nat_lt (x + 1) width) true x y,
      one_length (nat_lt (y + 1) height) false x y,
    )

pub few_plans : (width height : ℕ) → width ≤ 20 → height ≤ 20 → length (plans_of width height) ≤ 800
few_plans width height wide high =
    let rows : (y : ℕ) → length (plans_in width height y) ≤ 40 = λ y.
    let r = length_flat (plans_at width height y) 2 (range_with_len 0 width) (at_most_two width height y) in omega (arith, r, length-range_with_len 0 width) in
    let all = length_flat (plans_in width height) 40 (range_with_len 0 height) rows in
    omega (arith, all, length-range_with_len 0 height)

-- ---- one row more

cost_small : (b : Bool) (d : ℕ) → d < 9 → is_cost (cost_drawn b d) ≡ true
cost_small true d small = refl
cost_small false d small = le-leb (d + 1) cost_limit (omega arith)

end_is_name : (east : Bool) (x y : ℕ) → x < 20 → y < 20 → is_name (if east then point (x + 1) y else point x (y + 1)) ≡ true
end_is_name true x y small_x small_y = point_is_name (x + 1) y (omega arith) (omega arith)
end_is_name false x y small_x small_y = point_is_name x (y + 1) (omega arith) (omega arith)

row_is_row : (plan : Plan) (x : ℕ) → IsInGrid plan → IsRow (row_drawn plan x)
row_is_row plan x inside = record {
  street = street_is_name plan (omega (arith, inside.0)) (omega (arith, inside.1));
  from = point_is_name plan.x plan.y (omega (arith, inside.0)) (omega (arith, inside.1));
  to = end_is_name plan.east plan.x plan.y inside.0 inside.1;
  forward = cost_small _ (drawn 9 (next_state x)) (omega arith);
  backward = cost_small _ (drawn 9 (next_state (next_state x))) (omega arith);
}

one_need : (b : Bool) → length (demands_at 0 (if b then Either else No)) ≤ 1
one_need true = omega arith
one_need false = omega arith

junction_more : (b : Bool) (names : List (List ℕ)) (name : List ℕ) → length (if b then names else names ++ name ∷ []) ≤ length names + 1
junction_more true names name = omega arith
junction_more false names name = omega (arith, length_push names name)

ends_more : (names : List (List ℕ)) (row : Row) → length (with_ends names row) ≤ length names + 2
ends_more names row =
    omega (arith, junction_more (list_any (bytes_eq row.from) names) names row.from, junction_more (list_any (bytes_eq row.to) (with_junction names row.from)) (with_junction names row.from) row.to)

-- what is drawn so far, and what is left to be drawn
pub record IsDrawing (goal : Table) (plans : List Plan) (i : ℕ) (rows : TableReader) (state : ℕ) : Type 0 where
  pub whole : with_plans (rows_in rows) state (drop i plans) ≡ goal
  pub town : IsTown rows.junctions rows.streets
  pub streets : length rows.streets ≡ i
  pub junctions : length rows.junctions ≤ 2 * i
  pub demands : length (demands_from 0 rows.streets) ≤ i
  pub counted : rows.demands ≡ length (demands_from 0 rows.streets)

pub growing : (goal : Table) (plans : List Plan) (i : ℕ) (rows : TableReader) (state : ℕ) → IsDrawing goal plans i rows state → i ≤ 800 → IsGrowing rows
growing goal plans i rows state is small = record {
  few_streets = omega (arith, is.streets);
  few_junctions = omega (arith, is.junctions);
  few_demands = omega (arith, is.demands);
  counted = is.counted;
}

pub drawing_more : (goal : Table) (plans : List Plan) (i : ℕ) (rows new : TableReader) (state : ℕ) (plan d : Plan) (row : Row) → IsDrawing goal plans i rows state → i < length plans → length plans ≤ 800 → plan ≡ get_or plans i d → IsInGrid plan → row ≡ row_drawn plan state → rows_in new ≡ with_row (rows_in rows) row → new.demands ≡ length (demands_from 0 new.streets)
    → IsDrawing goal plans (i + 1) new (state_after state)
drawing_more goal plans i rows new state plan d row is small few at inside row_is rows_is counted =
    let table = rows_in rows in
    let drawn_row = row_drawn plan state in
    let same : rows_in new ≡ with_row table drawn_row = rows_is ∙ ap (with_row table) row_is in
    let names = ends_more rows.junctions drawn_row in
    let street = street_in (with_ends rows.junctions drawn_row) drawn_row in
    let streets_more = length_push rows.streets street in
    let demands_more = length-demands_from-push 0 rows.streets street in
    let need = one_need (drawn 2 (next_state (next_state (next_state (next_state state)))) == 1) in
    let within : IsWithin (with_row table drawn_row) (with_row table drawn_row) = record {
      few_streets = omega (arith, streets_more, is.streets);
      few_junctions = omega (arith, names, is.junctions);
      few_demands = omega (arith, demands_more, need, is.demands);
      same = refl;
    } in
    let rest : drop i plans ≡ plan ∷ drop (i + 1) plans = drop_more plans i d small ∙ ap (λ p. p ∷ drop (i + 1) plans) (sym at) in
    record {
      whole = ap (λ (t : Table). with_plans t (state_after state) (drop (i + 1) plans)) same ∙ sym (ap (with_plans table state) rest) ∙ is.whole;
      town = subst (λ (t : Table). IsTown t.junctions t.streets) (sym same) (town_with_row table drawn_row (row_is_row plan state inside) is.town within);
      streets = omega (arith, ap (λ (t : Table). length t.streets) same, streets_more, is.streets);
      junctions = omega (arith, ap (λ (t : Table). length t.junctions) same, names, is.junctions);
      demands = omega (arith, ap (λ (t : Table). length (demands_from 0 t.streets)) same, demands_more, need, is.demands);
      counted = counted;
    }

pub drawing_none : (seed width height : ℕ) (plans : List Plan) (rows : TableReader) → plans ≡ plans_of width height → rows_in rows ≡ no_rows → IsGrowing rows → IsDrawing (grid_of seed width height) plans 0 rows seed
drawing_none seed width height plans rows is none growing =
    record {
      whole = ap (λ (t : Table). with_plans t seed plans) none ∙ ap (with_plans no_rows seed) is;
      town = subst (λ (t : Table). IsTown t.junctions t.streets) (sym none) town_of_none;
      streets = ap (λ (t : Table). length t.streets) none;
      junctions = omega (arith, ap (λ (t : Table). length t.junctions) none);
      demands = omega (arith, ap (λ (t : Table). length (demands_from 0 t.streets)) none);
      counted = growing.counted;
    }

pub drawing_ends : (goal : Table) (plans : List Plan) (i : ℕ) (rows : TableReader) (state : ℕ) → IsDrawing goal plans i rows state → length plans ≤ i → rows_in rows ≡ goal
drawing_ends goal plans i rows state is past = sym (ap (with_plans (rows_in rows) state) (drop_all i plans past)) ∙ is.whole
