-- Rows of named streets, one after another, make a town.
use Rattle.std.proofs.Common.{◌≡◌, ℕ, ◌+◌, ◌*◌, ◌≤◌, true, ◌&&◌, List, [], ◌∷◌, length, refl, arith}
use Rattle.std.specs.List.{list_all}
use Rattle.std.proofs.lemmas.Bool.{and_parts}
use Rattle.std.proofs.lemmas.List.{length-append}
use Rattle.wrp_town.specs.declared.street.Need.{Need}
use Rattle.wrp_town.specs.declared.street.Need.TheVariants.{No, Either, Forward, Backward, Both}
use Rattle.wrp_town.specs.declared.street.Street.{Street}
use Rattle.wrp_town.specs.Names.{is_name}
use Rattle.wrp_town.specs.Streets.{demands_at, demands_from, is_cost}
use Rattle.wrp_street.specs.declared.row.Row.{Row}
use Rattle.wrp_street.specs.Tables.{Table, no_rows, with_junction, with_ends, with_row, street_in}
use Rattle.wrp_street.proofs.Places.{placed}
use Rattle.wrp_street.proofs.RowSteps.{length-demands_from-push}
use Rattle.wrp_street.proofs.RowFacts.{IsRow}
use Rattle.wrp_street.proofs.TownSteps.{town_with_row, town_of_none}
use Rattle.wrp_town_laws.specs.Towns.{with_rows, table_of_rows, is_row, KeepsLimits, IsTownTable}

-- ---- a row keeps the rule of rows

IsRow-from_is_row : (row : Row) → is_row row ≡ true → IsRow row
IsRow-from_is_row row is =
    let a = and_parts (is_name row.street && is_name row.from && is_name row.to && is_cost row.forward) (is_cost row.backward) is in
    let b = and_parts (is_name row.street && is_name row.from && is_name row.to) (is_cost row.forward) a.0 in
    let c = and_parts (is_name row.street && is_name row.from) (is_name row.to) b.0 in
    let d = and_parts (is_name row.street) (is_name row.from) c.0 in
    record { street = d.0; from = d.1; to = c.1; forward = b.1; backward = a.1 }

-- ---- a row more takes nothing away, so the limits at the end hold all along

fewer_before : (table : Table) (row : Row) → KeepsLimits (with_row table row) → KeepsLimits table
fewer_before table row few =
    let first = placed row.from table.junctions in
    let second = placed row.to (with_junction table.junctions row.from) in
    let first_grows = first.grows in
    let second_grows = second.grows in
    let junctions = few.few_junctions in
    record {
      few_junctions = omega arith;
      few_streets = omega (arith, few.few_streets, length-append table.streets (street_in (with_ends table.junctions row) row ∷ []));
      few_demands = omega (arith, few.few_demands, length-demands_from-push 0 table.streets (street_in (with_ends table.junctions row) row));
    }

fewer_first : (table : Table) (rows : List Row) → KeepsLimits (with_rows table rows) → KeepsLimits table
fewer_first table [] few = few
fewer_first table (row ∷ rows) few = fewer_before table row (fewer_first (with_row table row) rows few)

pub town_with_rows : (table : Table) (rows : List Row) → list_all is_row rows ≡ true → KeepsLimits (with_rows table rows) → IsTownTable table
    → IsTownTable (with_rows table rows)
town_with_rows table [] all few town = town
town_with_rows table (row ∷ rows) all few town =
    let parts = and_parts (is_row row) (list_all is_row rows) all in
    let here = fewer_first (with_row table row) rows few in
    town_with_rows (with_row table row) rows parts.1 few
    (town_with_row table row (IsRow-from_is_row row parts.0) town (record { few_streets = here.few_streets; few_junctions = here.few_junctions; few_demands = here.few_demands; same = refl }))

pub town_of_rows : (rows : List Row) → list_all is_row rows ≡ true → KeepsLimits (table_of_rows rows) → IsTownTable (table_of_rows rows)
town_of_rows rows all few = town_with_rows no_rows rows all few town_of_none

with_rows-streets : (table : Table) (rows : List Row) → length (with_rows table rows).streets ≡ length table.streets + length rows
with_rows-streets table [] = omega arith
with_rows-streets table (row ∷ rows) = omega (arith, with_rows-streets (with_row table row) rows, length-append table.streets (street_in (with_ends table.junctions row) row ∷ []))

two_more : (table : Table) (row : Row) → length (with_row table row).junctions ≤ length table.junctions + 2
two_more table row =
    let first = placed row.from table.junctions in
    let second = placed row.to (with_junction table.junctions row.from) in
    let first_grows = first.grows in
    let first_most = first.at_most in
    let second_grows = second.grows in
    let second_most = second.at_most in
    omega arith

with_rows-junctions : (table : Table) (rows : List Row) → length (with_rows table rows).junctions ≤ length table.junctions + 2 * length rows
with_rows-junctions table [] = omega arith
with_rows-junctions table (row ∷ rows) = omega (arith, with_rows-junctions (with_row table row) rows, two_more table row)

two_demands : (s : ℕ) (need : Need) → length (demands_at s need) ≤ 2
two_demands s No = omega arith
two_demands s Either = omega arith
two_demands s Forward = omega arith
two_demands s Backward = omega arith
two_demands s Both = omega arith

few_demands_of : (s : ℕ) (streets : List Street) → length (demands_from s streets) ≤ 2 * length streets
few_demands_of s [] = omega arith
few_demands_of s (street ∷ streets) = omega (arith, length-append (demands_at s street.need) (demands_from (s + 1) streets), two_demands s street.need, few_demands_of (s + 1) streets)

-- at most 1,000 rows keep the limits
pub few_rows : (rows : List Row) → list_all is_row rows ≡ true → length rows ≤ 1000 → IsTownTable (table_of_rows rows)
few_rows rows all few = town_of_rows rows all (record {
  few_junctions = omega (arith, with_rows-junctions no_rows rows);
  few_streets = omega (arith, with_rows-streets no_rows rows);
  few_demands = omega (arith, few_demands_of 0 (with_rows no_rows rows).streets, with_rows-streets no_rows rows);
})
