-- Each record of a table that was read is the row of one street.
use Rattle.std.proofs.Common.{◌≡◌, ℕ, ◌+◌, Bool, true, false, List, [], ◌∷◌, ◌++◌, ap, refl, sym, ◌∙◌, subst, arith, length-append, append_assoc}
use Rattle.std.specs.Prelude.{Ok, if◌then◌else◌}
use Rattle.std.specs.List.{list_any}
use Rattle.std.specs.Str.{bytes_eq}
use Rattle.std.proofs.lemmas.List.{append-nil}
use Rattle.std.proofs.lemmas.List.Folds.{list_any-append}
use Rattle.wrp_street.specs.Headers.{is_header}
use Rattle.wrp_records.specs.Streams.{records_of}
use Rattle.wrp_town.specs.declared.street.Street.{Street}
use Rattle.wrp_town.specs.Streets.{IsTown}
use Rattle.wrp_street.specs.declared.row.Row.{Row}
use Rattle.wrp_street.specs.declared.table.TableFault.TheVariants as faults
use Rattle.wrp_street.specs.Rows.{row_of}
use Rattle.wrp_street.specs.Tables.{Table, no_rows, with_junction, with_ends, with_row, number_of, street_in, next_row, within_limits, with_record, with_records, under_header, table_of}
use Rattle.wrp_street.specs.Spelled.{AreStreetsOf, AreRecordsOf}
use Rattle.wrp_street.proofs.Places.{placed, number_kept}
use Rattle.wrp_street.proofs.RowSteps.{within_limits-keeps}
use Rattle.wrp_street.proofs.RowFacts.{bind_ok, chosen_ok}
use Rattle.wrp_street.proofs.TownSteps.{town_of_records}

-- ---- a name keeps its number as rows are added

-- a name of the junctions is one of those later, under the same number
pub record IsKept (name : List ℕ) (names later : List (List ℕ)) : Type 0 where
  pub there : list_any (bytes_eq name) later ≡ true
  pub same : number_of later name ≡ number_of names name

kept_on : (name : List ℕ) (a b c : List (List ℕ)) → IsKept name a b → IsKept name b c → IsKept name a c
kept_on name a b c first second = record { there = second.there; same = second.same ∙ first.same }

there_if : (b : Bool) (name other : List ℕ) (names : List (List ℕ)) → list_any (bytes_eq name) names ≡ true → list_any (bytes_eq name) (if b then names else names ++ other ∷ []) ≡ true
there_if true name other names there = there
there_if false name other names there = rw (list_any-append (bytes_eq name) names (other ∷ []), there) refl

kept_with : (name other : List ℕ) (names : List (List ℕ)) → list_any (bytes_eq name) names ≡ true → IsKept name names (with_junction names other)
kept_with name other names there =
    record { there = there_if (list_any (bytes_eq other) names) name other names there; same = number_kept name other names there }

kept_with_ends : (name : List ℕ) (row : Row) (names : List (List ℕ)) → list_any (bytes_eq name) names ≡ true → IsKept name names (with_ends names row)
kept_with_ends name row names there =
    let first = kept_with name row.from names there in
    kept_on name names (with_junction names row.from) (with_ends names row) first (kept_with name row.to (with_junction names row.from) first.there)

-- the row of a record that was added, and the table with it
pub record IsAdded (table next : Table) (fields : List (List ℕ)) : Type 0 where
  pub row : Row
  pub read : row_of (next_row table) fields ≡ Ok row
  pub same : next ≡ with_row table row

added : (table next : Table) (fields : List (List ℕ)) → with_record table fields ≡ Ok next → IsAdded table next fields
added table next fields is =
    let read = bind_ok (row_of (next_row table) fields) (λ row. within_limits (next_row table) (with_row table row)) next is in
    record { row = read.0; read = read.1; same = sym (within_limits-keeps (next_row table) (with_row table read.0) next read.2).same }

kept_added : (name : List ℕ) (table next : Table) (fields : List (List ℕ)) → IsAdded table next fields → list_any (bytes_eq name) table.junctions ≡ true → IsKept name table.junctions next.junctions
kept_added name table next fields is there =
    subst (λ (t : Table). IsKept name table.junctions t.junctions) (sym is.same) (kept_with_ends name is.row table.junctions there)

kept_to_end : (name : List ℕ) (table last : Table) (records : List (List (List ℕ))) → with_records table records ≡ Ok last → list_any (bytes_eq name) table.junctions ≡ true → IsKept name table.junctions last.junctions
unfolding with_records
kept_to_end name table last [] is there =
    let same : table ≡ last = cc in
    subst (λ (t : Table). IsKept name table.junctions t.junctions) same (record { there = there; same = refl })
kept_to_end name table last (fields ∷ records) is there =
    let read = bind_ok (with_record table fields) (λ next. with_records next records) last is in
    let now = kept_added name table read.0 fields (added table read.0 fields read.1) there in
    kept_on name table.junctions read.0.junctions last.junctions now (kept_to_end name read.0 last records read.2 now.there)

-- ---- both names of a row are there once it is added

ends_there : (names : List (List ℕ)) (row : Row) → (list_any (bytes_eq row.from) (with_ends names row) ≡ true) × (list_any (bytes_eq row.to) (with_ends names row) ≡ true)
ends_there names row =
    ((kept_with row.from row.to (with_junction names row.from) (placed row.from names).there).there, (placed row.to (with_junction names row.from)).there)

same_street : (names later : List (List ℕ)) (row : Row) → IsKept row.from names later → IsKept row.to names later → street_in names row ≡ street_in later row
same_street names later row from to = cc (from.same, to.same)

-- ---- the streets that records add

pub record IsGrown (table last : Table) (records : List (List (List ℕ))) : Type 0 where
  pub more : List Street
  pub streets : last.streets ≡ table.streets ++ more
  pub rows : AreStreetsOf last.junctions (next_row table) records more

grown_first : (table next last : Table) (fields : List (List ℕ)) (records : List (List (List ℕ))) → IsAdded table next fields → with_records next records ≡ Ok last → IsGrown next last records → IsGrown table last (fields ∷ records)
grown_first table next last fields records is rest grown =
    let ends = ends_there table.junctions is.row in
    let names = ap (λ (t : Table). t.junctions) is.same in
    let from = kept_to_end is.row.from next last records rest (rw names (ends.0)) in
    let to = kept_to_end is.row.to next last records rest (rw names (ends.1)) in
    let pushed = ap (λ (t : Table). t.streets) is.same in
    let street = same_street (with_ends table.junctions is.row) last.junctions is.row (rw names at from) (rw names at to) in
    let number : next_row next ≡ next_row table + 1 = rw pushed (omega (arith, length-append table.streets (street_in (with_ends table.junctions is.row) is.row ∷ []))) in
    record {
      more = street_in (with_ends table.junctions is.row) is.row ∷ grown.more;
      streets = grown.streets ∙ ap (λ ss. ss ++ grown.more) pushed ∙ append_assoc table.streets (street_in (with_ends table.junctions is.row) is.row ∷ []) grown.more;
      rows = (record { row = is.row; read = is.read; same = street }, subst (λ n. AreStreetsOf last.junctions n records grown.more) number grown.rows);
    }

grown_by : (table last : Table) (records : List (List (List ℕ))) → with_records table records ≡ Ok last → IsGrown table last records
unfolding with_records
grown_by table last [] is =
    let same : table ≡ last = cc in
    subst (λ (t : Table). IsGrown table t []) same (record { more = []; streets = sym (append-nil table.streets); rows = tt })
grown_by table last (fields ∷ records) is =
    let read = bind_ok (with_record table fields) (λ next. with_records next records) last is in
    grown_first table read.0 last fields records (added table read.0 fields read.1) read.2 (grown_by read.0 last records read.2)

rows_of_header : (table : Table) (records : List (List (List ℕ))) → with_records no_rows records ≡ Ok table → AreStreetsOf table.junctions 1 records table.streets
rows_of_header table records is =
    let grown = grown_by no_rows table records is in
    subst (λ ss. AreStreetsOf table.junctions 1 records ss) (sym grown.streets) grown.rows

records_under_header : (records : List (List (List ℕ))) (table : Table) → under_header records ≡ Ok table → AreRecordsOf table records × IsTown table.junctions table.streets
unfolding under_header
records_under_header [] table is = absurd (cc)
records_under_header (header ∷ records) table is =
    let chosen = chosen_ok (is_header header) (with_records no_rows records) faults.Header table is in
    ((chosen.0, rows_of_header table records chosen.1), town_of_records table records chosen.1)

pub table_is_town : (bytes : List ℕ) (table : Table) → table_of bytes ≡ Ok table → IsTown table.junctions table.streets
table_is_town bytes table is = (records_under_header (records_of bytes) table is).1

pub table_has_records : (bytes : List ℕ) (table : Table) → table_of bytes ≡ Ok table → AreRecordsOf table (records_of bytes)
table_has_records bytes table is = (records_under_header (records_of bytes) table is).0
