-- What a table that was read says of each record, whatever the order of reading.
use Rattle.std.specs.Prelude.{◌≡◌, ℕ, ◌+◌, true, List, [], ◌∷◌, Ok}
use Rattle.wrp_street.specs.Headers.{is_header}
use Rattle.wrp_town.specs.declared.street.Street.{Street}
use Rattle.wrp_street.specs.declared.row.Row.{Row}
use Rattle.wrp_street.specs.Rows.{row_of}
use Rattle.wrp_street.specs.Tables.{Table, street_in}

-- the street is the one of a row of this number, its ends the places of their names among all
-- junctions
pub record IsStreetOf
    (junctions : List (List ℕ)) (number : ℕ) (fields : List (List ℕ)) (street : Street)
    : Type 0 where
  pub row : Row
  pub read : row_of number fields ≡ Ok row
  pub same : street ≡ street_in junctions row

-- the records are the rows of the streets, one for each, numbered from here on
abbrev pub AreStreetsOf : List (List ℕ) → ℕ → List (List (List ℕ)) → List Street → Type 0
AreStreetsOf junctions number [] [] = Unit {0}
AreStreetsOf junctions number [] (street ∷ streets) = ⊥
AreStreetsOf junctions number (fields ∷ records) [] = ⊥
AreStreetsOf junctions number (fields ∷ records) (street ∷ streets) =
    IsStreetOf junctions number fields street
    × AreStreetsOf junctions (number + 1) records streets

-- a header, and a record for each street
abbrev pub AreRecordsOf : Table → List (List (List ℕ)) → Type 0
AreRecordsOf table [] = ⊥
AreRecordsOf table (header ∷ records) =
    (is_header header ≡ true) × AreStreetsOf table.junctions 1 records table.streets
