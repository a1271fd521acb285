-- The header of a table.
use Rattle.std.specs.Prelude.{ℕ, List, [], ◌∷◌, Bool, map, codes}
use Rattle.std.specs.Cmp.Lexicographic.{pointwise}
use Rattle.std.specs.Str.{bytes_eq}
use Rattle.wrp_records.specs.Fields.{trimmed}

-- the names of the six columns, in order
abbrev pub columns : List (List ℕ)
columns =
    codes "street" ∷ codes "from" ∷ codes "to"
    ∷ codes "forward" ∷ codes "backward" ∷ codes "need" ∷ []

-- whether a record's fields, without blanks at their ends, are the names of the columns
unfoldable pub is_header : List (List ℕ) → Bool
is_header fields = pointwise bytes_eq (map trimmed fields) columns
