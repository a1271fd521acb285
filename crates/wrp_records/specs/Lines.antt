-- How records are written: a line for each, with quotes only where they are needed.
use Rattle.std.specs.Prelude.{ℕ, List, [], ◌∷◌, ◌++◌, length, map, Bool, if◌then◌else◌, ◌==◌, ◌||◌, ◌&&◌, nat_le, nat_lt}
use Rattle.std.specs.Borrow.{Bor}
use Rattle.std.specs.List.{list_all, list_any}
use Rattle.wrp_records.specs.Fields.{space}

-- the bytes of a comma and of a double quote, and LF
abbrev pub comma : ℕ
comma = 44

abbrev pub quote : ℕ
quote = 34

abbrev pub line_feed : ℕ
line_feed = 10

-- whether a byte calls for quotes: a comma or a double quote
abbrev pub is_mark : ℕ → Bool
is_mark byte = (byte == comma) || (byte == quote)

-- a field with each double quote doubled
unfoldable pub doubled : List ℕ → List ℕ
doubled [] = []
doubled (byte ∷ bytes) =
    if byte == quote then quote ∷ byte ∷ doubled bytes else byte ∷ doubled bytes

-- a field as it is written: in double quotes exactly where it holds a comma or a double quote
unfoldable pub field_text : List ℕ → List ℕ
field_text field =
    if list_any is_mark field then quote ∷ (doubled field ++ (quote ∷ [])) else field

-- the fields after the first as they are written, each after a comma
unfoldable pub after_commas : List (List ℕ) → List ℕ
after_commas [] = []
after_commas (field ∷ fields) = comma ∷ (field_text field ++ after_commas fields)

-- a record as it is written: its fields with commas between them, then LF
unfoldable pub line_text : List (List ℕ) → List ℕ
line_text [] = line_feed ∷ []
line_text (field ∷ fields) = field_text field ++ (after_commas fields ++ (line_feed ∷ []))

-- records as they are written, one line after the other
unfoldable pub lines_text : List (List (List ℕ)) → List ℕ
lines_text [] = []
lines_text (fields ∷ records) = line_text fields ++ lines_text records

-- the texts that fields lend
abbrev pub texts_of : List (Bor (List ℕ)) → List (List ℕ)
texts_of fields = map (λ field. field.now) fields

-- whether a field has no byte below the space
abbrev pub is_printed : List ℕ → Bool
is_printed field = list_all (nat_le space) field

-- whether a record has two fields or more, all without bytes below the space
unfoldable pub is_line : List (List ℕ) → Bool
is_line fields = nat_lt 1 (length fields) && list_all is_printed fields
