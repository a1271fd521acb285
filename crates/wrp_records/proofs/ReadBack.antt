-- What was written is read back: the lines of records without bytes below the space give those
-- records.
use Rattle.std.proofs.Common.{◌≡◌, ◌≤◌, ◌==◌, ◌||◌, ◌++◌, ◌∷◌, [], ℕ, List, Bool, true, false, Some, nat_le, refl, ap, ◌∙◌, arith}
use Rattle.std.proofs.lemmas.Bool.{and_parts}
use Rattle.std.proofs.lemmas.Bool.Decides.{nat_tests}
use Rattle.std.proofs.lemmas.List.{append_assoc}
use Rattle.std.specs.List.{list_all, list_any}
use Rattle.csv.specs.Machine.{next_record}
use Rattle.csv.specs.Reading.{default_config, strip_bom}
use Rattle.csv.specs.Writing.{default_writer, escaped, fields_text, is_blank, needs_byte, row_text}
use Rattle.csv.specs.Writing.{field_text as csv_field_text}
use Rattle.csv.specs.declared.parser.State.TheVariants as st
use Rattle.csv.proofs.RoundTrip.{read-write-many}
use Rattle.wrp_records.specs.Lines.{after_commas, doubled, field_text, is_line, is_mark, is_printed, line_text, lines_text}
use Rattle.wrp_records.specs.Streams.{records_left, records_of}
use Rattle.wrp_records.proofs.Enough.{records_left-more, records_left-none}

-- a byte from the space on calls for csv's quotes where it is a comma or a double quote
needs_byte-printed : (byte : ℕ) → nat_le 32 byte ≡ true → needs_byte default_writer byte ≡ is_mark byte
needs_byte-printed byte printed =
    let above : 32 ≤ byte = grind (arith, nat_tests) in
    let cr : (byte == 13) ≡ false = grind (arith, nat_tests) in
    let lf : (byte == 10) ≡ false = grind (arith, nat_tests) in
    rw (cr, lf) (no_more (byte == 44) (byte == 34))
  where
    no_more : (p q : Bool) → (p || q || false || false || false) ≡ (p || q)
    no_more true q = refl
    no_more false true = refl
    no_more false false = refl

needs-printed : (field : List ℕ) → is_printed field ≡ true → list_any (needs_byte default_writer) field ≡ list_any is_mark field
needs-printed [] printed = refl
needs-printed (byte ∷ bytes) printed =
    let here = needs_byte-printed byte (and_parts (nat_le 32 byte) (is_printed bytes) printed).0 in
    let there = needs-printed bytes (and_parts (nat_le 32 byte) (is_printed bytes) printed).1 in
    joined (needs_byte default_writer byte) (is_mark byte) _ _ here there
  where
    joined : (a b c d : Bool) → a ≡ b → c ≡ d → (a || c) ≡ (b || d)
    joined a b c d p q = rw (p, q) refl

escaped-is : (field : List ℕ) → escaped default_writer field ≡ doubled field
unfolding escaped doubled
escaped-is [] = refl
escaped-is (byte ∷ bytes) = rw (escaped-is bytes) refl

field_text-is : (field : List ℕ) → is_printed field ≡ true → csv_field_text default_writer field ≡ field_text field
unfolding field_text
field_text-is field printed = rw (needs-printed field printed, escaped-is field) refl

fields_text-is : (fields : List (List ℕ)) → list_all is_printed fields ≡ true → fields_text default_writer fields ≡ after_commas fields
unfolding fields_text after_commas
fields_text-is [] printed = refl
fields_text-is (field ∷ fields) printed =
    rw (
      field_text-is field (and_parts (is_printed field) (list_all is_printed fields) printed).0,
      fields_text-is fields (and_parts (is_printed field) (list_all is_printed fields) printed).1,
    ) refl

row_text-is : (x y : List ℕ) (ys : List (List ℕ)) → list_all is_printed (x ∷ y ∷ ys) ≡ true
    → row_text default_writer (x ∷ y ∷ ys) ≡ line_text (x ∷ y ∷ ys)
unfolding is_blank line_text
row_text-is x y ys printed =
    rw (
      field_text-is x (and_parts (is_printed x) (list_all is_printed (y ∷ ys)) printed).0,
      fields_text-is (y ∷ ys) (and_parts (is_printed x) (list_all is_printed (y ∷ ys)) printed).1,
    )
    (append_assoc (field_text x) (after_commas (y ∷ ys)) (10 ∷ []))

-- a written record is the next one
pub next_record-line : (fields : List (List ℕ)) (tail : List ℕ) → is_line fields ≡ true
    → next_record default_config st.StartRecord [] [] (line_text fields ++ tail) ≡ Some (fields, st.StartRecord, tail)
unfolding is_line
next_record-line [] tail line = cc line
next_record-line (x ∷ []) tail line = cc line
next_record-line (x ∷ y ∷ ys) tail line =
    rw (← row_text-is x y ys (and_parts _ (list_all is_printed (x ∷ y ∷ ys)) line).1) (read-write-many x y ys tail)

-- written records are those that are left
pub records_left-lines : (records : List (List (List ℕ))) → list_all is_line records ≡ true → records_left st.StartRecord (lines_text records) ≡ records
unfolding lines_text next_record
records_left-lines [] lines = records_left-none st.StartRecord [] refl
records_left-lines (fields ∷ records) lines =
    records_left-more st.StartRecord (line_text fields ++ lines_text records) (fields, st.StartRecord, lines_text records) refl
    (next_record-line fields (lines_text records) (and_parts (is_line fields) (list_all is_line records) lines).0)
    ∙ ap (λ (rest : List (List (List ℕ))). fields ∷ rest) (records_left-lines records (and_parts (is_line fields) (list_all is_line records) lines).1)

-- the lines of records read back as these, where they begin with no mark
pub records_of-lines : (records : List (List (List ℕ))) → list_all is_line records ≡ true
    → strip_bom (lines_text records) ≡ lines_text records → records_of (lines_text records) ≡ records
records_of-lines records lines bare = rw bare (records_left-lines records lines)
