-- How long the table of a town is.
use Rattle.std.proofs.Common.{◌≡◌, ℕ, ◌+◌, ◌*◌, ◌≤◌, ◌==◌, Bool, true, false, cond, List, [], ◌∷◌, ◌++◌, length, map, Option, Some, None, lit<, arith, length-append}
use Rattle.std.proofs.lemmas.Bool.{and_parts, leb-true}
use Rattle.std.proofs.lemmas.Fmt.{length-decimal-le}
use Rattle.std.specs.List.{list_all, list_any}
use Rattle.wrp_street.specs.Headers.{columns}
use Rattle.wrp_records.specs.Lines.{after_commas, doubled, field_text, is_mark, line_text, lines_text}
use Rattle.wrp_town.specs.declared.street.Need.{Need}
use Rattle.wrp_town.specs.declared.street.Need.TheVariants.{No, Either, Forward, Backward, Both}
use Rattle.wrp_town.specs.declared.street.Street.{Street}
use Rattle.wrp_town.specs.declared.town.Town.{Town}
use Rattle.wrp_town.specs.Limits.{cost_limit}
use Rattle.wrp_town.specs.Names.{name_limit, is_name}
use Rattle.wrp_town.specs.Streets.{is_cost, is_street}
use Rattle.wrp_town.proofs.TownLaws.{IsSound, IsSound-from_is_street}
use Rattle.wrp_street.specs.Canonical.{text_of_cost, text_of_need, name_at, fields_of_street, records_in, canonical_of, size_limit}
use Rattle.wrp_town.proofs.Lists.{list_all-at}
use Rattle.wrp_street.proofs.FieldsBack.{spelled}

doubled_if : (b : Bool) (byte n : ℕ) (rest : List ℕ) → length rest ≤ n → length (cond b (34 ∷ byte ∷ rest) (byte ∷ rest)) ≤ n + 2
doubled_if true byte n rest small = omega arith
doubled_if false byte n rest small = omega arith

length-doubled : (field : List ℕ) → length (doubled field) ≤ 2 * length field
unfolding doubled
length-doubled [] = omega arith
length-doubled (byte ∷ bytes) =
    omega (arith, doubled_if (byte == 34) byte (2 * length bytes) (doubled bytes) (length-doubled bytes))

field_if : (b : Bool) (field double : List ℕ) → length double ≤ 2 * length field → length (cond b (34 ∷ (double ++ (34 ∷ []))) field) ≤ 2 * length field + 2
field_if true field double small = omega (arith, length-append double (34 ∷ []))
field_if false field double small = omega arith

-- a field is written in at most twice its bytes and two quotes
length-field_text : (field : List ℕ) → length (field_text field) ≤ 2 * length field + 2
unfolding field_text
length-field_text field = field_if (list_any is_mark field) field (doubled field) (length-doubled field)

length-six : (a b c d e f : List ℕ) → length (line_text (a ∷ b ∷ c ∷ d ∷ e ∷ f ∷ []))
    ≤ 2 * (length a + length b + length c + length d + length e + length f) + 18
unfolding line_text after_commas
length-six a b c d e f =
    let last = field_text f ++ [] in
    omega (
      arith,
      length-append (field_text a) ((44 ∷ (field_text b ++ (44 ∷ (field_text c ++ (44 ∷ (field_text d ++ (44 ∷ (field_text e ++ (44 ∷ last))))))))) ++ (10 ∷ [])),
      length-append (44 ∷ (field_text b ++ (44 ∷ (field_text c ++ (44 ∷ (field_text d ++ (44 ∷ (field_text e ++ (44 ∷ last))))))))) (10 ∷ []),
      length-append (field_text b) (44 ∷ (field_text c ++ (44 ∷ (field_text d ++ (44 ∷ (field_text e ++ (44 ∷ last))))))),
      length-append (field_text c) (44 ∷ (field_text d ++ (44 ∷ (field_text e ++ (44 ∷ last))))),
      length-append (field_text d) (44 ∷ (field_text e ++ (44 ∷ last))),
      length-append (field_text e) (44 ∷ last),
      length-append (field_text f) [],
      length-field_text a,
      length-field_text b,
      length-field_text c,
      length-field_text d,
      length-field_text e,
      length-field_text f,
    )

length-cost : (cost : Option ℕ) → is_cost cost ≡ true → length (text_of_cost cost) ≤ 10
length-cost None is = omega arith
length-cost (Some cost) is =
    let small = leb-true cost cost_limit is in
    length-decimal-le 10 cost (lit< tt) (omega arith) (omega arith)

length-need : (need : Need) → length (text_of_need need) ≤ 8
length-need No = omega arith
length-need Either = omega arith
length-need Forward = omega arith
length-need Backward = omega arith
length-need Both = omega arith

length-name : (name : List ℕ) → is_name name ≡ true → length name ≤ name_limit
length-name name is = (spelled name is).few

-- a street is written in at most 458 bytes
length-street : (junctions : List (List ℕ)) (street : Street) → list_all is_name junctions ≡ true → IsSound (length junctions) street
    → length (line_text (fields_of_street junctions street)) ≤ 458
length-street junctions street named sound =
    omega (
      arith,
      length-six street.name (name_at junctions street.from) (name_at junctions street.to) (text_of_cost street.forward) (text_of_cost street.backward) (text_of_need street.need),
      length-name street.name sound.named,
      length-name (name_at junctions street.from) (list_all-at is_name junctions street.from [] named sound.from),
      length-name (name_at junctions street.to) (list_all-at is_name junctions street.to [] named sound.to),
      length-cost street.forward sound.forward,
      length-cost street.backward sound.backward,
      length-need street.need,
    )

length-streets : (junctions : List (List ℕ)) (streets : List Street) → list_all is_name junctions ≡ true → list_all (is_street (length junctions)) streets ≡ true
    → length (lines_text (map (fields_of_street junctions) streets)) ≤ 458 * length streets
unfolding lines_text
length-streets junctions [] named sound = omega arith
length-streets junctions (street ∷ streets) named sound =
    let parts = and_parts (is_street (length junctions) street) (list_all (is_street (length junctions)) streets) sound in
    omega (
      arith,
      length-append (line_text (fields_of_street junctions street)) (lines_text (map (fields_of_street junctions) streets)),
      length-street junctions street named (IsSound-from_is_street (length junctions) street parts.0),
      length-streets junctions streets named parts.1,
    )

length-header : (records : List (List (List ℕ))) → length (lines_text (columns ∷ records)) ≡ 37 + length (lines_text records)
unfolding lines_text line_text after_commas field_text
length-header records = omega arith

pub length-canonical_of : (town : Town) → length (canonical_of town) ≤ size_limit
unfolding canonical_of
length-canonical_of town =
    let is = town.well_formed in
    omega (arith, length-header (records_in town), length-streets town.junctions town.streets is.named is.sound, is.few_streets)
