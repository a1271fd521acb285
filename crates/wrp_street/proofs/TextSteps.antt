-- A table is written street by street.
use Rattle.std.proofs.Common.{◌≡◌, ℕ, suc, ◌+◌, ◌<◌, ◌≤◌, true, List, [], ◌∷◌, ◌++◌, length, get_or, drop, map, ap, refl, sym, ◌∙◌, subst, append_assoc, add-one, drop-cons, drop_of_length-le}
use Rattle.std.proofs.lemmas.List.{append-nil}
use Rattle.wrp_street.specs.Headers.{columns}
use Rattle.wrp_records.specs.Lines.{line_text, lines_text}
use Rattle.wrp_town.specs.declared.street.Street.{Street}
use Rattle.wrp_town.specs.declared.town.Town.{Town}
use Rattle.wrp_town.specs.Streets.{is_street}
use Rattle.wrp_town.proofs.TownLaws.{IsSound, IsSound-from_is_street}
use Rattle.wrp_street.specs.Canonical.{fields_of_street, canonical_of}
use Rattle.wrp_town.proofs.Lists.{list_all-at}

-- the street of this number, as a loop over the items reads it
pub record IsItem (town : Town) (items : List Street) (i : ℕ) (street : Street) : Type 0 where
  pub same : items ≡ town.streets
  pub below : i < length items
  pub is : street ≡ get_or items i street

item_at : (town : Town) (items : List Street) (i : ℕ) (street : Street) → IsItem town items i street → street ≡ get_or town.streets i street
item_at town items i street item = item.is ∙ ap (λ (streets : List Street). get_or streets i street) item.same

item_below : (town : Town) (items : List Street) (i : ℕ) (street : Street) → IsItem town items i street → i < length town.streets
item_below town items i street item = subst (λ (streets : List Street). i < length streets) item.same item.below

-- its ends are junctions of the town
pub sound_item : (town : Town) (items : List Street) (i : ℕ) (street : Street) → IsItem town items i street → IsSound (length town.junctions) street
sound_item town items i street item =
    let n = length town.junctions in
    IsSound-from_is_street n street
    (subst (λ (x : Street). is_street n x ≡ true) (sym (item_at town items i street item)) (list_all-at (is_street n) town.streets i street town.well_formed.sound (item_below town items i street item)))

-- the lines of the streets from this number on
abbrev pub lines_from : Town → ℕ → List ℕ
lines_from town i = lines_text (map (fields_of_street town.junctions) (drop i town.streets))

-- after the header all streets are left
pub header_written : (town : Town) (none out : List ℕ) → none ≡ [] → out ≡ none ++ line_text columns → out ++ lines_from town 0 ≡ canonical_of town
unfolding canonical_of lines_text
header_written town none out empty is = rw (is, empty) refl

-- the lines from a street on are its own and those of the streets after it
line_first : (town : Town) (i : ℕ) (street : Street) → i < length town.streets → street ≡ get_or town.streets i street
    → line_text (fields_of_street town.junctions street) ++ lines_from town (i + 1) ≡ lines_from town i
unfolding lines_text
line_first town i street below is =
    let lines : List Street → List ℕ = λ streets. lines_text (map (fields_of_street town.junctions) streets) in
    rw (add-one i)
    (ap (λ (x : Street). lines (x ∷ drop (suc i) town.streets)) is ∙ ap lines (sym (drop-cons town.streets i street below)))

-- one more street
pub street_written : (town : Town) (items : List Street) (i : ℕ) (street : Street) (out more : List ℕ) → IsItem town items i street
    → more ≡ out ++ line_text (fields_of_street town.junctions street) → out ++ lines_from town i ≡ canonical_of town → more ++ lines_from town (i + 1) ≡ canonical_of town
street_written town items i street out more item is before =
    ap (λ (text : List ℕ). text ++ lines_from town (i + 1)) is
    ∙ append_assoc out (line_text (fields_of_street town.junctions street)) (lines_from town (i + 1))
    ∙ ap (λ (text : List ℕ). out ++ text) (line_first town i street (item_below town items i street item) (item_at town items i street item))
    ∙ before

-- at the end the table is whole
pub all_written : (town : Town) (items : List Street) (i : ℕ) (out : List ℕ) → items ≡ town.streets → length items ≤ i → out ++ lines_from town i ≡ canonical_of town → out ≡ canonical_of town
unfolding lines_text
all_written town items i out same past before =
    let none : drop i town.streets ≡ [] = drop_of_length-le town.streets (subst (λ (streets : List Street). length streets ≤ i) same past) in
    let left : lines_from town i ≡ [] = ap (λ (streets : List Street). lines_text (map (fields_of_street town.junctions) streets)) none in
    sym (append-nil out) ∙ ap (λ (text : List ℕ). out ++ text) (sym left) ∙ before
