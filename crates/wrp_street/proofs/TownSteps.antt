-- A table within the limits of a town is a town, row by row.
use Rattle.std.proofs.Common.{◌≡◌, ℕ, ◌+◌, ◌<◌, ◌≤◌, Bool, true, false, not, ◌&&◌, List, [], ◌∷◌, ◌++◌, length, ap, refl, ◌∙◌, subst, arith}
use Rattle.std.specs.Prelude.{max, nat_le, nat_lt, if◌then◌else◌, Ok}
use Rattle.std.specs.List.{list_all, list_any}
use Rattle.std.specs.Str.{bytes_eq}
use Rattle.std.specs.Cmp.Lexicographic.{nat_list_eq_equiv}
use Rattle.std.proofs.lemmas.Bool.{and_parts, eqb-true, eq-eqb, le-leb, lt-ltb, ltb-true, not-true, or_parts}
use Rattle.std.proofs.lemmas.List.Folds.{list_all-append, list_any-append}
use Rattle.wrp_town.specs.declared.street.Street.{Street}
use Rattle.wrp_town.specs.Names.{is_name}
use Rattle.wrp_town.specs.Streets.{IsTown, are_different, come_in_order, ends_of, is_street}
use Rattle.wrp_street.specs.declared.row.Row.{Row}
use Rattle.wrp_street.specs.Rows.{row_of}
use Rattle.wrp_street.specs.Tables.{Table, no_rows, with_junction, with_ends, with_row, street_in, next_row, within_limits, with_record, with_records}
use Rattle.wrp_street.proofs.Places.{placed}
use Rattle.wrp_street.proofs.RowSteps.{IsWithin, within_limits-keeps, from_number, to_number}
use Rattle.wrp_street.proofs.RowFacts.{IsRow, row_of-IsRow, bind_ok}

-- ---- names stay names, and different

all_last : {X : Type 0} (p : X → Bool) (xs : List X) (x : X) → list_all p xs ≡ true → p x ≡ true → list_all p (xs ++ x ∷ []) ≡ true
all_last p xs x before last = rw (list_all-append p xs (x ∷ []), before, last) refl

named_if : (b : Bool) (name : List ℕ) (names : List (List ℕ)) → is_name name ≡ true → list_all is_name names ≡ true → list_all is_name (if b then names else names ++ name ∷ []) ≡ true
named_if true name names is before = before
named_if false name names is before = all_last is_name names name before is

named_with : (name : List ℕ) (names : List (List ℕ)) → is_name name ≡ true → list_all is_name names ≡ true → list_all is_name (with_junction names name) ≡ true
named_with name names is before = named_if (list_any (bytes_eq name) names) name names is before

different_last : (names : List (List ℕ)) (name : List ℕ) → list_any (bytes_eq name) names ≡ false → are_different names ≡ true → are_different (names ++ name ∷ []) ≡ true
different_last [] name new before = refl
different_last (first ∷ names) name new before =
    let parts = and_parts (not (list_any (bytes_eq first) names)) (are_different names) before in
    let away = not-true (list_any (bytes_eq first) names) parts.0 in
    let news = or_parts (bytes_eq name first) (list_any (bytes_eq name) names) new in
    let other : bytes_eq first name ≡ false = nat_list_eq_equiv.symm first name ∙ news.0 in
    rw (list_any-append (bytes_eq first) names (name ∷ []), away, other) (different_last names name news.1 parts.1)

different_if : (b : Bool) (name : List ℕ) (names : List (List ℕ)) → list_any (bytes_eq name) names ≡ b → are_different names ≡ true → are_different (if b then names else names ++ name ∷ []) ≡ true
different_if true name names is before = before
different_if false name names is before = different_last names name is before

different_with : (name : List ℕ) (names : List (List ℕ)) → are_different names ≡ true → are_different (with_junction names name) ≡ true
different_with name names before = different_if (list_any (bytes_eq name) names) name names refl before

-- ---- ends stay below the number of junctions

ends_below : (sound : Bool) (from to n m : ℕ) → n ≤ m → (sound && nat_lt from n && nat_lt to n) ≡ true → (sound && nat_lt from m && nat_lt to m) ≡ true
ends_below sound from to n m more is =
    let to_part = and_parts (sound && nat_lt from n) (nat_lt to n) is in
    let from_part = and_parts sound (nat_lt from n) to_part.0 in
    let from_below = ltb-true from n from_part.1 in
    let to_below = ltb-true to n to_part.1 in
    rw (from_part.0, lt-ltb from m (omega arith), lt-ltb to m (omega arith)) refl

sound_more : (n m : ℕ) (streets : List Street) → n ≤ m → list_all (is_street n) streets ≡ true → list_all (is_street m) streets ≡ true
sound_more n m [] more is = refl
sound_more n m (street ∷ streets) more is =
    let parts = and_parts _ _ is in
    rw (ends_below _ street.from street.to n m more parts.0, sound_more n m streets more parts.1) refl

sound_row : (name : List ℕ) (forward backward : Bool) (from to n : ℕ) → is_name name ≡ true → forward ≡ true → backward ≡ true → from < n → to < n
    → (is_name name && forward && backward && nat_lt from n && nat_lt to n) ≡ true
sound_row name forward backward from to n named f b from_below to_below = rw (named, f, b, lt-ltb from n from_below, lt-ltb to n to_below) refl

-- ---- junctions come in the order of their numbers

ends_of-push : (streets : List Street) (street : Street) → ends_of (streets ++ street ∷ []) ≡ ends_of streets ++ street.from ∷ street.to ∷ []
ends_of-push [] street = refl
ends_of-push (first ∷ streets) street = ap (λ ends. first.from ∷ first.to ∷ ends) (ends_of-push streets street)

-- numbers that come in order end with all n seen, so more go on from n
order_goes_on : (n k seen : ℕ) (js more : List ℕ) → come_in_order n seen js ≡ true → come_in_order k seen (js ++ more) ≡ come_in_order k n more
order_goes_on n k seen [] more is = ap (λ s. come_in_order k s more) (eqb-true seen n is)
order_goes_on n k seen (j ∷ js) more is =
    let parts = and_parts (nat_le j seen) (come_in_order n (max seen (j + 1)) js) is in
    rw (parts.0) (order_goes_on n k (max seen (j + 1)) js more parts.1)

two_in_order : (n between after from to : ℕ) → from ≤ n → max n (from + 1) ≡ between → to ≤ between → max between (to + 1) ≡ after → come_in_order after n (from ∷ to ∷ []) ≡ true
two_in_order n between after from to first grows second ends =
    rw (le-leb from n first, grows, le-leb to between second, ends) (eq-eqb after after refl)

-- ---- one more row

pub town_with_row : (table : Table) (row : Row) → IsRow row → IsTown table.junctions table.streets → IsWithin (with_row table row) (with_row table row) → IsTown (with_row table row).junctions (with_row table row).streets
town_with_row table row is town within =
    let names = table.junctions in
    let first = placed row.from names in
    let second = placed row.to (with_junction names row.from) in
    let from_is = from_number names row in
    let to_is = to_number names row in
    let from_grows = first.grows in
    let from_most = first.at_most in
    let to_grows = second.grows in
    let to_most = second.at_most in
    record {
      few_junctions = within.few_junctions;
      few_streets = within.few_streets;
      few_demands = within.few_demands;
      named = named_with row.to _ is.to (named_with row.from names is.from town.named);
      different = different_with row.to _ (different_with row.from names town.different);
      sound = all_last (is_street (length (with_ends names row))) table.streets (street_in (with_ends names row) row)
          (sound_more (length names) (length (with_ends names row)) table.streets (omega arith) town.sound)
          (sound_row row.street _ _ _ _ _ is.street is.forward is.backward (omega arith) (omega arith));
      in_order = rw (ends_of-push table.streets (street_in (with_ends names row) row), order_goes_on (length names) (length (with_ends names row)) 0 (ends_of table.streets) _ town.in_order, from_is, to_is)
          (two_in_order _ _ _ _ _ first.at_most first.grows second.at_most second.grows);
    }

town_with_record : (table next : Table) (fields : List (List ℕ)) → with_record table fields ≡ Ok next → IsTown table.junctions table.streets → IsTown next.junctions next.streets
town_with_record table next fields is town =
    let read = bind_ok (row_of (next_row table) fields) (λ row. within_limits (next_row table) (with_row table row)) next is in
    let within = within_limits-keeps (next_row table) (with_row table read.0) next read.2 in
    let whole : IsWithin (with_row table read.0) (with_row table read.0) = record { few_streets = within.few_streets; few_junctions = within.few_junctions; few_demands = within.few_demands; same = refl } in
    subst (λ (t : Table). IsTown t.junctions t.streets) within.same (town_with_row table read.0 (row_of-IsRow (next_row table) fields read.0 read.1) town whole)

pub town_with_records : (table last : Table) (records : List (List (List ℕ))) → with_records table records ≡ Ok last → IsTown table.junctions table.streets → IsTown last.junctions last.streets
unfolding with_records
town_with_records table last [] is town = let same : table ≡ last = cc in subst (λ (t : Table). IsTown t.junctions t.streets) same town
town_with_records table last (fields ∷ records) is town =
    let read = bind_ok (with_record table fields) (λ next. with_records next records) last is in
    town_with_records read.0 last records read.2 (town_with_record table read.0 fields read.1 town)

-- the table of no rows is a town
pub town_of_none : IsTown [] []
town_of_none = record { few_junctions = omega arith; few_streets = omega arith; few_demands = omega arith; named = refl; different = refl; sound = refl; in_order = refl }

-- and so is what the records of rows make
pub town_of_records : (last : Table) (records : List (List (List ℕ))) → with_records no_rows records ≡ Ok last → IsTown last.junctions last.streets
town_of_records last records is = town_with_records no_rows last records is town_of_none
