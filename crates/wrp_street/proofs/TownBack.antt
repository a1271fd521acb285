-- A town that was written is read back, street by street.
use Rattle.std.proofs.Common.{◌≡◌, ℕ, zero, suc, ◌+◌, ◌<◌, ◌≤◌, Bool, true, false, not, List, [], ◌∷◌, ◌++◌, length, get_or, take, map, nat_le, nat_lt, ap, refl, sym, ◌∙◌, arith, append_assoc, length-append}
use Rattle.std.specs.Prelude.{max, Ok}
use Rattle.std.specs.List.{list_all, list_any}
use Rattle.std.specs.Str.{bytes_eq}
use Rattle.std.specs.Cmp.Lexicographic.{nat_list_eq_equiv}
use Rattle.std.proofs.lemmas.Bool.{and_parts, eqb-true, leb-true, ltb-true, ltb-false, le-ltb, not-true, or_parts, or_right}
use Rattle.std.proofs.lemmas.List.{append-nil, length-take-le}
use Rattle.std.proofs.Math.Seq.{take-suc, take-length}
use Rattle.wrp_records.specs.Fields.{trim_start, trim_end}
use Rattle.wrp_street.specs.Headers.{columns, is_header}
use Rattle.csv.specs.Reading.{strip_bom}
use Rattle.wrp_records.specs.Lines.{field_text, is_line, line_text, lines_text}
use Rattle.wrp_records.proofs.ReadBack.{records_of-lines}
use Rattle.wrp_town.specs.declared.street.Street.{Street}
use Rattle.wrp_town.specs.declared.town.Town.{Town}
use Rattle.wrp_town.specs.Limits.{street_limit, junction_limit, demand_limit}
use Rattle.wrp_town.specs.Names.{is_name}
use Rattle.wrp_town.specs.Streets.{are_different, come_in_order, demands_at, demands_from, ends_of, is_street}
use Rattle.wrp_town.proofs.TownLaws.{IsSound, IsSound-from_is_street}
use Rattle.wrp_street.specs.Faults.{◌>>=◌}
use Rattle.wrp_street.specs.Tables.{Table, no_rows, with_junction, with_row, number_of, next_row, within_limits, with_record, with_records, under_header, IsTable}
use Rattle.wrp_street.specs.Canonical.{name_at, fields_of_street, records_in, canonical_of}
use Rattle.wrp_street.proofs.Places.{equal_itself}
use Rattle.wrp_street.proofs.FieldsBack.{row_at, row_back, line_of_street}

-- ---- the place of a junction's name among the first of them

none_at : {X : Type 0} (p : X → Bool) (xs : List X) (i : ℕ) (d : X) → list_any p xs ≡ false → i < length xs → p (get_or xs i d) ≡ false
none_at p [] i d none below = absurd (omega arith)
none_at p (x ∷ xs) zero d none below = (or_parts (p x) (list_any p xs) none).0
none_at p (x ∷ xs) (suc i) d none below = none_at p xs i d (or_parts (p x) (list_any p xs) none).1 (omega arith)

-- a later name is not the first
later : (name : List ℕ) (names : List (List ℕ)) (i : ℕ) → are_different (name ∷ names) ≡ true → i < length names → bytes_eq (name_at names i) name ≡ false
later name names i different below =
    let parts = and_parts (not (list_any (bytes_eq name) names)) (are_different names) different in
    nat_list_eq_equiv.symm (name_at names i) name ∙ none_at (bytes_eq name) names i [] (not-true _ parts.0) below

different_rest : (name : List ℕ) (names : List (List ℕ)) → are_different (name ∷ names) ≡ true → are_different names ≡ true
different_rest name names different = (and_parts (not (list_any (bytes_eq name) names)) (are_different names) different).1

any_before : (names : List (List ℕ)) (i m : ℕ) → i < m → i < length names → list_any (bytes_eq (name_at names i)) (take m names) ≡ true
any_before [] i m before below = absurd (omega arith)
any_before (name ∷ names) i zero before below = absurd (omega arith)
any_before (name ∷ names) zero (suc m) before below = rw (equal_itself name) refl
any_before (name ∷ names) (suc i) (suc m) before below = or_right _ _ (any_before names i m (omega arith) (omega arith))

none_before : (names : List (List ℕ)) (i : ℕ) → are_different names ≡ true → i < length names → list_any (bytes_eq (name_at names i)) (take i names) ≡ false
none_before [] i different below = absurd (omega arith)
none_before (name ∷ names) zero different below = refl
none_before (name ∷ names) (suc i) different below =
    rw (later name names i different (omega arith)) (none_before names i (different_rest name names different) (omega arith))

pub number_before : (names : List (List ℕ)) (i m : ℕ) → are_different names ≡ true → i < m → i < length names → number_of (take m names) (name_at names i) ≡ i
number_before [] i m different before below = absurd (omega arith)
number_before (name ∷ names) i zero different before below = absurd (omega arith)
number_before (name ∷ names) zero (suc m) different before below = rw (equal_itself name) refl
number_before (name ∷ names) (suc i) (suc m) different before below =
    let rest = number_before names i m (different_rest name names different) (omega arith) (omega arith) in
    rw (later name names i different (omega arith)) (omega (arith, rest))

-- ---- a junction is there, or is the next

taken_if : (b : Bool) (names : List (List ℕ)) (seen i : ℕ) → nat_lt i seen ≡ b → are_different names ≡ true → i ≤ seen → i < length names
    → with_junction (take seen names) (name_at names i) ≡ take (max seen (i + 1)) names
taken_if true names seen i is different there below =
    let before = ltb-true i seen is in
    let same : max seen (i + 1) ≡ seen = omega arith in
    rw (any_before names i seen before below, same) refl
taken_if false names seen i is different there below =
    let after = ltb-false i seen is in
    let same : seen ≡ i = omega arith in
    let more : max i (i + 1) ≡ suc i = omega arith in
    rw (same, none_before names i different below, more) (sym (take-suc names i [] below))

taken : (names : List (List ℕ)) (seen i : ℕ) → are_different names ≡ true → i ≤ seen → i < length names
    → with_junction (take seen names) (name_at names i) ≡ take (max seen (i + 1)) names
taken names seen i = taken_if (nat_lt i seen) names seen i refl

-- ---- one street

-- the junctions that were seen, and the streets that were read
abbrev pub seen_of : List (List ℕ) → ℕ → List Street → Table
seen_of names seen streets = record { junctions = take seen names; streets = streets }

-- how many junctions are seen after a street
abbrev pub seen_after : ℕ → Street → ℕ
seen_after seen street = max (max seen (street.from + 1)) (street.to + 1)

pub row_seen : (names : List (List ℕ)) (seen : ℕ) (streets : List Street) (street : Street) → are_different names ≡ true → street.from ≤ seen → street.to ≤ max seen (street.from + 1)
    → street.from < length names → street.to < length names
    → with_row (seen_of names seen streets) (row_at names street) ≡ seen_of names (seen_after seen street) (streets ++ street ∷ [])
row_seen names seen streets street different first second from to =
    let between = max seen (street.from + 1) in
    let after = max between (street.to + 1) in
    rw (
      taken names seen street.from different first from,
      taken names between street.to different second to,
      number_before names street.from after different (omega arith) from,
      number_before names street.to after different (omega arith) to,
    ) refl

limits_kept : (row : ℕ) (table : Table) → length table.streets ≤ street_limit → length table.junctions ≤ junction_limit → length (demands_from 0 table.streets) ≤ demand_limit → within_limits row table ≡ Ok table
unfolding within_limits
limits_kept row table streets junctions demands =
    rw (le-ltb street_limit (length table.streets) streets, le-ltb junction_limit (length table.junctions) junctions, le-ltb demand_limit (length (demands_from 0 table.streets)) demands) refl

demands_at_most : (s : ℕ) (streets more : List Street) → length (demands_from s streets) ≤ length (demands_from s (streets ++ more))
demands_at_most s [] more = omega arith
demands_at_most s (street ∷ streets) more =
    omega (arith, length-append (demands_at s street.need) (demands_from (s + 1) (streets ++ more)), length-append (demands_at s street.need) (demands_from (s + 1) streets), demands_at_most (s + 1) streets more)

-- ---- all streets

-- the junctions of a town
pub record AreJunctions (names : List (List ℕ)) : Type 0 where
  pub named : list_all is_name names ≡ true
  pub different : are_different names ≡ true
  pub few : length names ≤ junction_limit

-- the streets that are left, after those that were read, make a town of these junctions
pub record IsRest (names : List (List ℕ)) (seen : ℕ) (streets rest : List Street) : Type 0 where
  pub order : come_in_order (length names) seen (ends_of rest) ≡ true
  pub sound : list_all (is_street (length names)) rest ≡ true
  pub few_streets : length (streets ++ rest) ≤ street_limit
  pub few_demands : length (demands_from 0 (streets ++ rest)) ≤ demand_limit
  pub within : seen ≤ length names

-- the next of the streets that are left
record IsNext (names : List (List ℕ)) (seen : ℕ) (streets : List Street) (street : Street) (rest : List Street) : Type 0 where
  sound : IsSound (length names) street
  first : street.from ≤ seen
  second : street.to ≤ max seen (street.from + 1)
  left : IsRest names (seen_after seen street) (streets ++ street ∷ []) rest
  whole : (streets ++ street ∷ []) ++ rest ≡ streets ++ street ∷ rest

next_of : (names : List (List ℕ)) (seen : ℕ) (streets : List Street) (street : Street) (rest : List Street) → IsRest names seen streets (street ∷ rest) → IsNext names seen streets street rest
next_of names seen streets street rest is =
    let from = and_parts (nat_le street.from seen) (come_in_order (length names) (max seen (street.from + 1)) (street.to ∷ ends_of rest)) is.order in
    let to = and_parts (nat_le street.to (max seen (street.from + 1))) (come_in_order (length names) (seen_after seen street) (ends_of rest)) from.1 in
    let parts = and_parts (is_street (length names) street) (list_all (is_street (length names)) rest) is.sound in
    let sound = IsSound-from_is_street (length names) street parts.0 in
    let whole = append_assoc streets (street ∷ []) rest in
    let sound_from = sound.from in
    let sound_to = sound.to in
    record {
      sound = sound;
      first = leb-true street.from seen from.0;
      second = leb-true street.to (max seen (street.from + 1)) to.0;
      left = record {
        order = to.1;
        sound = parts.1;
        few_streets = rw whole is.few_streets;
        few_demands = rw whole is.few_demands;
        within = omega (arith, is.within);
      };
      whole = whole;
    }

street_back : (names : List (List ℕ)) (seen : ℕ) (streets : List Street) (street : Street) (rest : List Street) → AreJunctions names → IsNext names seen streets street rest
    → with_record (seen_of names seen streets) (fields_of_street names street) ≡ Ok (seen_of names (seen_after seen street) (streets ++ street ∷ []))
street_back names seen streets street rest junctions next =
    let table = seen_of names seen streets in
    let more = seen_of names (seen_after seen street) (streets ++ street ∷ []) in
    let left = next.left in
    ap (λ read. read >>= λ row. within_limits (next_row table) (with_row table row)) (row_back (next_row table) names street junctions.named next.sound)
    ∙ ap (within_limits (next_row table)) (row_seen names seen streets street junctions.different next.first next.second next.sound.from next.sound.to)
    ∙ limits_kept (next_row table) more
    (omega (arith, left.few_streets, length-append (streets ++ street ∷ []) rest))
    (omega (arith, junctions.few, length-take-le (seen_after seen street) names left.within))
    (omega (arith, left.few_demands, demands_at_most 0 (streets ++ street ∷ []) rest))

pub streets_back : (names : List (List ℕ)) (seen : ℕ) (streets rest : List Street) → AreJunctions names → IsRest names seen streets rest
    → with_records (seen_of names seen streets) (map (fields_of_street names) rest) ≡ Ok (record { junctions = names; streets = streets ++ rest })
unfolding with_records
streets_back names seen streets [] junctions is =
    let all = eqb-true seen (length names) is.order in
    rw (all, take-length names, append-nil streets) refl
streets_back names seen streets (street ∷ rest) junctions is =
    let next = next_of names seen streets street rest is in
    ap (λ read. read >>= λ table. with_records table (map (fields_of_street names) rest)) (street_back names seen streets street rest junctions next)
    ∙ streets_back names (seen_after seen street) (streets ++ street ∷ []) rest junctions next.left
    ∙ ap (λ all. Ok (record { junctions = names; streets = all })) next.whole

-- ---- the whole table

lines_of_streets : (names : List (List ℕ)) (streets : List Street) → list_all is_name names ≡ true → list_all (is_street (length names)) streets ≡ true
    → list_all is_line (map (fields_of_street names) streets) ≡ true
lines_of_streets names [] named sound = refl
lines_of_streets names (street ∷ streets) named sound =
    let parts = and_parts (is_street (length names) street) (list_all (is_street (length names)) streets) sound in
    rw (line_of_street names street named (IsSound-from_is_street (length names) street parts.0), lines_of_streets names streets named parts.1) refl

-- a table that begins with the header has no mark to drop
strip_bom-header : (records : List (List (List ℕ))) → strip_bom (lines_text (columns ∷ records)) ≡ lines_text (columns ∷ records)
unfolding strip_bom lines_text line_text field_text
strip_bom-header records = refl

is_line-columns : is_line columns ≡ true
unfolding is_line
is_line-columns = refl

header_back : (records : List (List (List ℕ))) → under_header (columns ∷ records) ≡ with_records no_rows records
unfolding under_header is_header trim_start trim_end
header_back records = refl

-- a town that was written is read back
pub town_back : (town : Town) → IsTable (canonical_of town) town
unfolding canonical_of
town_back town =
    let is = town.well_formed in
    let lines = lines_of_streets town.junctions town.streets is.named is.sound in
    ap under_header (records_of-lines (columns ∷ records_in town) (rw is_line-columns lines) (strip_bom-header (records_in town)))
    ∙ header_back (records_in town)
    ∙ streets_back town.junctions 0 [] town.streets
    (record { named = is.named; different = is.different; few = is.few_junctions })
    (record { order = is.in_order; sound = is.sound; few_streets = is.few_streets; few_demands = is.few_demands; within = omega arith })
