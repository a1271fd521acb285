-- A valid list with more records.
use Rattle.std.proofs.Common.{◌≡◌, true, List, [], ◌∷◌, ◌++◌, None, is_none, ap, refl, sym, ◌∙◌, append_assoc}
use Rattle.std.specs.List.{fold}
use Rattle.std.proofs.lemmas.Bool.{and_parts, and_from}
use Rattle.std.proofs.lemmas.List.{append-nil}
use Rattle.wrp_town.specs.declared.town.Town.{Town}
use Rattle.wrp_rules.specs.declared.record.Record.{Record}
use Rattle.wrp_rules.specs.Nodes.{Standing, start, after, standing}
use Rattle.wrp_rules.specs.Lists.{goes_on, is_valid}
use Rattle.wrp_rules.specs.Rules.{broken_rule}
use Rattle.wrp_progress.specs.Progress.{GoesOn}

-- what stands keeps the records
records_of : (town : Town) (s : Standing) (items : List Record) → (fold (after town) s items).records ≡ s.records ++ items
records_of town s [] = sym (append-nil s.records)
records_of town s (item ∷ items) = records_of town (after town s item) items ∙ append_assoc s.records (item ∷ []) items

pub standing_records : (town : Town) (items : List Record) → (standing town items).records ≡ items
standing_records town items = records_of town (start town) items

-- what stands after two lists in a row
fold_both : (town : Town) (s : Standing) (items more : List Record) → fold (after town) s (items ++ more) ≡ fold (after town) (fold (after town) s items) more
fold_both town s [] more = refl
fold_both town s (item ∷ items) more = fold_both town (after town s item) items more

pub standing_both : (town : Town) (items more : List Record) → standing town (items ++ more) ≡ fold (after town) (standing town items) more
standing_both town items more = fold_both town (start town) items more

pub standing_more : (town : Town) (items : List Record) (item : Record) → standing town (items ++ item ∷ []) ≡ after town (standing town items) item
standing_more town items item = standing_both town items (item ∷ [])

-- two lists in a row are valid where the second goes on behind the first
goes_on_parts : (town : Town) (s : Standing) (items more : List Record) → goes_on town s (items ++ more) ≡ true → (goes_on town s items ≡ true) × (goes_on town (fold (after town) s items) more ≡ true)
goes_on_parts town s [] more valid = (refl, valid)
goes_on_parts town s (item ∷ items) more valid =
    let parts = and_parts (is_none (broken_rule town s item)) (goes_on town (after town s item) (items ++ more)) valid in
    let others = goes_on_parts town (after town s item) items more parts.1 in
    (and_from (is_none (broken_rule town s item)) (goes_on town (after town s item) items) parts.0 others.0, others.1)

goes_on_both : (town : Town) (s : Standing) (items more : List Record) → goes_on town s items ≡ true → goes_on town (fold (after town) s items) more ≡ true → goes_on town s (items ++ more) ≡ true
goes_on_both town s [] more valid others = others
goes_on_both town s (item ∷ items) more valid others =
    let parts = and_parts (is_none (broken_rule town s item)) (goes_on town (after town s item) items) valid in
    and_from (is_none (broken_rule town s item)) (goes_on town (after town s item) (items ++ more)) parts.0 (goes_on_both town (after town s item) items more parts.1 others)

pub goes_on_behind : (town : Town) (items more : List Record) → is_valid town (items ++ more) ≡ true → goes_on town (standing town items) more ≡ true
goes_on_behind town items more valid = (goes_on_parts town (start town) items more valid).1

pub valid_more : (town : Town) (items : List Record) (item : Record) → is_valid town items ≡ true → broken_rule town (standing town items) item ≡ None → is_valid town (items ++ item ∷ []) ≡ true
valid_more town items item valid none =
    goes_on_both town (start town) items (item ∷ []) valid
    (and_from (is_none (broken_rule town (standing town items) item)) true (ap is_none none) refl)

-- ---- lists that go on

pub stays : (town : Town) (records : List Record) → is_valid town records ≡ true → GoesOn town records records
stays town records valid = record { more = []; is = sym (append-nil records); valid = valid }

pub goes_on_then : (town : Town) (first second third : List Record) → GoesOn town first second → GoesOn town second third → GoesOn town first third
goes_on_then town first second third one two = record {
  more = one.more ++ two.more;
  is = two.is ∙ ap (λ (xs : List Record). xs ++ two.more) one.is ∙ append_assoc first one.more two.more;
  valid = two.valid;
}

pub goes_one_on : (town : Town) (records : List Record) (item : Record) → is_valid town records ≡ true → broken_rule town (standing town records) item ≡ None → GoesOn town records (records ++ item ∷ [])
goes_one_on town records item valid none = record { more = item ∷ []; is = refl; valid = valid_more town records item valid none }
