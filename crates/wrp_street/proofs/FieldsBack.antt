-- The fields of a street that was written are read back.
use Rattle.std.proofs.Common.{◌≡◌, ℕ, zero, suc, ◌-◌, ◌<◌, ◌≤◌, ◌^◌, ◌==◌, true, false, ◌&&◌, List, [], ◌∷◌, length, get_or, Option, Some, None, nat_le, nat_lt, ap, refl, ◌∙◌, arith}
use Rattle.std.specs.Prelude.{Ok, not}
use Rattle.std.proofs.lemmas.Bool.{and_parts, leb-true, not-true}
use Rattle.std.proofs.lemmas.Bool.Decides.{nat_tests}
use Rattle.std.proofs.lemmas.Fmt.{digits_decimal}
use Rattle.std.proofs.lemmas.List.Folds.{list_all_at}
use Rattle.std.proofs.lemmas.Str.Parse.{digit_from_value, numerals_by_value, tells_digits}
use Rattle.std.specs.Fmt.{decimal}
use Rattle.std.specs.List.{list_all}
use Rattle.std.specs.Str.{is_utf8}
use Rattle.std.specs.Str.Parse.{AllDigits}
use Rattle.wrp_records.specs.Fields.{is_blank, trim_start, trim_end, trimmed}
use Rattle.wrp_records.specs.Lines.{is_printed, is_line}
use Rattle.wrp_street.proofs.Costs.{cost_of-dash, cost_of-decimal}
use Rattle.wrp_town.specs.declared.street.Need.{Need}
use Rattle.wrp_town.specs.declared.street.Need.TheVariants.{No, Either, Forward, Backward, Both}
use Rattle.wrp_town.specs.declared.street.Street.{Street}
use Rattle.wrp_town.specs.Limits.{cost_limit}
use Rattle.wrp_town.specs.Names.{name_limit, is_plain, is_short_and_plain, has_bare_ends, is_name}
use Rattle.wrp_town.specs.Streets.{is_cost}
use Rattle.wrp_town.proofs.Lists.{list_all-at}
use Rattle.wrp_town.proofs.TownLaws.{IsSound}
use Rattle.wrp_street.specs.declared.row.Row.{Row}
use Rattle.wrp_street.specs.Rows.{name_in, cost_in, need_in, six_of, row_of}
use Rattle.wrp_street.specs.Canonical.{text_of_cost, text_of_need, name_at, fields_of_street}

-- ---- names

pub record IsSpelled (name : List ℕ) : Type 0 where
  pub some : nat_lt 0 (length name) ≡ true
  pub few : length name ≤ name_limit
  pub plain : list_all is_plain name ≡ true
  pub first : (get_or name 0 0 == 32) ≡ false
  pub last : (get_or name (length name - 1) 0 == 32) ≡ false

pub spelled : (name : List ℕ) → is_name name ≡ true → IsSpelled name
spelled name is =
    let whole = and_parts (is_short_and_plain name) (has_bare_ends name && is_utf8 name) is in
    let some = and_parts (nat_lt 0 (length name)) (nat_le (length name) name_limit && list_all is_plain name) whole.0 in
    let few = and_parts (nat_le (length name) name_limit) (list_all is_plain name) some.1 in
    let bare = and_parts (has_bare_ends name) (is_utf8 name) whole.1 in
    let ends = and_parts (not (get_or name 0 0 == 32)) (not (get_or name (length name - 1) 0 == 32)) bare.0 in
    record {
      some = some.0;
      few = leb-true (length name) name_limit few.0;
      plain = few.1;
      first = not-true _ ends.0;
      last = not-true _ ends.1;
    }

plain_not_blank : (byte : ℕ) → is_plain byte ≡ true → (byte == 32) ≡ false → is_blank byte ≡ false
plain_not_blank byte plain other = grind (arith, nat_tests)

start_kept : (name : List ℕ) → list_all is_plain name ≡ true → (get_or name 0 0 == 32) ≡ false → trim_start name ≡ name
unfolding trim_start
start_kept [] plain first = refl
start_kept (byte ∷ bytes) plain first = rw (plain_not_blank byte (and_parts (is_plain byte) (list_all is_plain bytes) plain).0 first) refl

end_kept : (bytes : List ℕ) → ((n : ℕ) → length bytes ≡ suc n → is_blank (get_or bytes n 0) ≡ false) → trim_end bytes ≡ bytes
unfolding trim_end
end_kept [] last = refl
end_kept (byte ∷ []) last = rw (last zero refl) refl
end_kept (byte ∷ next ∷ bytes) last =
    rw (
      list_all_at is_blank (byte ∷ next ∷ bytes) (suc (length bytes)) 0 (omega arith) (last (suc (length bytes)) refl),
      end_kept (next ∷ bytes) (λ n size. last (suc n) (ap suc size)),
    ) refl

last_bare : (name : List ℕ) (n : ℕ) → list_all is_plain name ≡ true → (get_or name (length name - 1) 0 == 32) ≡ false → length name ≡ suc n → is_blank (get_or name n 0) ≡ false
last_bare name n plain last size =
    let same : length name - 1 ≡ n = omega arith in
    plain_not_blank (get_or name n 0) (list_all-at is_plain name n 0 plain (omega arith)) (rw same at last)

-- a name has no blanks to trim
pub trimmed-name : (name : List ℕ) → is_name name ≡ true → trimmed name ≡ name
trimmed-name name is =
    let parts = spelled name is in
    ap trim_end (start_kept name parts.plain parts.first) ∙ end_kept name (λ n size. last_bare name n parts.plain parts.last size)

pub name_back : (row field : ℕ) (name : List ℕ) → is_name name ≡ true → name_in row field name ≡ Ok name
name_back row field name is = rw (trimmed-name name is, is) refl

printed-plain : (name : List ℕ) → list_all is_plain name ≡ true → is_printed name ≡ true
printed-plain [] plain = refl
printed-plain (byte ∷ bytes) plain =
    let parts = and_parts (is_plain byte) (list_all is_plain bytes) plain in
    rw ((and_parts (nat_le 32 byte) (not (byte == 127)) parts.0).0, printed-plain bytes parts.1) refl

pub printed-name : (name : List ℕ) → is_name name ≡ true → is_printed name ≡ true
printed-name name is = printed-plain name (spelled name is).plain

-- ---- costs

digit_printed : (byte : ℕ) → 48 ≤ byte → nat_le 32 byte ≡ true
digit_printed byte low = grind (arith, nat_tests)

digits_printed : (text : List ℕ) → AllDigits 10 text → is_printed text ≡ true
digits_printed [] digits = refl
digits_printed (byte ∷ bytes) digits = rw (digit_printed byte (digit_from_value byte digits.0).0, digits_printed bytes digits.1) refl

small_cost : (cost : ℕ) → is_cost (Some cost) ≡ true → cost < 2 ^ 64
small_cost cost is = omega (arith, leb-true cost cost_limit is)

pub printed-cost : (cost : Option ℕ) → is_cost cost ≡ true → is_printed (text_of_cost cost) ≡ true
printed-cost None is = refl
printed-cost (Some cost) is = digits_printed (decimal cost) (digits_decimal (numerals_by_value (AllDigits 10) tells_digits) cost (small_cost cost is))

pub cost_back : (row field : ℕ) (cost : Option ℕ) → is_cost cost ≡ true → cost_in row field (text_of_cost cost) ≡ Ok cost
cost_back row field None is = rw cost_of-dash refl
cost_back row field (Some cost) is = rw (cost_of-decimal cost (leb-true cost cost_limit is)) refl

-- ---- needs

pub printed-need : (need : Need) → is_printed (text_of_need need) ≡ true
printed-need No = refl
printed-need Either = refl
printed-need Forward = refl
printed-need Backward = refl
printed-need Both = refl

pub need_back : (row : ℕ) (need : Need) → need_in row (text_of_need need) ≡ Ok need
unfolding trim_start trim_end
need_back row No = refl
need_back row Either = refl
need_back row Forward = refl
need_back row Backward = refl
need_back row Both = refl

-- ---- streets

-- the row of a street
abbrev pub row_at : List (List ℕ) → Street → Row
row_at junctions street = record {
  street = street.name;
  from = name_at junctions street.from;
  to = name_at junctions street.to;
  forward = street.forward;
  backward = street.backward;
  need = street.need;
}

pub row_back : (row : ℕ) (junctions : List (List ℕ)) (street : Street) → list_all is_name junctions ≡ true → IsSound (length junctions) street
    → row_of row (fields_of_street junctions street) ≡ Ok (row_at junctions street)
unfolding row_of six_of
row_back row junctions street named sound =
    rw (
      name_back row 1 street.name sound.named,
      name_back row 2 (name_at junctions street.from) (list_all-at is_name junctions street.from [] named sound.from),
      name_back row 3 (name_at junctions street.to) (list_all-at is_name junctions street.to [] named sound.to),
      cost_back row 4 street.forward sound.forward,
      cost_back row 5 street.backward sound.backward,
      need_back row street.need,
    ) refl

six_printed : (a b c d e f : List ℕ) → is_printed a ≡ true → is_printed b ≡ true → is_printed c ≡ true → is_printed d ≡ true → is_printed e ≡ true → is_printed f ≡ true
    → is_line (a ∷ b ∷ c ∷ d ∷ e ∷ f ∷ []) ≡ true
unfolding is_line
six_printed a b c d e f p q r s t u = rw (p, q, r, s, t, u) refl

pub line_of_street : (junctions : List (List ℕ)) (street : Street) → list_all is_name junctions ≡ true → IsSound (length junctions) street → is_line (fields_of_street junctions street) ≡ true
line_of_street junctions street named sound =
    six_printed street.name (name_at junctions street.from) (name_at junctions street.to) (text_of_cost street.forward) (text_of_cost street.backward) (text_of_need street.need)
    (printed-name street.name sound.named)
    (printed-name (name_at junctions street.from) (list_all-at is_name junctions street.from [] named sound.from))
    (printed-name (name_at junctions street.to) (list_all-at is_name junctions street.to [] named sound.to))
    (printed-cost street.forward sound.forward)
    (printed-cost street.backward sound.backward)
    (printed-need street.need)
