-- Grids: their names are names, and their streets come row by row.
use Rattle.std.proofs.Common.{◌≡◌, ℕ, ◌+◌, ◌<◌, ◌≤◌, Bool, true, false, ◌&&◌, List, [], ◌∷◌, ◌++◌, length, refl, sym, ap, ◌∙◌, inl, inr, arith, append_assoc}
use Rattle.std.specs.Prelude.{if◌then◌else◌, codes, not, nat_lt, nat_le, ◌-◌, ◌==◌, ◌^◌, slice_index}
use Rattle.std.specs.List.{flat_map, range_with_len, list_all}
use Rattle.std.proofs.lemmas.Bool.{and_parts, and_from, lt-ltb, le-leb, ltb-true, cases_lt}
use Rattle.std.proofs.lemmas.Grind.{flat_map-append}
use Rattle.std.proofs.lemmas.List.{append-nil, length-append, get_or_past}
use Rattle.std.specs.Fmt.{decimal}
use Rattle.std.specs.Str.{is_utf8, IsAscii}
use Rattle.std.specs.Str.Parse.{AllDigits}
use Rattle.std.proofs.lemmas.Bool.Decides.{nat_tests}
use Rattle.std.proofs.lemmas.Fmt.{digits_decimal, length-decimal-le}
use Rattle.std.proofs.lemmas.List.Folds.{list_all-append}
use Rattle.std.proofs.lemmas.Str.{is_utf8-from_IsUtf8, IsUtf8-from_ascii}
use Rattle.std.proofs.lemmas.Str.Parse.{digit_from_value, numerals_by_value, tells_digits}
use Rattle.wrp_town.specs.Names.{name_limit, is_plain, is_short_and_plain, has_bare_ends, is_name}
use Rattle.wrp_town.proofs.Lists.{range_with_len-more, list_all-at}
use Rattle.wrp_report.specs.declared.grid.Plan.{Plan}
use Rattle.wrp_report.specs.Grid.{point, street_text}

-- ---- names

-- a byte above the space and below the control byte above
abbrev dark : ℕ → Bool
dark byte = nat_lt 32 byte && nat_lt byte 127

digit_dark : (byte : ℕ) → 48 ≤ byte → byte < 58 → dark byte ≡ true
digit_dark byte low high = and_from (nat_lt 32 byte) (nat_lt byte 127) (lt-ltb 32 byte (omega arith)) (lt-ltb byte 127 (omega arith))

digits_dark : (text : List ℕ) → AllDigits 10 text → list_all dark text ≡ true
digits_dark [] digits = refl
digits_dark (byte ∷ bytes) digits =
    let d = digit_from_value byte digits.0 in
    and_from (dark byte) (list_all dark bytes) (digit_dark byte d.0 (omega (arith, d.1))) (digits_dark bytes digits.1)

decimal_dark : (n : ℕ) → n < 2 ^ 64 → list_all dark (decimal n) ≡ true
decimal_dark n small = digits_dark (decimal n) (digits_decimal (numerals_by_value (AllDigits 10) tells_digits) n small)

point_dark : (x y : ℕ) → x ≤ 20 → y ≤ 20 → list_all dark (point x y) ≡ true
point_dark x y small_x small_y =
    list_all-append dark (decimal x) (codes "." ++ decimal y)
    ∙ and_from (list_all dark (decimal x)) (list_all dark (codes "." ++ decimal y)) (decimal_dark x (omega arith)) (decimal_dark y (omega arith))

-- dark bytes, neither none nor too many, are a name
plain_dark : (byte : ℕ) → dark byte ≡ true → is_plain byte ≡ true
plain_dark byte is =
    let both = and_parts (nat_lt 32 byte) (nat_lt byte 127) is in
    let low = ltb-true 32 byte both.0 in
    let high = ltb-true byte 127 both.1 in
    grind (arith, nat_tests)

all_plain : (bytes : List ℕ) → list_all dark bytes ≡ true → list_all is_plain bytes ≡ true
all_plain [] is = refl
all_plain (byte ∷ bytes) is =
    let both = and_parts (dark byte) (list_all dark bytes) is in
    and_from (is_plain byte) (list_all is_plain bytes) (plain_dark byte both.0) (all_plain bytes both.1)

not_space : (byte : ℕ) → dark byte ≡ true → not (byte == 32) ≡ true
not_space byte is =
    let both = and_parts (nat_lt 32 byte) (nat_lt byte 127) is in
    let low = ltb-true 32 byte both.0 in
    grind (arith, nat_tests)

dark_ascii : (bytes : List ℕ) → list_all dark bytes ≡ true → IsAscii bytes
dark_ascii bytes is i = elim (cases_lt i (length bytes)) [
  | inl small ↦ omega (arith, ltb-true (slice_index bytes i) 127 (and_parts (nat_lt 32 (slice_index bytes i)) (nat_lt (slice_index bytes i) 127) (list_all-at dark bytes i 0 is small)).1)
  | inr past ↦ omega (arith, get_or_past bytes i 0 past)
]

name_of_dark : (bytes : List ℕ) → list_all dark bytes ≡ true → 0 < length bytes → length bytes ≤ 64 → is_name bytes ≡ true
name_of_dark bytes is some few =
    and_from (is_short_and_plain bytes) (has_bare_ends bytes && is_utf8 bytes)
    (and_from (nat_lt 0 (length bytes)) (nat_le (length bytes) name_limit && list_all is_plain bytes) (lt-ltb 0 (length bytes) some) (and_from (nat_le (length bytes) name_limit) (list_all is_plain bytes) (le-leb (length bytes) 64 few) (all_plain bytes is)))
    (and_from (has_bare_ends bytes) (is_utf8 bytes)
    (and_from (not (slice_index bytes 0 == 32)) (not (slice_index bytes (length bytes - 1) == 32)) (not_space (slice_index bytes 0) (list_all-at dark bytes 0 0 is some)) (not_space (slice_index bytes (length bytes - 1)) (list_all-at dark bytes (length bytes - 1) 0 is (omega arith))))
    (is_utf8-from_IsUtf8 bytes (IsUtf8-from_ascii bytes (dark_ascii bytes is))))

point_length : (x y : ℕ) → x ≤ 20 → y ≤ 20 → (0 < length (point x y)) × (length (point x y) ≤ 5)
point_length x y small_x small_y =
    let first = length-decimal-le 2 x (omega arith) (omega arith) (omega arith) in
    let second = length-decimal-le 2 y (omega arith) (omega arith) (omega arith) in
    let whole = length-append (decimal x) (codes "." ++ decimal y) in
    (omega (arith, whole), omega (arith, whole, first, second))

pub point_is_name : (x y : ℕ) → x ≤ 20 → y ≤ 20 → is_name (point x y) ≡ true
point_is_name x y small_x small_y = let long = point_length x y small_x small_y in name_of_dark (point x y) (point_dark x y small_x small_y) long.0 (omega (arith, long.1))

by_letter : (east : Bool) (x y : ℕ) → x ≤ 20 → y ≤ 20 → is_name ((if east then codes "e" else codes "s") ++ point x y) ≡ true
by_letter true x y small_x small_y = let long = point_length x y small_x small_y in name_of_dark (codes "e" ++ point x y) (point_dark x y small_x small_y) (omega arith) (omega (arith, long.1))
by_letter false x y small_x small_y = let long = point_length x y small_x small_y in name_of_dark (codes "s" ++ point x y) (point_dark x y small_x small_y) (omega arith) (omega (arith, long.1))

pub street_is_name : (plan : Plan) → plan.x ≤ 20 → plan.y ≤ 20 → is_name (street_text plan) ≡ true
street_is_name plan small_x small_y = by_letter plan.east plan.x plan.y small_x small_y

-- ---- streets

-- one more piece
pub pieces_more : {A : Type 0} (f : ℕ → List A) (n : ℕ) (start old new : List A) → old ≡ start ++ flat_map f (range_with_len 0 n) → new ≡ old ++ f n → new ≡ start ++ flat_map f (range_with_len 0 (n + 1))
pieces_more f n start old new before added =
    added ∙ ap (λ xs. xs ++ f n) before ∙ append_assoc start (flat_map f (range_with_len 0 n)) (f n)
    ∙ ap (λ xs. start ++ xs) (sym (ap (flat_map f) (range_with_len-more 0 n n (omega arith)) ∙ flat_map-append f (range_with_len 0 n) (n ∷ []) ∙ ap (λ xs. flat_map f (range_with_len 0 n) ++ xs) (append-nil (f n))))
