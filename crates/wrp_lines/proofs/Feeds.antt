-- The first line of some bytes, cut off at the first line feed.
use Rattle.std.proofs.Common.{◌≡◌, ℕ, ◌+◌, ◌<◌, Bool, true, false, cond, ◌==◌, List, [], ◌∷◌, length, take, drop, Some, None, ap, refl, ◌∙◌, arith}
use Rattle.std.specs.Prelude.{position, nat_lt}
use Rattle.std.specs.List.{slice_split, position_or_len}
use Rattle.std.specs.Str.Lines.{lines, lines_of_parts, strip_carriage_return}
use Rattle.std.proofs.lemmas.Bool.{ltb-true, ltb-false}
use Rattle.std.proofs.lemmas.List.Elements.{All-from_get_or}
use Rattle.std.proofs.lemmas.List.Splits.{slice_split_first, slice_split_none, length-slice_split}
use Rattle.std.proofs.lemmas.List.Sums.{fails_before_first}
use Rattle.std.proofs.lemmas.Option.{same_Some}

-- a byte that ends a line
abbrev is_feed : ℕ → Bool
is_feed byte = byte == 10

-- a part that isn't the last is a line
goes_on : (part : List ℕ) (parts : List (List ℕ)) → 0 < length parts → lines_of_parts (part ∷ parts) ≡ strip_carriage_return part ∷ lines_of_parts parts
goes_on part [] some = absurd (omega (arith, some))
goes_on part (next ∷ more) some = refl

-- behind a line feed the other lines follow
pub split_feed : (bytes : List ℕ) (at : ℕ) → position is_feed bytes ≡ Some at → lines bytes ≡ strip_carriage_return (take at bytes) ∷ lines (drop (at + 1) bytes)
split_feed bytes at found = by (nat_lt (position_or_len is_feed bytes) (length bytes)) refl found
  where
    by : (b : Bool) → nat_lt (position_or_len is_feed bytes) (length bytes) ≡ b → cond b (Some (position_or_len is_feed bytes)) None ≡ Some at → lines bytes ≡ strip_carriage_return (take at bytes) ∷ lines (drop (at + 1) bytes)
    by true less some =
        ap lines_of_parts (slice_split_first is_feed bytes 0 (ltb-true _ _ less))
        ∙ ap (λ k. lines_of_parts (take k bytes ∷ slice_split is_feed (drop (k + 1) bytes))) (same_Some _ _ some)
        ∙ goes_on (take at bytes) (slice_split is_feed (drop (at + 1) bytes)) (omega (arith, length-slice_split is_feed (drop (at + 1) bytes)))
    by false less none = absurd (cc)

-- without a line feed the bytes are one line
pub split_last : (bytes : List ℕ) → (length bytes == 0) ≡ false → position is_feed bytes ≡ None → lines bytes ≡ bytes ∷ []
split_last bytes some none =
    ap lines_of_parts (slice_split_none is_feed bytes (All-from_get_or (λ x. is_feed x ≡ false) bytes 0 (λ k lt. fails_before_first is_feed bytes k 0 (by (nat_lt (position_or_len is_feed bytes) (length bytes)) refl none k lt))))
    ∙ ap (λ empty. cond empty [] (bytes ∷ [])) some
  where
    by : (b : Bool) → nat_lt (position_or_len is_feed bytes) (length bytes) ≡ b → cond b (Some (position_or_len is_feed bytes)) None ≡ None → (k : ℕ) → k < length bytes → k < position_or_len is_feed bytes
    by true less none k lt = absurd (cc)
    by false less none k lt = omega (arith, lt, ltb-false _ _ less)
