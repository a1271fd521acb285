-- The first part of a line, cut off at a byte.
use Rattle.std.proofs.Common.{inl, inr, ◌≡◌, ℕ, ◌+◌, ◌<◌, ◌≤◌, true, false, not, ◌==◌, List, ◌∷◌, length, get_or, take, drop, sym, ap, ◌∙◌, arith, drop-cons, add-one, eq-eqb}
use Rattle.std.proofs.lemmas.Bool.{cases_lt}
use Rattle.std.proofs.lemmas.List.{take_all, drop_all}
use Rattle.std.proofs.lemmas.List.Elements.{All-from_get_or}
use Rattle.std.proofs.lemmas.List.Splits.{slice_split_first, slice_split_none}
use Rattle.std.proofs.lemmas.List.Sums.{position_or_len_is, fails_before_first, passes_at_first, prefix_len-le-length}
use Rattle.std.specs.List.{slice_split, position_or_len}
use Rattle.wrp_grammar.specs.Parts.{is_space, is_spaced, parts_of}

-- the first place of a byte, and the end where it isn't there
pub place_is : (w : ℕ) (bs : List ℕ) (i : ℕ) → ((k : ℕ) → k < i → (get_or bs k 0 == w) ≡ false) → i < length bs → get_or bs i 0 ≡ w → i ≡ position_or_len (λ byte. byte == w) bs
place_is w bs i before lt here = sym (position_or_len_is (λ byte. byte == w) bs i 0 (omega arith) before (λ _. eq-eqb (get_or bs i 0) w here))

pub end_is : (w : ℕ) (bs : List ℕ) (i : ℕ) → ((k : ℕ) → k < i → (get_or bs k 0 == w) ≡ false) → i ≡ length bs → length bs ≡ position_or_len (λ byte. byte == w) bs
end_is w bs i before end = sym (position_or_len_is (λ byte. byte == w) bs (length bs) 0 (omega arith) (λ k lt. before k (omega arith)) (λ lt. absurd (omega arith)))

-- a place is no further than the end
pub place_within : (w : ℕ) (bs : List ℕ) → position_or_len (λ byte. byte == w) bs ≤ length bs
place_within w bs = prefix_len-le-length (λ x. not (x == w)) bs

-- the parts, the first of them cut off
pub first_cut : (bs : List ℕ) → slice_split is_space bs ≡ take (position_or_len is_space bs) bs ∷ parts_of (drop (position_or_len is_space bs) bs)
first_cut bs = elim (cases_lt (position_or_len is_space bs) (length bs)) [
  | inl lt ↦ let n = position_or_len is_space bs in
      let after : drop n bs ≡ get_or bs n 0 ∷ drop (n + 1) bs = rw (add-one n) (drop-cons bs n 0 lt) in
      slice_split_first is_space bs 0 lt ∙ ap (λ rest. take n bs ∷ parts_of rest) (sym after)
  | inr ge ↦ let n : position_or_len is_space bs ≡ length bs = omega (arith, place_within 32 bs) in
      rw (n, take_all (length bs) bs (omega arith), drop_all (length bs) bs (omega arith))
      (slice_split_none is_space bs (All-from_get_or (λ x. is_space x ≡ false) bs 0 (λ k lt. fails_before_first is_space bs k 0 (omega arith))))
]

-- behind the first part nothing is left, or a space is next
pub spaced_cut : (bs : List ℕ) → is_spaced (drop (position_or_len is_space bs) bs) ≡ true
spaced_cut bs = elim (cases_lt (position_or_len is_space bs) (length bs)) [
  | inl lt ↦ ap is_spaced (drop-cons bs (position_or_len is_space bs) 0 lt) ∙ passes_at_first is_space bs 0 lt
  | inr ge ↦ ap is_spaced (drop_all (position_or_len is_space bs) bs (omega arith))
]
