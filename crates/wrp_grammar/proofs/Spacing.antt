-- Parts with a space before each, and back.
use Rattle.std.proofs.Common.{inl, inr, ◌≡◌, ℕ, Bool, true, not, ◌==◌, List, [], ◌∷◌, ◌++◌, refl, sym, ap, ◌∙◌, arith}
use Rattle.std.proofs.lemmas.Bool.{and_parts, and_from, eqb-true, not-true, cases_Bool}
use Rattle.std.proofs.lemmas.Bool.Decides.{nat_tests}
use Rattle.std.proofs.lemmas.List.Splits.{slice_split-cons_yes, slice_split-cons_no}
use Rattle.std.specs.Char.{is_ascii_digit}
use Rattle.std.specs.List.{list_all, flat_map, slice_split, onto_first}
use Rattle.wrp_grammar.specs.Parts.{is_space, is_spaced, parts_of}

-- no byte of the part is a space
abbrev pub is_solid : List ℕ → Bool
is_solid part = list_all (λ byte. not (byte == 32)) part

-- each part with a space before it
abbrev pub spread : List (List ℕ) → List ℕ
spread parts = flat_map (λ part. 32 ∷ part) parts

spread-onto_first : (b : ℕ) (bytes : List ℕ) (parts : List (List ℕ)) → spread parts ≡ 32 ∷ bytes → spread (onto_first b parts) ≡ 32 ∷ b ∷ bytes
spread-onto_first b bytes [] h = cc
spread-onto_first b bytes (part ∷ parts) h = cc

-- the parts of a text, spread again, are the text behind a space
pub spread-split : (bytes : List ℕ) → spread (slice_split is_space bytes) ≡ 32 ∷ bytes
spread-split [] = refl
spread-split (b ∷ bytes) = elim (cases_Bool (is_space b)) [
  | inl here ↦ let space = eqb-true b 32 here in
      ap spread (slice_split-cons_yes is_space b bytes here) ∙ ap (λ rest. 32 ∷ rest) (spread-split bytes) ∙ ap (λ c. 32 ∷ c ∷ bytes) (sym space)
  | inr other ↦ ap spread (slice_split-cons_no is_space b bytes other) ∙ spread-onto_first b bytes (slice_split is_space bytes) (spread-split bytes)
]

-- what is left of a line is its parts, spread
pub spread-parts_of : (left : List ℕ) → is_spaced left ≡ true → spread (parts_of left) ≡ left
spread-parts_of [] h = refl
spread-parts_of (b ∷ bytes) h = spread-split bytes ∙ ap (λ c. c ∷ bytes) (sym (eqb-true b 32 h))

-- a part before a space, and a part alone
solid_before : (part rest : List ℕ) → is_solid part ≡ true → slice_split is_space (part ++ 32 ∷ rest) ≡ part ∷ slice_split is_space rest
solid_before [] rest h = refl
solid_before (b ∷ part) rest h =
    let both = and_parts (not (b == 32)) (is_solid part) h in
    slice_split-cons_no is_space b (part ++ 32 ∷ rest) (not-true (b == 32) both.0) ∙ ap (onto_first b) (solid_before part rest both.1)

solid_alone : (part : List ℕ) → is_solid part ≡ true → slice_split is_space (part ++ []) ≡ part ∷ []
solid_alone [] h = refl
solid_alone (b ∷ part) h =
    let both = and_parts (not (b == 32)) (is_solid part) h in
    slice_split-cons_no is_space b (part ++ []) (not-true (b == 32) both.0) ∙ ap (onto_first b) (solid_alone part both.1)

-- parts without spaces, spread and cut again, are themselves
pub parts_of-spread : (parts : List (List ℕ)) → list_all is_solid parts ≡ true → parts_of (spread parts) ≡ parts
parts_of-spread [] h = refl
parts_of-spread (part ∷ []) h = solid_alone part (and_parts (is_solid part) true h).0
parts_of-spread (part ∷ next ∷ parts) h =
    let both = and_parts (is_solid part) (list_all is_solid (next ∷ parts)) h in
    solid_before part (next ++ spread parts) both.0 ∙ ap (λ others. part ∷ others) (parts_of-spread (next ∷ parts) both.1)

-- a part is cut off where what follows it is spaced
pub solid_cut : (part others : List ℕ) → is_solid part ≡ true → is_spaced others ≡ true → slice_split is_space (part ++ others) ≡ part ∷ parts_of others
solid_cut part [] solid spaced = solid_alone part solid
solid_cut part (b ∷ rest) solid spaced =
    ap (λ c. slice_split is_space (part ++ c ∷ rest)) (eqb-true b 32 spaced) ∙ solid_before part rest solid

-- digits are solid
pub digits-solid : (xs : List ℕ) → list_all is_ascii_digit xs ≡ true → is_solid xs ≡ true
digits-solid [] h = refl
digits-solid (x ∷ xs) h =
    let both = and_parts (is_ascii_digit x) (list_all is_ascii_digit xs) h in
    and_from (not (x == 32)) (is_solid xs) (apart x both.0) (digits-solid xs both.1)
  where
    apart : (c : ℕ) → is_ascii_digit c ≡ true → not (c == 32) ≡ true
    apart c h = grind (arith, nat_tests)
