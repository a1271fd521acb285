-- Labels and streets on both sides of a slash.
use Rattle.std.proofs.Common.{inl, inr, arith, codes, get_or, suc, ◌<◌, ◌≡◌, ℕ, ◌+◌, ◌-◌, Bool, true, false, cond, ◌||◌, not, List, [], ◌∷◌, ◌++◌, length, take, drop, refl, sym, ap, ◌∙◌, append_assoc}
use Rattle.std.proofs.lemmas.Bool.{and_parts, cases_Bool, false≢true}
use Rattle.std.proofs.lemmas.Slice.Eq.{bytes_eq-Decides}
use Rattle.std.proofs.lemmas.List.Sums.{split_at_first, passes_at_first}
use Rattle.std.proofs.lemmas.List.{take_at, drop_at, length-append}
use Rattle.std.proofs.lemmas.List.Folds.{list_all-append}
use Rattle.std.specs.List.{list_all, list_any, before_first, after_first, position_or_len, slice_split, onto_first}
use Rattle.wrp_grammar.specs.Parts.{is_space, is_spaced, parts_of, is_index_part}
use Rattle.wrp_grammar.specs.Shapes.{is_slash}
use Rattle.wrp_grammar.proofs.Spacing.{is_solid, spread, spread-parts_of, parts_of-spread}

-- the first slash stands behind parts that are none
slash_place : (xs ys : List (List ℕ)) (y : List ℕ) → list_any is_slash xs ≡ false → is_slash y ≡ true → position_or_len is_slash (xs ++ y ∷ ys) ≡ length xs
slash_place [] ys y none here = rw here refl
slash_place (x ∷ xs) ys y none here =
    let both = neither (is_slash x) (list_any is_slash xs) none in
    rw both.0 (omega (arith, slash_place xs ys y both.1 here))
  where
    neither : (a b : Bool) → (a || b) ≡ false → (a ≡ false) × (b ≡ false)
    neither true b h = cc
    neither false b h = (refl, h)

pub before-slash : (xs ys : List (List ℕ)) (y : List ℕ) → list_any is_slash xs ≡ false → is_slash y ≡ true → before_first is_slash (xs ++ y ∷ ys) ≡ xs
before-slash xs ys y none here = ap (λ n. take n (xs ++ y ∷ ys)) (slash_place xs ys y none here) ∙ take_at xs (y ∷ ys) (length xs) refl

pub after-slash : (xs ys : List (List ℕ)) (y : List ℕ) → list_any is_slash xs ≡ false → is_slash y ≡ true → after_first is_slash (xs ++ y ∷ ys) ≡ ys
after-slash xs ys y none here =
    ap (λ n. drop (n + 1) (xs ++ y ∷ ys)) (slash_place xs ys y none here)
    ∙ ap (drop (length xs + 1)) (sym (append_assoc xs (y ∷ []) ys))
    ∙ drop_at (xs ++ y ∷ []) ys (length xs + 1) (length-append xs (y ∷ []))

-- parts of a text have no space
split-solid : (bytes : List ℕ) → list_all is_solid (slice_split is_space bytes) ≡ true
split-solid [] = refl
split-solid (b ∷ bytes) = onto (is_space b) refl (slice_split is_space bytes) (split-solid bytes)
  where
    onto : (space : Bool) → is_space b ≡ space → (parts : List (List ℕ)) → list_all is_solid parts ≡ true → list_all is_solid (cond space ([] ∷ parts) (onto_first b parts)) ≡ true
    onto true e parts h = h
    onto false e [] h = rw e refl
    onto false e (part ∷ parts) h =
        let both = and_parts (is_solid part) (list_all is_solid parts) h in
        rw (e, both.0, both.1) refl

pub parts_of-solid : (left : List ℕ) → list_all is_solid (parts_of left) ≡ true
parts_of-solid [] = refl
parts_of-solid (space ∷ bytes) = split-solid bytes

pub spread-append : (xs ys : List (List ℕ)) → spread (xs ++ ys) ≡ spread xs ++ spread ys
spread-append [] ys = refl
spread-append (x ∷ xs) ys = ap (λ rest. 32 ∷ x ++ rest) (spread-append xs ys) ∙ sym (append_assoc (32 ∷ x) (spread xs) (spread ys))

-- no slash stands among the parts of a line before those that are left
pub record IsBeforeSlash (line left : List ℕ) : Type 0 where
  pub before : List (List ℕ)
  pub parts : parts_of line ≡ before ++ parts_of left
  pub none : list_any is_slash before ≡ false
  pub whole : is_spaced line ≡ true
  pub spaced : is_spaced left ≡ true

-- the bytes before what is left spell the parts before it
front-parts : (line left : List ℕ) (h : IsBeforeSlash line left) → parts_of (take (length line - length left) line) ≡ h.before
front-parts line left h =
    let whole : line ≡ spread h.before ++ left =
    sym (spread-parts_of line h.whole) ∙ ap spread h.parts ∙ spread-append h.before (parts_of left) ∙ ap (λ rest. spread h.before ++ rest) (spread-parts_of left h.spaced) in
    let size : length line - length left ≡ length (spread h.before) = omega (arith, ap length whole, length-append (spread h.before) left) in
    let solid = (and_parts (list_all is_solid h.before) (list_all is_solid (parts_of left))
    (sym (list_all-append is_solid h.before (parts_of left)) ∙ ap (list_all is_solid) (sym h.parts) ∙ parts_of-solid line)).0 in
    ap (λ n. parts_of (take n line)) size
    ∙ ap (λ bytes. parts_of (take (length (spread h.before)) bytes)) whole
    ∙ ap parts_of (take_at (spread h.before) left (length (spread h.before)) refl)
    ∙ parts_of-spread h.before solid

pub starts-before : (line : List ℕ) → is_spaced line ≡ true → IsBeforeSlash line line
starts-before line h = record { before = []; parts = refl; none = refl; whole = h; spaced = h }

pub goes-before : (line left others part : List ℕ) → IsBeforeSlash line left → parts_of left ≡ part ∷ parts_of others → is_slash part ≡ false → is_spaced others ≡ true → IsBeforeSlash line others
goes-before line left others part h e other spaced = record {
  before = h.before ++ part ∷ [];
  parts = h.parts ∙ ap (λ rest. h.before ++ rest) e ∙ sym (append_assoc h.before (part ∷ []) (parts_of others));
  none = none_more h.before h.none;
  whole = h.whole;
  spaced = spaced;
}
  where
    none_more : (xs : List (List ℕ)) → list_any is_slash xs ≡ false → list_any is_slash (xs ++ part ∷ []) ≡ false
    none_more [] h = rw other refl
    none_more (x ∷ xs) h = more (is_slash x) (list_any is_slash xs) (list_any is_slash (xs ++ part ∷ [])) h (none_more xs)
      where
        more : (a b c : Bool) → (a || b) ≡ false → (b ≡ false → c ≡ false) → (a || c) ≡ false
        more true b c h f = h
        more false b c h f = f h

any-there : (xs ys : List (List ℕ)) (y : List ℕ) → is_slash y ≡ true → list_any is_slash (xs ++ y ∷ ys) ≡ true
any-there [] ys y here = rw here refl
any-there (x ∷ xs) ys y here = rw (any-there xs ys y here) (any_or (is_slash x))
  where
    any_or : (a : Bool) → (a || true) ≡ true
    any_or true = refl
    any_or false = refl

-- where a slash is next, the halves are found
pub record AreHalves (line left others : List ℕ) : Type 0 where
  pub some : list_any is_slash (parts_of line) ≡ true
  pub labels : parts_of (take (length line - length left) line) ≡ before_first is_slash (parts_of line)
  pub streets : parts_of others ≡ after_first is_slash (parts_of line)

pub halves-found : (line left others part : List ℕ) → IsBeforeSlash line left → parts_of left ≡ part ∷ parts_of others → is_slash part ≡ true → AreHalves line left others
halves-found line left others part h e here =
    let parts : parts_of line ≡ h.before ++ part ∷ parts_of others = h.parts ∙ ap (λ rest. h.before ++ rest) e in
    record {
      some = ap (list_any is_slash) parts ∙ any-there h.before (parts_of others) part here;
      labels = front-parts line left h ∙ sym (ap (before_first is_slash) parts ∙ before-slash h.before (parts_of others) part h.none here);
      streets = sym (ap (after_first is_slash) parts ∙ after-slash h.before (parts_of others) part h.none here);
    }

-- where nothing is left, no part is a slash
pub no-slash : (line left : List ℕ) → IsBeforeSlash line left → left ≡ [] → list_any is_slash (parts_of line) ≡ false
no-slash line left h e = ap (list_any is_slash) (h.parts ∙ ap (λ bytes. h.before ++ parts_of bytes) e) ∙ none_end h.before h.none
  where
    none_end : (xs : List (List ℕ)) → list_any is_slash xs ≡ false → list_any is_slash (xs ++ []) ≡ false
    none_end [] h = refl
    none_end (x ∷ xs) h = more (is_slash x) (list_any is_slash xs) (list_any is_slash (xs ++ [])) h (none_end xs)
      where
        more : (a b c : Bool) → (a || b) ≡ false → (b ≡ false → c ≡ false) → (a || c) ≡ false
        more true b c h f = h
        more false b c h f = f h

pub slash-there : (xs ys : List (List ℕ)) (y : List ℕ) → is_slash y ≡ true → list_any is_slash (xs ++ y ∷ ys) ≡ true
slash-there xs ys y here = any-there xs ys y here

any-place : (parts : List (List ℕ)) → list_any is_slash parts ≡ true → position_or_len is_slash parts < length parts
any-place [] h = cc
any-place (x ∷ xs) h = go (is_slash x) (position_or_len is_slash xs) h (any-place xs)
  where
    go : (b : Bool) (n : ℕ) → (b || list_any is_slash xs) ≡ true → (list_any is_slash xs ≡ true → n < length xs) → cond (not b) (1 + n) 0 < suc (length xs)
    go true n h f = omega arith
    go false n h f = omega (arith, f h)

-- a slash is one byte
pub is_the_slash : (part : List ℕ) → is_slash part ≡ true → part ≡ codes "/"
is_the_slash part e = (bytes_eq-Decides part (codes "/")).0 e

-- parts with a slash among them are what stands before it, the slash, and what stands after it
pub label-whole : (parts : List (List ℕ)) → list_any is_slash parts ≡ true → parts ≡ before_first is_slash parts ++ codes "/" ∷ after_first is_slash parts
label-whole parts h =
    let lt = any-place parts h in
    split_at_first is_slash parts [] lt
    ∙ ap (λ slash. before_first is_slash parts ++ slash ∷ after_first is_slash parts) (is_the_slash (get_or parts (position_or_len is_slash parts) []) (passes_at_first is_slash parts [] lt))

-- no number is a slash
pub no_slash : (part : List ℕ) → is_index_part part ≡ true → is_slash part ≡ false
no_slash part h = elim (cases_Bool (is_slash part)) [
  | inl here ↦ absurd (false≢true (ap is_index_part (sym (is_the_slash part here)) ∙ h))
  | inr other ↦ other
]

pub no-slash-among : (parts : List (List ℕ)) → list_all is_index_part parts ≡ true → list_any is_slash parts ≡ false
no-slash-among [] h = refl
no-slash-among (part ∷ parts) h =
    let both = and_parts (is_index_part part) (list_all is_index_part parts) h in
    rw (no_slash part both.0, no-slash-among parts both.1) refl
