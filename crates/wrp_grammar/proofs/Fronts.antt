-- The longest front of a text, found byte by byte and part by part.
use Rattle.std.proofs.Common.{inl, inr, arith, ◌≡◌, ℕ, ◌+◌, ◌-◌, ◌<◌, ◌≤◌, zero, suc, Bool, true, false, not, ◌==◌, List, [], ◌∷◌, ◌++◌, length, take, refl, sym, ap, ◌∙◌, subst, append_assoc}
use Rattle.std.proofs.lemmas.Bool.{and_parts, and_from, cases_Bool, cases_lt, not-true, false≢true}
use Rattle.std.proofs.lemmas.List.{take-append-le, length-append}
use Rattle.std.proofs.Math.Seq.{take-append-add}
use Rattle.std.proofs.lemmas.List.Splits.{slice_split-cons_yes, slice_split-cons_no}
use Rattle.std.specs.List.{list_all, slice_split, onto_first}
use Rattle.wrp_grammar.specs.Fronts.{IsLongestFront, is_left}
use Rattle.wrp_grammar.specs.Parts.{is_space, is_spaced, parts_of}
use Rattle.wrp_grammar.proofs.LabelLists.{parts_of-solid}
use Rattle.wrp_grammar.proofs.Spacing.{is_solid, spread, spread-parts_of, parts_of-spread, solid_cut}

-- the same place, written otherwise
pub front-at : (shape : List ℕ → Bool) (text : List ℕ) (at place : ℕ) → IsLongestFront shape text at → place ≡ at → IsLongestFront shape text place
front-at shape text at place h e = subst (IsLongestFront shape text) (sym e) h

-- shapes that hold of the same texts
pub front-same : (one two : List ℕ → Bool) (text : List ℕ) (at : ℕ) → ((t : List ℕ) → one t ≡ two t) → IsLongestFront one text at → IsLongestFront two text at
front-same one two text at same h = record {
  within = h.within;
  more = h.more;
  begins = sym (same (take at text ++ h.more)) ∙ h.begins;
  longest = λ n others p e. h.longest n others p (same (take n text ++ others) ∙ e);
}

-- one byte more
pub front-cons : (shape : List ℕ → Bool) (b : ℕ) (text : List ℕ) (at : ℕ) → IsLongestFront (λ t. shape (b ∷ t)) text at → IsLongestFront shape (b ∷ text) (suc at)
front-cons shape b text at h = record { within = omega (arith, h.within); more = h.more; begins = h.begins; longest = longer }
  where
    longer : (n : ℕ) (others : List ℕ) → n ≤ length (b ∷ text) → shape (take n (b ∷ text) ++ others) ≡ true → n ≤ suc at
    longer zero others p e = omega arith
    longer (suc n) others p e = omega (arith, h.longest n others (omega arith) e)

-- more bytes
pub front-append : (shape : List ℕ → Bool) (xs text : List ℕ) (at : ℕ) → IsLongestFront (λ t. shape (xs ++ t)) text at → IsLongestFront shape (xs ++ text) (length xs + at)
front-append shape [] text at h = front-at shape text at (0 + at) h (omega arith)
front-append shape (x ∷ xs) text at h =
    front-at shape (x ∷ xs ++ text) (suc (length xs + at)) (length (x ∷ xs) + at)
    (front-cons shape x (xs ++ text) (length xs + at) (front-append (λ t. shape (x ∷ t)) xs text at h)) (omega arith)

-- the text ends
pub front-end : (shape : List ℕ → Bool) (some : List ℕ) → shape some ≡ true → IsLongestFront shape [] 0
front-end shape some h = record { within = omega arith; more = some; begins = h; longest = λ n others p e. p }

-- no text of the shape begins with the next byte
pub front-stop : (shape : List ℕ → Bool) (some : List ℕ) (b : ℕ) (text : List ℕ) → shape some ≡ true → ((t : List ℕ) → shape (b ∷ t) ≡ false) → IsLongestFront shape (b ∷ text) 0
front-stop shape some b text h never = record { within = omega arith; more = some; begins = h; longest = longer }
  where
    longer : (n : ℕ) (others : List ℕ) → n ≤ length (b ∷ text) → shape (take n (b ∷ text) ++ others) ≡ true → n ≤ 0
    longer zero others p e = omega arith
    longer (suc n) others p e = absurd (false≢true (sym (never (take n text ++ others)) ∙ e))

-- what is left begins with this part, and goes on with the others
pub record IsCut (left part others : List ℕ) : Type 0 where
  pub same : left ≡ 32 ∷ part ++ others
  pub solid : is_solid part ≡ true
  pub spaced : is_spaced others ≡ true

pub left-cut : (left part others : List ℕ) → is_spaced left ≡ true → parts_of left ≡ part ∷ parts_of others → is_spaced others ≡ true → IsCut left part others
left-cut left part others h e spaced = record {
  same = sym (spread-parts_of left h) ∙ ap spread e ∙ ap (λ rest. 32 ∷ part ++ rest) (spread-parts_of others spaced);
  solid = (and_parts (is_solid part) (list_all is_solid (parts_of others)) (sym (ap (list_all is_solid) e) ∙ parts_of-solid left)).0;
  spaced = spaced;
}

-- a shape that agrees with one of what is left wherever a space is next
front-spaced : (shape : List (List ℕ) → Bool) (two : List ℕ → Bool) (text : List ℕ) (at : ℕ) → ((t : List ℕ) → is_spaced t ≡ true → shape (parts_of t) ≡ two t) → is_spaced text ≡ true → IsLongestFront (is_left shape) text at → IsLongestFront two text at
front-spaced shape two text at same spaced h = record { within = h.within; more = h.more; begins = first; longest = longer text spaced h }
  where
    first : two (take at text ++ h.more) ≡ true
    first =
        let both = and_parts (is_spaced (take at text ++ h.more)) (shape (parts_of (take at text ++ h.more))) h.begins in
        sym (same (take at text ++ h.more) both.0) ∙ both.1

    longer : (text : List ℕ) → is_spaced text ≡ true → IsLongestFront (is_left shape) text at → (n : ℕ) (others : List ℕ) → n ≤ length text → two (take n text ++ others) ≡ true → n ≤ at
    longer [] spaced h n others p e = omega arith
    longer (b ∷ text) spaced h zero others p e = omega arith
    longer (b ∷ text) spaced h (suc n) others p e =
        h.longest (suc n) others p (and_from (is_spaced (b ∷ take n text ++ others)) (shape (parts_of (b ∷ take n text ++ others))) spaced (same (b ∷ take n text ++ others) spaced ∙ e))

-- a part that is in its shape: the others decide
pub front-pass : (shape rest : List (List ℕ) → Bool) (left part others : List ℕ) (at place : ℕ) → IsCut left part others → ((ps : List (List ℕ)) → shape (part ∷ ps) ≡ rest ps) → IsLongestFront (is_left rest) others at → place ≡ 1 + length part + at → IsLongestFront (is_left shape) left place
front-pass shape rest left part others at place cut same h e =
    subst (λ text. IsLongestFront (is_left shape) text place) (sym cut.same)
    (front-at (is_left shape) (32 ∷ part ++ others) (suc (length part + at)) place
    (front-cons (is_left shape) 32 (part ++ others) (length part + at)
    (front-append (λ t. shape (slice_split is_space t)) part others at
    (front-spaced rest (λ t. shape (slice_split is_space (part ++ t))) others at (λ t spaced. sym (ap shape (solid_cut part t cut.solid spaced) ∙ same (parts_of t))) cut.spaced h)))
    (omega arith))

-- the first part of a text, and its others
record Split (text : List ℕ) : Type 0 where
  first : List ℕ
  others : List (List ℕ)
  same : slice_split is_space text ≡ first ∷ others

split : (text : List ℕ) → Split text
split [] = record { first = []; others = []; same = refl }
split (b ∷ text) = elim (cases_Bool (is_space b)) [
  | inl here ↦ record { first = []; others = slice_split is_space text; same = slice_split-cons_yes is_space b text here }
  | inr other ↦ let rest = split text in
      record { first = b ∷ rest.first; others = rest.others; same = slice_split-cons_no is_space b text other ∙ ap (onto_first b) rest.same }
]

-- bytes before a text that are no spaces belong to its first part
split-behind : (xs text : List ℕ) (first : List ℕ) (others : List (List ℕ)) → is_solid xs ≡ true → slice_split is_space text ≡ first ∷ others → slice_split is_space (xs ++ text) ≡ (xs ++ first) ∷ others
split-behind [] text first others solid h = h
split-behind (x ∷ xs) text first others solid h =
    let both = and_parts (not (x == 32)) (is_solid xs) solid in
    slice_split-cons_no is_space x (xs ++ text) (not-true (x == 32) both.0) ∙ ap (onto_first x) (split-behind xs text first others both.1 h)

solid-take : (n : ℕ) (xs : List ℕ) → is_solid xs ≡ true → is_solid (take n xs) ≡ true
solid-take zero xs h = refl
solid-take (suc n) [] h = refl
solid-take (suc n) (x ∷ xs) h =
    let both = and_parts (not (x == 32)) (is_solid xs) h in
    and_from (not (x == 32)) (is_solid (take n xs)) both.0 (solid-take n xs both.1)

-- what the first part of a shape may be, and parts that may follow each of them
pub record IsFirst (shape : List (List ℕ) → Bool) (is_part : List ℕ → Bool) : Type 0 where
  pub rest : List ℕ → List (List ℕ)
  pub rest_solid : (p : List ℕ) → list_all is_solid (rest p) ≡ true
  pub part : (p : List ℕ) (ps : List (List ℕ)) → shape (p ∷ ps) ≡ true → is_part p ≡ true
  pub solid : (p : List ℕ) → is_part p ≡ true → is_solid p ≡ true
  pub whole : (p : List ℕ) → is_part p ≡ true → shape (p ∷ rest p) ≡ true

-- a part that is not in its shape: it decides
pub front-break : (shape : List (List ℕ) → Bool) (is_part : List ℕ → Bool) (left part others : List ℕ) (at place : ℕ) → IsFirst shape is_part → IsCut left part others → is_part part ≡ false → IsLongestFront is_part part at → place ≡ 1 + at → IsLongestFront (is_left shape) left place
front-break shape is_part left part others at place first cut broken h e =
    subst (λ text. IsLongestFront (is_left shape) text place) (sym cut.same)
    (front-at (is_left shape) (32 ∷ part ++ others) (suc at) place (front-cons (is_left shape) 32 (part ++ others) at inner) (omega arith))
  where
    begin : shape (slice_split is_space (take at (part ++ others) ++ (h.more ++ spread (first.rest (take at part ++ h.more))))) ≡ true
    begin =
        ap (λ front. shape (slice_split is_space (front ++ (h.more ++ spread (first.rest (take at part ++ h.more)))))) (take-append-le at part others h.within)
        ∙ ap (λ text. shape (slice_split is_space text)) (sym (append_assoc (take at part) h.more (spread (first.rest (take at part ++ h.more)))))
        ∙ ap shape (solid_cut (take at part ++ h.more) (spread (first.rest (take at part ++ h.more))) (first.solid (take at part ++ h.more) h.begins) (spread_spaced (first.rest (take at part ++ h.more))))
        ∙ ap (λ ps. shape ((take at part ++ h.more) ∷ ps)) (parts_of-spread (first.rest (take at part ++ h.more)) (first.rest_solid (take at part ++ h.more)))
        ∙ first.whole (take at part ++ h.more) h.begins
      where
        spread_spaced : (ps : List (List ℕ)) → is_spaced (spread ps) ≡ true
        spread_spaced [] = refl
        spread_spaced (p ∷ ps) = refl

    longer : (n : ℕ) (more : List ℕ) → n ≤ length (part ++ others) → shape (slice_split is_space (take n (part ++ others) ++ more)) ≡ true → n ≤ at
    longer n more p e = elim (cases_lt (length part) n) [
      | inl beyond ↦ absurd (after others cut.spaced n more beyond p e)
      | inr inside ↦ let rest = split more in
          h.longest n rest.first inside (first.part (take n part ++ rest.first) rest.others
          (sym (ap shape (ap (λ front. slice_split is_space (front ++ more)) (take-append-le n part others inside) ∙ split-behind (take n part) more rest.first rest.others (solid-take n part cut.solid) rest.same)) ∙ e))
    ]
      where
        after : (others : List ℕ) → is_spaced others ≡ true → (n : ℕ) (more : List ℕ) → length part < n → n ≤ length (part ++ others) → shape (slice_split is_space (take n (part ++ others) ++ more)) ≡ true → ⊥
        after [] spaced n more beyond p e = omega (arith, length-append {A = ℕ} part [])
        after (b ∷ others) spaced n more beyond p e =
            let m : ℕ = n - length part - 1 in
            let size : n ≡ length part + suc m = omega arith in
            let text : take n (part ++ b ∷ others) ++ more ≡ part ++ (b ∷ take m others ++ more) =
            ap (λ k. take k (part ++ b ∷ others) ++ more) size ∙ ap (λ front. front ++ more) (take-append-add part (b ∷ others) (suc m)) ∙ append_assoc part (b ∷ take m others) more in
            false≢true (sym broken ∙ first.part part (parts_of (b ∷ take m others ++ more)) (sym (ap shape (ap (slice_split is_space) text ∙ solid_cut part (b ∷ take m others ++ more) cut.solid spaced)) ∙ e))

    inner : IsLongestFront (λ t. shape (slice_split is_space t)) (part ++ others) at
    inner = record { within = omega (arith, length-append part others, h.within); more = h.more ++ spread (first.rest (take at part ++ h.more)); begins = begin; longest = longer }
