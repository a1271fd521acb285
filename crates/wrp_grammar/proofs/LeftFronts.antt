-- The longest front of what is left of a line: leading numbers, and what follows them.
use Rattle.std.proofs.Common.{arith, codes, ◌≡◌, ℕ, ◌+◌, ◌-◌, ◌≤◌, Bool, true, false, cond, ◌&&◌, List, [], ◌∷◌, length, refl, sym, ap, ◌∙◌, subst, inl, inr, ◌||◌}
use Rattle.std.proofs.lemmas.Bool.{and_parts, and_from, cases_Bool, eqb-true}
use Rattle.std.proofs.lemmas.List.{length-append}
use Rattle.std.proofs.lemmas.List.Splits.{slice_split-cons_yes, slice_split-cons_no}
use Rattle.std.proofs.lemmas.Slice.Eq.{bytes_eq-Decides}
use Rattle.std.specs.List.{list_all, slice_split, onto_first}
use Rattle.wrp_rules.specs.declared.layout.Range.{Range}
use Rattle.wrp_rules.specs.declared.layout.Tail.{Tail}
use Rattle.wrp_rules.specs.declared.layout.Tail.TheVariants.{Nothing, Steps, Set, Indexes, Multipliers, Pairs, Labels}
use Rattle.wrp_grammar.specs.Fronts.{IsLongestFront, is_left}
use Rattle.wrp_grammar.specs.Parts.{is_space, is_spaced, parts_of, is_digits}
use Rattle.wrp_grammar.specs.Shapes.{is_slash, is_label, is_nothing, has_labels_shape, is_part_of, has_tail_shape, has_parts_shape}
use Rattle.wrp_grammar.proofs.Fronts.{front-at, front-end, front-stop, front-pass, front-break, IsCut, IsFirst}
use Rattle.wrp_grammar.proofs.DigitFronts.{digits_part-solid}
use Rattle.wrp_grammar.proofs.PartFronts.{step-solid, pair-solid}
use Rattle.wrp_grammar.proofs.Spacing.{is_solid, spread, parts_of-spread}

-- some parts of a shape
pub record HasParts (shape : List (List ℕ) → Bool) : Type 0 where
  pub parts : List (List ℕ)
  pub solid : list_all is_solid parts ≡ true
  pub whole : shape parts ≡ true

spread_spaced : (ps : List (List ℕ)) → is_spaced (spread ps) ≡ true
spread_spaced [] = refl
spread_spaced (p ∷ ps) = refl

-- nothing is left, where parts are wanted
pub empty-front : (shape : List (List ℕ) → Bool) (left : List ℕ) → HasParts shape → left ≡ [] → IsLongestFront (is_left shape) left 0
empty-front shape left some e =
    subst (λ text. IsLongestFront (is_left shape) text 0) (sym e)
    (front-end (is_left shape) (spread some.parts) (and_from (is_spaced (spread some.parts)) (shape (parts_of (spread some.parts))) (spread_spaced some.parts) (ap shape (parts_of-spread some.parts some.solid) ∙ some.whole)))

pub tail-parts : (tail : Tail) → HasParts (has_tail_shape tail)
tail-parts Labels = record { parts = codes "/" ∷ []; solid = refl; whole = refl }
tail-parts Nothing = record { parts = []; solid = refl; whole = refl }
tail-parts Steps = record { parts = []; solid = refl; whole = refl }
tail-parts Set = record { parts = []; solid = refl; whole = refl }
tail-parts Indexes = record { parts = []; solid = refl; whole = refl }
tail-parts (Multipliers most) = record { parts = []; solid = refl; whole = refl }
tail-parts (Pairs most) = record { parts = []; solid = refl; whole = refl }

-- a layout has parts
pub layout-parts : (numbers : List Range) (tail : Tail) → HasParts (has_parts_shape numbers tail)
layout-parts [] tail = let some = tail-parts tail in record { parts = some.parts; solid = some.solid; whole = some.whole }
layout-parts (range ∷ ranges) tail =
    let some = layout-parts ranges tail in
    record { parts = (48 ∷ []) ∷ some.parts; solid = some.solid; whole = some.whole }

-- ---- a leading number, and what follows it

pub number-end : (numbers : List Range) (tail : Tail) (left : List ℕ) → left ≡ [] → IsLongestFront (is_left (has_parts_shape numbers tail)) left 0
number-end numbers tail left e = empty-front (has_parts_shape numbers tail) left (layout-parts numbers tail) e

pub number-break : (numbers ranges : List Range) (range : Range) (tail : Tail) (left part rest : List ℕ) (at place : ℕ) → numbers ≡ range ∷ ranges → IsCut left part rest → is_digits part ≡ false → IsLongestFront is_digits part at
    → place ≡ 1 + at → IsLongestFront (is_left (has_parts_shape numbers tail)) left place
number-break numbers ranges range tail left part rest at place e cut broken h size =
    subst (λ ns. IsLongestFront (is_left (has_parts_shape ns tail)) left place) (sym e)
    (front-break (has_parts_shape (range ∷ ranges) tail) is_digits left part rest at place first cut broken h size)
  where
    first : IsFirst (has_parts_shape (range ∷ ranges) tail) is_digits
    first =
        let some = layout-parts ranges tail in
        record {
          rest = λ p. some.parts;
          rest_solid = λ p. some.solid;
          part = λ p ps h. (and_parts (is_digits p) (has_parts_shape ranges tail ps) h).0;
          solid = digits_part-solid;
          whole = λ p h. and_from (is_digits p) (has_parts_shape ranges tail some.parts) h some.whole;
        }

pub number-pass : (numbers ranges : List Range) (range : Range) (tail : Tail) (left part rest : List ℕ) (at place : ℕ) → numbers ≡ range ∷ ranges → IsCut left part rest → is_digits part ≡ true
    → IsLongestFront (is_left (has_parts_shape ranges tail)) rest at → place ≡ 1 + length part + at → IsLongestFront (is_left (has_parts_shape numbers tail)) left place
number-pass numbers ranges range tail left part rest at place e cut here h size =
    subst (λ ns. IsLongestFront (is_left (has_parts_shape ns tail)) left place) (sym e)
    (front-pass (has_parts_shape (range ∷ ranges) tail) (has_parts_shape ranges tail) left part rest at place cut (λ ps. ap (λ d. d && has_parts_shape ranges tail ps) here) h size)

-- the parts that are left are in shape where a number is next and its others are in shape
pub number-shape : (numbers ranges : List Range) (range : Range) (tail : Tail) (part : List ℕ) (parts others : List (List ℕ)) → numbers ≡ range ∷ ranges → parts ≡ part ∷ others → has_parts_shape numbers tail parts ≡ (is_digits part && has_parts_shape ranges tail others)
number-shape numbers ranges range tail part parts others e cut = ap (λ ns. has_parts_shape ns tail parts) e ∙ ap (has_parts_shape (range ∷ ranges) tail) cut

-- ---- what follows the leading numbers

pub nothing-front : (left : List ℕ) → is_spaced left ≡ true → is_nothing (parts_of left) ≡ false → IsLongestFront (is_left is_nothing) left 0
nothing-front [] spaced some = cc
nothing-front (b ∷ t) spaced some =
    subst (λ c. IsLongestFront (is_left is_nothing) (c ∷ t) 0) (sym (eqb-true b 32 spaced)) (front-stop (is_left is_nothing) [] 32 t refl never)
  where
    never : (t : List ℕ) → is_left is_nothing (32 ∷ t) ≡ false
    never t = unsplit t
      where
        unsplit : (t : List ℕ) → is_nothing (slice_split is_space t) ≡ false
        unsplit [] = refl
        unsplit (b ∷ t) = elim (cases_Bool (is_space b)) [
          | inl here ↦ ap is_nothing (slice_split-cons_yes is_space b t here)
          | inr other ↦ ap is_nothing (slice_split-cons_no is_space b t other) ∙ onto b (slice_split is_space t)
        ]
          where
            onto : (b : ℕ) (ps : List (List ℕ)) → is_nothing (onto_first b ps) ≡ false
            onto b [] = refl
            onto b (p ∷ ps) = refl

part-solid : (tail : Tail) (p : List ℕ) → is_part_of tail p ≡ true → is_solid p ≡ true
part-solid Steps p h = step-solid p h
part-solid (Multipliers most) p h = pair-solid p h
part-solid (Pairs most) p h = pair-solid p h
part-solid Nothing p h = digits_part-solid p h
part-solid Set p h = digits_part-solid p h
part-solid Indexes p h = digits_part-solid p h
part-solid Labels p h = digits_part-solid p h

-- parts that are each in a shape
pub list-break : (tail : Tail) (left part others : List ℕ) (at place : ℕ) → IsCut left part others → is_part_of tail part ≡ false → IsLongestFront (is_part_of tail) part at → place ≡ 1 + at → IsLongestFront (is_left (list_all (is_part_of tail))) left place
list-break tail left part others at place cut broken h e = front-break (list_all (is_part_of tail)) (is_part_of tail) left part others at place first cut broken h e
  where
    first : IsFirst (list_all (is_part_of tail)) (is_part_of tail)
    first = record {
      rest = λ p. [];
      rest_solid = λ p. refl;
      part = λ p ps h. (and_parts (is_part_of tail p) (list_all (is_part_of tail) ps) h).0;
      solid = part-solid tail;
      whole = λ p h. and_from (is_part_of tail p) true h refl;
    }

-- labels, a slash, and streets
-- what may follow a label or a slash
abbrev label_rest : List ℕ → List (List ℕ)
label_rest p = cond (is_slash p) [] (codes "/" ∷ [])

labels-first : IsFirst has_labels_shape is_label
labels-first = record {
  rest = label_rest;
  rest_solid = λ p. rest_solid (is_slash p);
  part = λ p ps h. part (is_slash p) (is_digits p) (list_all is_digits ps) (has_labels_shape ps) h;
  solid = λ p h. solid p h;
  whole = λ p h. whole p h;
}
  where
    rest_solid : (slash : Bool) → list_all is_solid (cond slash [] (codes "/" ∷ [])) ≡ true
    rest_solid true = refl
    rest_solid false = refl

    part : (slash digits x y : Bool) → cond slash x (digits && y) ≡ true → (slash || digits) ≡ true
    part true digits x y h = refl
    part false true x y h = refl
    part false false x y h = h

    solid : (p : List ℕ) → is_label p ≡ true → is_solid p ≡ true
    solid p h = elim (cases_Bool (is_slash p)) [
      | inl here ↦ ap is_solid ((bytes_eq-Decides p (codes "/")).0 here)
      | inr other ↦ digits_part-solid p (sym (ap (λ s. s || is_digits p) other) ∙ h)
    ]

    whole : (p : List ℕ) → is_label p ≡ true → has_labels_shape (p ∷ label_rest p) ≡ true
    whole p h = elim (cases_Bool (is_slash p)) [
      | inl here ↦ ap (λ s. cond s (list_all is_digits (cond s [] (codes "/" ∷ []))) (is_digits p && has_labels_shape (cond s [] (codes "/" ∷ [])))) here
      | inr other ↦ ap (λ s. cond s (list_all is_digits (cond s [] (codes "/" ∷ []))) (is_digits p && has_labels_shape (cond s [] (codes "/" ∷ [])))) other
          ∙ and_from (is_digits p) true (sym (ap (λ s. s || is_digits p) other) ∙ h) refl
    ]

pub labels-break : (left part others : List ℕ) (at place : ℕ) → IsCut left part others → is_slash part ≡ false → is_digits part ≡ false → IsLongestFront is_label part at → place ≡ 1 + at → IsLongestFront (is_left has_labels_shape) left place
labels-break left part others at place cut other broken h e =
    front-break has_labels_shape is_label left part others at place labels-first cut (ap (λ s. s || is_digits part) other ∙ broken) h e

pub slash-pass : (left part others : List ℕ) (at place : ℕ) → IsCut left part others → is_slash part ≡ true → IsLongestFront (is_left (list_all is_digits)) others at → place ≡ 1 + length part + at → IsLongestFront (is_left has_labels_shape) left place
slash-pass left part others at place cut here h e =
    front-pass has_labels_shape (list_all is_digits) left part others at place cut (λ ps. ap (λ s. cond s (list_all is_digits ps) (is_digits part && has_labels_shape ps)) here) h e

pub label-pass : (part : List ℕ) → is_slash part ≡ false → is_digits part ≡ true → (ps : List (List ℕ)) → has_labels_shape (part ∷ ps) ≡ has_labels_shape ps
label-pass part other here ps = ap (λ s. cond s (list_all is_digits ps) (is_digits part && has_labels_shape ps)) other ∙ ap (λ d. d && has_labels_shape ps) here

-- ---- the parts before what is left are in their shape

pub record Lifts (shape : List (List ℕ) → Bool) (line left : List ℕ) : Type 0 where
  pub within : length left ≤ length line
  pub spaced : is_spaced left ≡ true
  pub lift : (at : ℕ) → IsLongestFront (is_left shape) left at → IsLongestFront (is_left shape) line (length line - length left + at)

pub lifts-start : (shape : List (List ℕ) → Bool) (line : List ℕ) → is_spaced line ≡ true → Lifts shape line line
lifts-start shape line h = record {
  within = omega arith;
  spaced = h;
  lift = λ at front. front-at (is_left shape) line at (length line - length line + at) front (omega arith);
}

pub lifts-more : (shape : List (List ℕ) → Bool) (line left part others : List ℕ) → Lifts shape line left → IsCut left part others → ((ps : List (List ℕ)) → shape (part ∷ ps) ≡ shape ps) → Lifts shape line others
lifts-more shape line left part others h cut same =
    let size : length left ≡ 1 + length part + length others = omega (arith, ap length cut.same, length-append part others) in
    record {
      within = omega (arith, h.within);
      spaced = cut.spaced;
      lift = λ at front. front-at (is_left shape) line (length line - length left + (1 + length part + at)) (length line - length others + at)
          (h.lift (1 + length part + at) (front-pass shape shape left part others at (1 + length part + at) cut same front refl)) (omega (arith, h.within));
    }

pub lifts-place : (shape : List (List ℕ) → Bool) (line left : List ℕ) (at place : ℕ) → Lifts shape line left → IsLongestFront (is_left shape) left at → place ≡ length line - length left + at → IsLongestFront (is_left shape) line place
lifts-place shape line left at place h front e = front-at (is_left shape) line (length line - length left + at) place (h.lift at front) e
