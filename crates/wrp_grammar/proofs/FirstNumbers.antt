-- The first number that breaks a rule, found part by part.
use Rattle.std.proofs.Common.{arith, codes, ◌≡◌, ℕ, ◌+◌, ◌-◌, Bool, true, false, cond, ◌&&◌, ◌||◌, ◌==◌, not, nat_le, nat_lt, slice_index, List, [], ◌∷◌, ◌++◌, length, refl, sym, ap, ◌∙◌, subst, append_assoc}
use Rattle.std.proofs.Math.Bool.{and-false}
use Rattle.std.proofs.lemmas.Bool.{and_from, false≢true}
use Rattle.std.proofs.lemmas.List.{append-nil, length-append}
use Rattle.std.proofs.lemmas.List.Folds.{list_all-append}
use Rattle.std.proofs.lemmas.Slice.Eq.{bytes_eq-Decides}
use Rattle.std.specs.Char.{is_ascii_digit}
use Rattle.std.specs.List.{list_all}
use Rattle.wrp_rules.specs.declared.layout.Range.{Range}
use Rattle.wrp_rules.specs.declared.layout.Tail.{Tail}
use Rattle.wrp_rules.specs.declared.layout.Tail.TheVariants.{Nothing, Steps, Set, Indexes, Multipliers, Pairs, Labels}
use Rattle.wrp_rules.specs.Lines.{spaced}
use Rattle.wrp_rules.specs.Ranges.{is_index, is_in_range}
use Rattle.wrp_grammar.specs.Numbers.{is_range_part, is_right_part, keeps_rules, IsFirstBad, IsPlaceOfBad}
use Rattle.wrp_grammar.specs.Parts.{parts_of, first_half, second_half, is_number, is_index_part, number_of, sign_of, is_sign, is_step, street_part}
use Rattle.wrp_grammar.specs.Shapes.{is_slash}
use Rattle.wrp_grammar.proofs.LabelLists.{spread-append}
use Rattle.wrp_grammar.proofs.PartFronts.{sign-more}
use Rattle.wrp_grammar.proofs.Spacing.{spread}

-- the parts before what is left keep the rules, and those that are left have this rule
pub record KeepsTo (whole rule : List (List ℕ) → Bool) (line left : List ℕ) : Type 0 where
  pub before : List (List ℕ)
  pub parts : parts_of line ≡ before ++ parts_of left
  pub same : (ps : List (List ℕ)) → whole (before ++ ps) ≡ rule ps
  pub size : length line ≡ length (spread before) + length left

pub keeps-more : (whole rule next : List (List ℕ) → Bool) (line left part others : List ℕ) → KeepsTo whole rule line left → parts_of left ≡ part ∷ parts_of others → length left ≡ length part + length others + 1 → ((ps : List (List ℕ)) → rule (part ∷ ps) ≡ next ps) → KeepsTo whole next line others
keeps-more whole rule next line left part others h e size same = record {
  before = h.before ++ part ∷ [];
  parts = h.parts ∙ ap (λ ps. h.before ++ ps) e ∙ sym (append_assoc h.before (part ∷ []) (parts_of others));
  same = λ ps. ap whole (append_assoc h.before (part ∷ []) ps) ∙ h.same (part ∷ ps) ∙ same ps;
  size = omega (arith, h.size, size, ap length (spread-append h.before (part ∷ [])), length-append (spread h.before) (spread (part ∷ [])), ap length (append-nil part));
}

-- the next part breaks the rule
pub keeps-bad : (whole rule : List (List ℕ) → Bool) (line left part others : List ℕ) (inner at : ℕ) → KeepsTo whole rule line left → parts_of left ≡ part ∷ parts_of others → rule [] ≡ true → ((more : List (List ℕ)) → rule (part ∷ more) ≡ false)
    → inner ≡ cond (rule ((first_half part ++ codes ":1") ∷ [])) (length part - length (second_half part)) 0 → at ≡ length line - length left + 1 + inner → IsFirstBad whole line at
keeps-bad whole rule line left part others inner at h e none bad place where_at = record {
  before = h.before;
  part = part;
  after = parts_of others;
  parts = h.parts ∙ ap (λ ps. h.before ++ ps) e;
  good = ap whole (sym (append-nil h.before)) ∙ h.same [] ∙ none;
  bad = λ more. h.same (part ∷ more) ∙ bad more;
  place = omega (arith, h.size, where_at, place ∙ ap (λ b. cond b (length part - length (second_half part)) 0) (sym (h.same ((first_half part ++ codes ":1") ∷ []))));
}

-- the same where the part has one number
pub keeps-bad_one : (whole rule : List (List ℕ) → Bool) (line left part others : List ℕ) (at : ℕ) → KeepsTo whole rule line left → parts_of left ≡ part ∷ parts_of others → rule [] ≡ true → ((more : List (List ℕ)) → rule (part ∷ more) ≡ false)
    → rule ((first_half part ++ codes ":1") ∷ []) ≡ false → at ≡ length line - length left + 1 → IsFirstBad whole line at
keeps-bad_one whole rule line left part others at h e none bad other where_at =
    keeps-bad whole rule line left part others 0 at h e none bad (sym (ap (λ b. cond b (length part - length (second_half part)) 0) other)) (omega (arith, where_at))

-- rules that are the same
pub first-same : (whole other : List (List ℕ) → Bool) (line : List ℕ) (at : ℕ) → ((ps : List (List ℕ)) → whole ps ≡ other ps) → IsFirstBad whole line at → IsFirstBad other line at
first-same whole other line at same h = record {
  before = h.before;
  part = h.part;
  after = h.after;
  parts = h.parts;
  good = sym (same h.before) ∙ h.good;
  bad = λ more. sym (same (h.before ++ h.part ∷ more)) ∙ h.bad more;
  place = h.place ∙ ap (λ b. length (spaced [] h.before) + 1 + cond b (length h.part - length (second_half h.part)) 0) (same (h.before ++ (first_half h.part ++ codes ":1") ∷ []));
}

-- a part with a colon is no number
colon-digits : (xs : List ℕ) → list_all is_ascii_digit (xs ++ codes ":1") ≡ false
colon-digits xs = list_all-append is_ascii_digit xs (codes ":1") ∙ and-false (list_all is_ascii_digit xs)

pub colon-number : (xs : List ℕ) → is_number (xs ++ codes ":1") ≡ false
colon-number xs = go (nat_lt 0 (length (xs ++ codes ":1"))) (list_all is_ascii_digit (xs ++ codes ":1")) (colon-digits xs)
  where
    go : (a b : Bool) → b ≡ false → ((a && b) && (nat_le (length (xs ++ codes ":1")) 1 || not (slice_index (xs ++ codes ":1") 0 == 48))) ≡ false
    go true b e = ap (λ d. d && (nat_le (length (xs ++ codes ":1")) 1 || not (slice_index (xs ++ codes ":1") 0 == 48))) e
    go false b e = refl

colon-label : (xs : List ℕ) → (is_slash (xs ++ codes ":1") || is_index_part (xs ++ codes ":1")) ≡ false
colon-label xs = ap (λ d. is_slash (xs ++ codes ":1") || (d && is_index (number_of (xs ++ codes ":1")))) (colon-number xs) ∙ slash (is_slash (xs ++ codes ":1")) refl
  where
    slash : (b : Bool) → is_slash (xs ++ codes ":1") ≡ b → (b || false) ≡ false
    slash true e = absurd (omega (arith, length-append xs (codes ":1"), ap length ((bytes_eq-Decides (xs ++ codes ":1") (codes "/")).0 e)))
    slash false e = refl

pub colon-index : (xs : List ℕ) → is_index_part (xs ++ codes ":1") ≡ false
colon-index xs = ap (λ d. d && is_index (number_of (xs ++ codes ":1"))) (colon-number xs)

sign-end : (xs : List ℕ) → sign_of (xs ++ codes ":1") ≡ 49
sign-end [] = refl
sign-end (b ∷ []) = sign-more b 58 (49 ∷ []) ∙ sign-end []
sign-end (b ∷ c ∷ xs) = sign-more b c (xs ++ codes ":1") ∙ sign-end (c ∷ xs)

colon-step : (xs : List ℕ) → is_step (xs ++ codes ":1") ≡ false
colon-step xs = ap (λ s. is_sign s && (is_number (street_part (xs ++ codes ":1")) && is_index (number_of (street_part (xs ++ codes ":1"))))) (sign-end xs)

pub colon-part : (tail : Tail) (xs : List ℕ) → is_right_part tail (xs ++ codes ":1") ≡ false
colon-part Steps xs = colon-step xs
colon-part Labels xs = colon-label xs
colon-part Nothing xs = colon-index xs
colon-part Set xs = colon-index xs
colon-part Indexes xs = colon-index xs
colon-part (Multipliers most) xs = colon-index xs
colon-part (Pairs most) xs = colon-index xs

-- ---- a leading number

pub number-none : (numbers ranges : List Range) (range : Range) (tail : Tail) (left : List ℕ) → numbers ≡ range ∷ ranges → left ≡ [] → IsPlaceOfBad (keeps_rules numbers tail) left 0
number-none numbers ranges range tail left e none broken =
    absurd (false≢true (sym broken ∙ ap (λ ns. keeps_rules ns tail (parts_of left)) e ∙ ap (λ text. keeps_rules (range ∷ ranges) tail (parts_of text)) none))

-- in its range
pub number-good : (numbers ranges : List Range) (range : Range) (tail : Tail) (left number others : List ℕ) (at place : ℕ) → numbers ≡ range ∷ ranges → parts_of left ≡ number ∷ parts_of others → is_range_part range number ≡ true
    → IsPlaceOfBad (keeps_rules ranges tail) others at → place ≡ 1 + length number + at → IsPlaceOfBad (keeps_rules numbers tail) left place
number-good numbers ranges range tail left number others at place same e right first size broken =
    subst (λ ns. IsFirstBad (keeps_rules ns tail) left place) (sym same) (record {
      before = number ∷ h.before;
      part = h.part;
      after = h.after;
      parts = e ∙ ap (λ ps. number ∷ ps) h.parts;
      good = and_from (is_range_part range number) (keeps_rules ranges tail h.before) right h.good;
      bad = λ more. ap (λ r. r && keeps_rules ranges tail (h.before ++ h.part ∷ more)) right ∙ h.bad more;
      place = omega (arith, size, h.place, length-append number (spaced [] h.before), ap (λ r. cond (r && keeps_rules ranges tail (h.before ++ (first_half h.part ++ codes ":1") ∷ [])) (length h.part - length (second_half h.part)) 0) right);
    })
  where
    h : IsFirstBad (keeps_rules ranges tail) others at
    h = first (sym (ap (λ r. r && keeps_rules ranges tail (parts_of others)) right) ∙ sym (ap (keeps_rules (range ∷ ranges) tail) e) ∙ sym (ap (λ ns. keeps_rules ns tail (parts_of left)) same) ∙ broken)

-- out of its range
pub number-bad : (numbers ranges : List Range) (range : Range) (tail : Tail) (left number others : List ℕ) → numbers ≡ range ∷ ranges → parts_of left ≡ number ∷ parts_of others → is_range_part range number ≡ false → IsFirstBad (keeps_rules numbers tail) left 1
number-bad numbers ranges range tail left number others same e wrong = subst (λ ns. IsFirstBad (keeps_rules ns tail) left 1) (sym same) (record {
  before = [];
  part = number;
  after = parts_of others;
  parts = e;
  good = refl;
  bad = λ more. ap (λ r. r && keeps_rules ranges tail more) wrong;
  place = sym (ap (λ d. 0 + 1 + cond ((d && is_in_range range (number_of (first_half number ++ codes ":1"))) && keeps_rules ranges tail []) (length number - length (second_half number)) 0) (colon-number (first_half number)));
})
