-- The first number of pairs that breaks a rule.
use Rattle.std.proofs.Common.{inl, inr, arith, codes, ◌≡◌, ℕ, ◌+◌, ◌-◌, ◌<◌, ◌≤◌, Bool, true, false, cond, ◌&&◌, nat_lt, nat_le, List, [], ◌∷◌, ◌++◌, length, refl, sym, ap, ◌∙◌, subst, append_assoc}
use Rattle.std.proofs.Math.Bool.{and-true, and-false}
use Rattle.std.proofs.lemmas.Bool.{and_parts, and_from, cases_Bool, eqb-true, le-leb, false≢true}
use Rattle.std.proofs.lemmas.List.{length-append}
use Rattle.wrp_rules.specs.Lines.{spaced}
use Rattle.wrp_grammar.specs.Numbers.{IsFirstBad, are_few_pairs, is_next_first, is_next_pair}
use Rattle.wrp_grammar.specs.Parts.{parts_of, number_of, is_index_part, is_from_one_part, is_colon, first_half, second_half, is_pair, pair_of, are_pair_parts}
use Rattle.wrp_grammar.proofs.FirstNumbers.{KeepsTo, keeps-more, keeps-bad}
use Rattle.wrp_grammar.proofs.PairLists.{go_up, go_up-start, few-parts}
use Rattle.wrp_grammar.proofs.Positions.{before-more, after-more}

-- another second number
other-second : (part second : List ℕ) → (first_half (first_half part ++ 58 ∷ second) ≡ first_half part) × (second_half (first_half part ++ 58 ∷ second) ≡ second)
other-second [] second = (refl, refl)
other-second (b ∷ part) second = elim (cases_Bool (is_colon b)) [
  | inl colon ↦
      subst (λ c. (first_half (first_half (c ∷ part) ++ 58 ∷ second) ≡ first_half (c ∷ part)) × (second_half (first_half (c ∷ part) ++ 58 ∷ second) ≡ second))
      (sym (eqb-true b 58 colon)) (refl, refl)
  | inr other ↦
      let rest = other-second part second in
      let whole : List ℕ = first_half part ++ 58 ∷ second in
      let more : first_half (b ∷ part) ≡ b ∷ first_half part = before-more is_colon b part other in (
        ap (λ half. first_half (half ++ 58 ∷ second)) more ∙ before-more is_colon b whole other ∙ ap (λ half. b ∷ half) rest.0 ∙ sym more,
        ap (λ half. second_half (half ++ 58 ∷ second)) more ∙ after-more is_colon b whole other ∙ rest.1,
      )
]

-- the next pair goes up where its first number does and its second is in range
next-pair : (most low room : ℕ) (part : List ℕ) (ps : List (List ℕ))
    → go_up most low room (part ∷ ps) ≡ (is_next_pair most low room part && go_up most (number_of (first_half part) + 1) (room - 1) ps)
next-pair most low room part ps =
    ap (λ b. b && go_up most (number_of (first_half part) + 1) (room - 1) ps)
    (swap (is_index_part (first_half part)) (is_from_one_part most (second_half part)) (nat_lt 0 room && nat_le low (number_of (first_half part))))
  where
    swap : (a b c : Bool) → ((a && b) && c) ≡ ((a && c) && b)
    swap true true c = sym (and-true c)
    swap true false c = sym (and-false c)
    swap false b c = refl

-- with 1 for its second number a pair goes up where its first number does
with-one : (most low room : ℕ) (part : List ℕ) → 0 < most → go_up most low room ((first_half part ++ codes ":1") ∷ []) ≡ is_next_first low room part
with-one most low room part some =
    let halves = other-second part (codes "1") in
    next-pair most low room (first_half part ++ codes ":1") []
    ∙ ap (λ half. (is_next_first low room (first_half part ++ codes ":1") && is_from_one_part most half) && true) halves.1
    ∙ ap (λ b. (is_next_first low room (first_half part ++ codes ":1") && b) && true) (le-leb 1 most (omega arith))
    ∙ and-true (is_next_first low room (first_half part ++ codes ":1") && true)
    ∙ and-true (is_next_first low room (first_half part ++ codes ":1"))
    ∙ ap (λ half. is_index_part half && (nat_lt 0 room && nat_le low (number_of half))) halves.0

pub pairs-start : (most room : ℕ) (line : List ℕ) → KeepsTo (are_few_pairs most room) (go_up most 0 room) line line
pairs-start most room line = record { before = []; parts = refl; same = λ ps. sym (go_up-start most room ps); size = omega arith }

pub pairs-more : (most all low room next less : ℕ) (line left part others : List ℕ) → KeepsTo (are_few_pairs most all) (go_up most low room) line left → parts_of left ≡ part ∷ parts_of others → length left ≡ length part + length others + 1
    → is_next_pair most low room part ≡ true → next ≡ number_of (first_half part) + 1 → less ≡ room - 1 → KeepsTo (are_few_pairs most all) (go_up most next less) line others
pairs-more most all low room next less line left part others h e size good is_next is_less =
    keeps-more (are_few_pairs most all) (go_up most low room) (go_up most next less) line left part others h e size
    (λ ps. next-pair most low room part ps
    ∙ ap (λ b. b && go_up most (number_of (first_half part) + 1) (room - 1) ps) good
    ∙ ap (λ n. go_up most n (room - 1) ps) (sym is_next)
    ∙ ap (λ n. go_up most next n ps) (sym is_less))

pub pairs-bad : (most all low room : ℕ) (line left part others : List ℕ) (inner at : ℕ) → KeepsTo (are_few_pairs most all) (go_up most low room) line left → parts_of left ≡ part ∷ parts_of others → 0 < most
    → is_next_pair most low room part ≡ false → inner ≡ cond (is_next_first low room part) (length part - length (second_half part)) 0 → at ≡ length line - length left + 1 + inner
    → IsFirstBad (are_few_pairs most all) line at
pairs-bad most all low room line left part others inner at h e some bad place where_at =
    keeps-bad (are_few_pairs most all) (go_up most low room) line left part others inner at h e refl
    (λ more. next-pair most low room part more ∙ ap (λ b. b && go_up most (number_of (first_half part) + 1) (room - 1) more) bad)
    (place ∙ ap (λ b. cond b (length part - length (second_half part)) 0) (sym (with-one most low room part some)))
    where_at

-- fewer pairs go up too
go_up-front : (most low room : ℕ) (xs ys : List (List ℕ)) → go_up most low room (xs ++ ys) ≡ true → go_up most low room xs ≡ true
go_up-front most low room [] ys h = refl
go_up-front most low room (x ∷ xs) ys h =
    let both = and_parts (is_pair most x && (nat_lt 0 room && nat_le low (pair_of x).0)) (go_up most ((pair_of x).0 + 1) (room - 1) (xs ++ ys)) h in
    and_from (is_pair most x && (nat_lt 0 room && nat_le low (pair_of x).0)) (go_up most ((pair_of x).0 + 1) (room - 1) xs) both.0
    (go_up-front most ((pair_of x).0 + 1) (room - 1) xs ys both.1)

pairs-front : (most : ℕ) (xs ys : List (List ℕ)) → are_pair_parts most (xs ++ ys) ≡ true → are_pair_parts most xs ≡ true
pairs-front most xs ys h =
    let room : ℕ = length (xs ++ ys) in
    let all = go_up-start most room (xs ++ ys) ∙ and_from (are_pair_parts most (xs ++ ys)) (nat_le (length (xs ++ ys)) room) h (le-leb (length (xs ++ ys)) room (omega arith)) in
    (and_parts (are_pair_parts most xs) (nat_le (length xs) room) (sym (go_up-start most room xs) ∙ go_up-front most 0 room xs ys all)).0

-- a line has room for all of its pairs
pub pairs-room : (most : ℕ) (line : List ℕ) (at : ℕ) → IsFirstBad (are_few_pairs most (length line)) line at → IsFirstBad (are_pair_parts most) line at
pairs-room most line at h = record {
  before = h.before;
  part = h.part;
  after = h.after;
  parts = h.parts;
  good = (and_parts (are_pair_parts most h.before) (nat_le (length h.before) (length line)) h.good).0;
  bad = never;
  place = h.place ∙ ap (λ b. length (spaced [] h.before) + 1 + cond b (length h.part - length (second_half h.part)) 0) (fits (first_half h.part ++ codes ":1"));
}
  where
    fits : (part : List ℕ) → are_few_pairs most (length line) (h.before ++ part ∷ []) ≡ are_pair_parts most (h.before ++ part ∷ [])
    fits part =
        let few : length (h.before ++ part ∷ []) ≤ length line =
        omega (arith, few-parts line, ap length h.parts, length-append h.before (h.part ∷ h.after), length-append h.before (part ∷ [])) in
        ap (λ b. are_pair_parts most (h.before ++ part ∷ []) && b) (le-leb (length (h.before ++ part ∷ [])) (length line) few) ∙ and-true (are_pair_parts most (h.before ++ part ∷ []))

    never : (more : List (List ℕ)) → are_pair_parts most (h.before ++ h.part ∷ more) ≡ false
    never more = elim (cases_Bool (are_pair_parts most (h.before ++ h.part ∷ more))) [
      | inl here ↦ absurd (false≢true (sym (h.bad []) ∙ fits h.part ∙ pairs-front most (h.before ++ h.part ∷ []) more (ap (are_pair_parts most) (append_assoc h.before (h.part ∷ []) more) ∙ here)))
      | inr other ↦ other
    ]
