-- How far a text goes as one or more digits do, and behind them as a text of a shape.
use Rattle.std.proofs.Common.{inl, inr, arith, ◌≡◌, ℕ, ◌+◌, ◌<◌, ◌≤◌, zero, suc, Bool, true, false, cond, ◌&&◌, ◌==◌, not, nat_lt, get_or, List, [], ◌∷◌, ◌++◌, length, take, drop, refl, sym, ap, ◌∙◌, subst, add-one, drop-cons}
use Rattle.std.proofs.lemmas.Bool.{and_parts, and_from, cases_Bool, cases_lt, lt-ltb, not-true, false≢true}
use Rattle.std.proofs.lemmas.Bool.Decides.{nat_tests}
use Rattle.std.proofs.lemmas.List.{drop_all}
use Rattle.std.specs.Char.{is_ascii_digit}
use Rattle.std.specs.List.{list_all, prefix_len}
use Rattle.wrp_grammar.specs.Fronts.{IsLongestFront}
use Rattle.wrp_grammar.specs.Parts.{is_digits}
use Rattle.wrp_grammar.proofs.Fronts.{front-at, front-same, front-cons, front-end, front-stop}
use Rattle.wrp_grammar.proofs.Spacing.{is_solid, digits-solid}

-- the number of digits with which a text begins
abbrev pub digits_front : List ℕ → ℕ
digits_front text = prefix_len is_ascii_digit text

front-more : (b : ℕ) (t : List ℕ) → is_ascii_digit b ≡ true → digits_front (b ∷ t) ≡ suc (digits_front t)
front-more b t here = ap (λ d. cond d (1 + digits_front t) 0) here ∙ omega arith

front-none : (b : ℕ) (t : List ℕ) → is_ascii_digit b ≡ false → digits_front (b ∷ t) ≡ 0
front-none b t other = ap (λ d. cond d (1 + digits_front t) 0) other

-- as many digits as are counted
pub digits-counted : (t : List ℕ) (d : ℕ) → ((k : ℕ) → k < d → is_ascii_digit (get_or t k 0) ≡ true) → d ≤ length t → (d < length t → is_ascii_digit (get_or t d 0) ≡ false) → d ≡ digits_front t
digits-counted [] d before within here = omega arith
digits-counted (b ∷ t) zero before within here = sym (front-none b t (here (omega arith)))
digits-counted (b ∷ t) (suc d) before within here =
    let rest = digits-counted t d (λ k lt. before (suc k) (omega arith)) (omega arith) (λ lt. here (omega arith)) in
    omega (arith, rest, front-more b t (before 0 (omega arith)))

-- digits, maybe none, and then a text of a shape; and one or more digits before it
abbrev pub after_digits : (List ℕ → Bool) → List ℕ → Bool
after_digits rest [] = rest []
after_digits rest (b ∷ t) = cond (is_ascii_digit b) (after_digits rest t) (rest (b ∷ t))

abbrev pub digits_then : (List ℕ → Bool) → List ℕ → Bool
digits_then rest [] = false
digits_then rest (b ∷ t) = is_ascii_digit b && after_digits rest t

-- a shape that has a text, and none that begins with a digit
pub record IsRest (rest : List ℕ → Bool) : Type 0 where
  pub some : List ℕ
  pub whole : rest some ≡ true
  pub apart : (b : ℕ) (t : List ℕ) → is_ascii_digit b ≡ true → rest (b ∷ t) ≡ false

abbrev is_plain : List ℕ → Bool
is_plain [] = true
is_plain (b ∷ t) = not (is_ascii_digit b)

after-plain : (rest : List ℕ → Bool) (t : List ℕ) → is_plain t ≡ true → after_digits rest t ≡ rest t
after-plain rest [] h = refl
after-plain rest (b ∷ t) h = ap (λ d. cond d (after_digits rest t) (rest (b ∷ t))) (not-true (is_ascii_digit b) h)

rest-plain : (rest : List ℕ → Bool) → IsRest rest → (t : List ℕ) → rest t ≡ true → is_plain t ≡ true
rest-plain rest some [] h = refl
rest-plain rest some (b ∷ t) h = elim (cases_Bool (is_ascii_digit b)) [
  | inl here ↦ absurd (false≢true (sym (some.apart b t here) ∙ h))
  | inr other ↦ ap not other
]

rest-whole : (rest : List ℕ → Bool) → IsRest rest → (t : List ℕ) → rest t ≡ true → after_digits rest t ≡ true
rest-whole rest some t h = after-plain rest t (rest-plain rest some t h) ∙ h

plain-front : (rest : List ℕ → Bool) → IsRest rest → (text : List ℕ) (at : ℕ) → is_plain text ≡ true → IsLongestFront rest text at → IsLongestFront (after_digits rest) text at
plain-front rest some text at plain h = record {
  within = h.within;
  more = h.more;
  begins = rest-whole rest some (take at text ++ h.more) h.begins;
  longest = longer text plain h;
}
  where
    longer : (text : List ℕ) → is_plain text ≡ true → IsLongestFront rest text at → (n : ℕ) (others : List ℕ) → n ≤ length text → after_digits rest (take n text ++ others) ≡ true → n ≤ at
    longer text plain h zero others p e = omega arith
    longer [] plain h (suc n) others p e = omega arith
    longer (b ∷ text) plain h (suc n) others p e = h.longest (suc n) others p (sym (after-plain rest (b ∷ take n text ++ others) plain) ∙ e)

after-front : (rest : List ℕ → Bool) → IsRest rest → (text : List ℕ) (k : ℕ) → IsLongestFront rest (drop (digits_front text) text) k → IsLongestFront (after_digits rest) text (digits_front text + k)
after-front rest some [] k h = front-at (after_digits rest) [] k (0 + k) (plain-front rest some [] k refl h) (omega arith)
after-front rest some (b ∷ text) k h = elim (cases_Bool (is_ascii_digit b)) [
  | inl here ↦
      let size = front-more b text here in
      front-at (after_digits rest) (b ∷ text) (suc (digits_front text + k)) (digits_front (b ∷ text) + k)
      (front-cons (after_digits rest) b text (digits_front text + k)
      (front-same (after_digits rest) (λ t. after_digits rest (b ∷ t)) text (digits_front text + k) (λ t. sym (ap (λ d. cond d (after_digits rest t) (rest (b ∷ t))) here))
      (after-front rest some text k (subst (λ n. IsLongestFront rest (drop n (b ∷ text)) k) size h))))
      (omega (arith, size))
  | inr other ↦
      let size = front-none b text other in
      front-at (after_digits rest) (b ∷ text) k (digits_front (b ∷ text) + k)
      (plain-front rest some (b ∷ text) k (ap not other) (subst (λ n. IsLongestFront rest (drop n (b ∷ text)) k) size h))
      (omega (arith, size))
]

pub then-front : (rest : List ℕ → Bool) → IsRest rest → (text : List ℕ) (d k : ℕ) → d ≡ digits_front text → 0 < d → IsLongestFront rest (drop d text) k → IsLongestFront (digits_then rest) text (d + k)
then-front rest some [] d k e more h = absurd (omega arith)
then-front rest some (b ∷ text) d k e more h = elim (cases_Bool (is_ascii_digit b)) [
  | inl here ↦
      let size = e ∙ front-more b text here in
      front-at (digits_then rest) (b ∷ text) (suc (digits_front text + k)) (d + k)
      (front-cons (digits_then rest) b text (digits_front text + k)
      (front-same (after_digits rest) (λ t. digits_then rest (b ∷ t)) text (digits_front text + k) (λ t. sym (ap (λ d. d && after_digits rest t) here))
      (after-front rest some text k (subst (λ n. IsLongestFront rest (drop n (b ∷ text)) k) size h))))
      (omega (arith, size))
  | inr other ↦ absurd (omega (arith, e, front-none b text other))
]

pub then-none : (rest : List ℕ → Bool) → IsRest rest → (text : List ℕ) → digits_front text ≡ 0 → IsLongestFront (digits_then rest) text 0
then-none rest some [] e = front-end (digits_then rest) (48 ∷ some.some) (rest-whole rest some some.some some.whole)
then-none rest some (b ∷ text) e = elim (cases_Bool (is_ascii_digit b)) [
  | inl here ↦ absurd (omega (arith, e, front-more b text here))
  | inr other ↦ front-stop (digits_then rest) (48 ∷ some.some) b text (rest-whole rest some some.some some.whole) (λ t. ap (λ d. d && after_digits rest t) other)
]

-- nothing behind the digits
abbrev pub is_end : List ℕ → Bool
is_end [] = true
is_end (b ∷ t) = false

pub end-front : (text : List ℕ) → IsLongestFront is_end text 0
end-front [] = front-end is_end [] refl
end-front (b ∷ text) = front-stop is_end [] b text refl (λ t. refl)

pub digits-one : (xs : List ℕ) → is_digits xs ≡ true → list_all is_ascii_digit xs ≡ true
digits-one xs h = (and_parts (nat_lt 0 (length xs)) (list_all is_ascii_digit xs) h).1

pub digits-more : (b : ℕ) (t : List ℕ) → is_digits (b ∷ t) ≡ list_all is_ascii_digit (b ∷ t)
digits-more b t = ap (λ some. some && list_all is_ascii_digit (b ∷ t)) (lt-ltb 0 (length (b ∷ t)) (omega arith))

pub cond-and : (a x : Bool) → cond a x false ≡ (a && x)
cond-and true x = refl
cond-and false x = refl

end-same : (t : List ℕ) → after_digits is_end t ≡ list_all is_ascii_digit t
end-same [] = refl
end-same (b ∷ t) = cond-and (is_ascii_digit b) (after_digits is_end t) ∙ ap (λ x. is_ascii_digit b && x) (end-same t)

digits-same : (t : List ℕ) → digits_then is_end t ≡ is_digits t
digits-same [] = refl
digits-same (b ∷ t) = ap (λ x. is_ascii_digit b && x) (end-same t) ∙ sym (digits-more b t)

pub digits-front : (part : List ℕ) (d : ℕ) → d ≡ digits_front part → IsLongestFront is_digits part d
digits-front part d e = front-same (digits_then is_end) is_digits part d digits-same (front d e)
  where
    rest : IsRest is_end
    rest = record { some = []; whole = refl; apart = λ b t h. refl }

    front : (d : ℕ) → d ≡ digits_front part → IsLongestFront (digits_then is_end) part d
    front zero e = then-none is_end rest part (sym e)
    front (suc d) e = front-at (digits_then is_end) part (suc d + 0) (suc d) (then-front is_end rest part (suc d) 0 e (omega arith) (end-front (drop (suc d) part))) (omega arith)

-- a mark, and behind it a text of a shape
abbrev pub mark_then : (ℕ → Bool) → (List ℕ → Bool) → List ℕ → Bool
mark_then is_mark behind [] = false
mark_then is_mark behind (b ∷ t) = is_mark b && behind t

-- some mark, which is no digit and no space, and a text of the shape
pub record IsMark (is_mark : ℕ → Bool) (behind : List ℕ → Bool) : Type 0 where
  pub mark : ℕ
  pub marks : is_mark mark ≡ true
  pub some : List ℕ
  pub whole : behind some ≡ true
  pub apart : (b : ℕ) → is_ascii_digit b ≡ true → is_mark b ≡ false

mark-rest : (is_mark : ℕ → Bool) (behind : List ℕ → Bool) → IsMark is_mark behind → IsRest (mark_then is_mark behind)
mark-rest is_mark behind m = record {
  some = m.mark ∷ m.some;
  whole = and_from (is_mark m.mark) (behind m.some) m.marks m.whole;
  apart = λ b t h. ap (λ x. x && behind t) (m.apart b h);
}

next : (t : List ℕ) (d : ℕ) → d < length t → drop d t ≡ get_or t d 0 ∷ drop (d + 1) t
next t d lt = rw (add-one d) (drop-cons t d 0 lt)

-- the digits end before a mark, and where they don't
pub mark-there : (is_mark : ℕ → Bool) (behind : List ℕ → Bool) → IsMark is_mark behind → (t : List ℕ) (d k : ℕ) → d ≡ digits_front t → 0 < d → d < length t → is_mark (get_or t d 0) ≡ true → IsLongestFront behind (drop (d + 1) t) k
    → IsLongestFront (digits_then (mark_then is_mark behind)) t (d + suc k)
mark-there is_mark behind m t d k e some lt here h =
    let rest = mark_then is_mark behind in
    let b = get_or t d 0 in
    then-front rest (mark-rest is_mark behind m) t d (suc k) e some
    (subst (λ text. IsLongestFront rest text (suc k)) (sym (next t d lt))
    (front-cons rest b (drop (d + 1) t) k (front-same behind (λ u. rest (b ∷ u)) (drop (d + 1) t) k (λ u. sym (ap (λ x. x && behind u) here)) h)))

pub mark-not : (is_mark : ℕ → Bool) (behind : List ℕ → Bool) → IsMark is_mark behind → (t : List ℕ) (d : ℕ) → d ≡ digits_front t → (0 < d → d < length t → is_mark (get_or t d 0) ≡ true → ⊥)
    → IsLongestFront (digits_then (mark_then is_mark behind)) t d
mark-not is_mark behind m t zero e never = then-none (mark_then is_mark behind) (mark-rest is_mark behind m) t (sym e)
mark-not is_mark behind m t (suc d) e never =
    let some = mark-rest is_mark behind m in
    front-at (digits_then rest) t (suc d + 0) (suc d) (then-front rest some t (suc d) 0 e (omega arith) (stop some)) (omega arith)
  where
    rest : List ℕ → Bool
    rest = mark_then is_mark behind

    stop : IsRest rest → IsLongestFront rest (drop (suc d) t) 0
    stop some = elim (cases_lt (suc d) (length t)) [
      | inl lt ↦ subst (λ text. IsLongestFront rest text 0) (sym (next t (suc d) lt))
          (front-stop rest some.some (get_or t (suc d) 0) (drop (suc d + 1) t) some.whole (λ u. ap (λ x. x && behind u) (other lt)))
      | inr ge ↦ subst (λ text. IsLongestFront rest text 0) (sym (drop_all (suc d) t (omega arith))) (front-end rest some.some some.whole)
    ]
      where
        other : suc d < length t → is_mark (get_or t (suc d) 0) ≡ false
        other lt = elim (cases_Bool (is_mark (get_or t (suc d) 0))) [
          | inl here ↦ absurd (never (omega arith) lt here)
          | inr none ↦ none
        ]

-- no space stands in such a text
digit-solid : (b : ℕ) → is_ascii_digit b ≡ true → not (b == 32) ≡ true
digit-solid b h = grind (arith, nat_tests)

after-solid : (rest : List ℕ → Bool) → ((t : List ℕ) → rest t ≡ true → is_solid t ≡ true) → (t : List ℕ) → after_digits rest t ≡ true → is_solid t ≡ true
after-solid rest solid [] h = refl
after-solid rest solid (b ∷ t) h = elim (cases_Bool (is_ascii_digit b)) [
  | inl here ↦ and_from (not (b == 32)) (is_solid t) (digit-solid b here) (after-solid rest solid t (sym (ap (λ d. cond d (after_digits rest t) (rest (b ∷ t))) here) ∙ h))
  | inr other ↦ solid (b ∷ t) (sym (ap (λ d. cond d (after_digits rest t) (rest (b ∷ t))) other) ∙ h)
]

pub then-solid : (rest : List ℕ → Bool) → ((t : List ℕ) → rest t ≡ true → is_solid t ≡ true) → (t : List ℕ) → digits_then rest t ≡ true → is_solid t ≡ true
then-solid rest solid [] h = refl
then-solid rest solid (b ∷ t) h =
    let both = and_parts (is_ascii_digit b) (after_digits rest t) h in
    and_from (not (b == 32)) (is_solid t) (digit-solid b both.0) (after-solid rest solid t both.1)

pub digits_part-solid : (t : List ℕ) → is_digits t ≡ true → is_solid t ≡ true
digits_part-solid t h = digits-solid t (digits-one t h)

pub mark-solid : (is_mark : ℕ → Bool) (behind : List ℕ → Bool) → ((b : ℕ) → is_mark b ≡ true → not (b == 32) ≡ true) → ((t : List ℕ) → behind t ≡ true → is_solid t ≡ true)
    → (t : List ℕ) → digits_then (mark_then is_mark behind) t ≡ true → is_solid t ≡ true
mark-solid is_mark behind apart solid t h = then-solid (mark_then is_mark behind) rest t h
  where
    rest : (t : List ℕ) → mark_then is_mark behind t ≡ true → is_solid t ≡ true
    rest [] h = refl
    rest (b ∷ t) h =
        let both = and_parts (is_mark b) (behind t) h in
        and_from (not (b == 32)) (is_solid t) (apart b both.0) (solid t both.1)
