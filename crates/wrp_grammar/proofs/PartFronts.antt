-- The longest front of one part: a step, a pair, a label.
use Rattle.std.proofs.Common.{inl, inr, arith, ◌≡◌, ℕ, ◌+◌, ◌-◌, ◌<◌, ◌≤◌, zero, suc, Bool, true, false, cond, ◌&&◌, ◌||◌, ◌==◌, not, nat_lt, get_or, slice_index, List, [], ◌∷◌, ◌++◌, length, take, drop, refl, sym, ap, ◌∙◌, subst}
use Rattle.std.proofs.lemmas.Bool.{cases_Bool, eqb-true, ne_eqb}
use Rattle.std.proofs.Math.Bool.{and-false, or-true}
use Rattle.std.proofs.lemmas.Bool.Decides.{nat_tests}
use Rattle.std.specs.Char.{is_ascii_digit}
use Rattle.std.specs.List.{list_all}
use Rattle.std.specs.Str.{bytes_eq}
use Rattle.wrp_grammar.specs.Fronts.{IsLongestFront}
use Rattle.wrp_grammar.specs.Parts.{is_digits, is_sign, sign_of, street_part, is_step_shape, is_colon, first_half, second_half, is_pair_shape}
use Rattle.wrp_grammar.specs.Shapes.{is_slash, is_label}
use Rattle.wrp_grammar.proofs.Fronts.{front-at, front-same, front-cons, front-end, front-stop}
use Rattle.wrp_grammar.proofs.DigitFronts.{digits_front, after_digits, digits_then, is_end, cond-and, end-front, mark_then, IsMark, mark-there, mark-not, mark-solid, digits-front, digits-more, digits_part-solid}
use Rattle.wrp_grammar.proofs.Positions.{before-here, after-here, before-more, after-more}
use Rattle.wrp_grammar.proofs.Spacing.{is_solid}

and-swap : (a b c : Bool) → (a && (b && c)) ≡ (b && (a && c))
and-swap true true c = refl
and-swap true false c = refl
and-swap false true c = refl
and-swap false false c = refl

and-joined : (a b c : Bool) → (a && (b && c)) ≡ ((a && b) && c)
and-joined true b c = refl
and-joined false b c = refl

-- ---- steps: digits, and a sign

abbrev is_step_text : List ℕ → Bool
is_step_text text = digits_then (mark_then is_sign is_end) text

sign-apart : (b : ℕ) → is_ascii_digit b ≡ true → is_sign b ≡ false
sign-apart b h = grind (arith, nat_tests)

step-mark : IsMark is_sign is_end
step-mark = record { mark = 43; marks = refl; some = []; whole = refl; apart = sign-apart }

pub sign-more : (b c : ℕ) (t : List ℕ) → sign_of (b ∷ c ∷ t) ≡ sign_of (c ∷ t)
sign-more b c t =
    let size : length (b ∷ c ∷ t) - 1 ≡ suc (length (c ∷ t) - 1) = omega arith in
    ap (slice_index (b ∷ c ∷ t)) size

street-more : (b c : ℕ) (t : List ℕ) → street_part (b ∷ c ∷ t) ≡ b ∷ street_part (c ∷ t)
street-more b c t =
    let size : length (b ∷ c ∷ t) - 1 ≡ suc (length (c ∷ t) - 1) = omega arith in
    ap (λ k. take k (b ∷ c ∷ t)) size

-- the same shape, read from its end
step-end-same : (b : ℕ) (t : List ℕ) → after_digits (mark_then is_sign is_end) (b ∷ t) ≡ (is_sign (sign_of (b ∷ t)) && list_all is_ascii_digit (street_part (b ∷ t)))
step-end-same b [] = elim (cases_Bool (is_ascii_digit b)) [
  | inl here ↦ ap (λ d. cond d false (is_sign b && true)) here ∙ sym (ap (λ s. s && true) (sign-apart b here))
  | inr other ↦ ap (λ d. cond d false (is_sign b && true)) other
]
step-end-same b (c ∷ t) =
    ap (cond (is_ascii_digit b) (after_digits (mark_then is_sign is_end) (c ∷ t))) (and-false (is_sign b))
    ∙ cond-and (is_ascii_digit b) (after_digits (mark_then is_sign is_end) (c ∷ t))
    ∙ ap (λ x. is_ascii_digit b && x) (step-end-same c t)
    ∙ and-swap (is_ascii_digit b) (is_sign (sign_of (c ∷ t))) (list_all is_ascii_digit (street_part (c ∷ t)))
    ∙ ap (λ sign. is_sign sign && (is_ascii_digit b && list_all is_ascii_digit (street_part (c ∷ t)))) (sym (sign-more b c t))
    ∙ ap (λ street. is_sign (sign_of (b ∷ c ∷ t)) && list_all is_ascii_digit street) (sym (street-more b c t))

step-same : (t : List ℕ) → is_step_text t ≡ is_step_shape t
step-same [] = refl
step-same (b ∷ []) = and-false (is_ascii_digit b) ∙ sym (and-false (is_sign b))
step-same (b ∷ c ∷ t) =
    ap (λ x. is_ascii_digit b && x) (step-end-same c t)
    ∙ and-swap (is_ascii_digit b) (is_sign (sign_of (c ∷ t))) (list_all is_ascii_digit (street_part (c ∷ t)))
    ∙ ap (λ sign. is_sign sign && (is_ascii_digit b && list_all is_ascii_digit (street_part (c ∷ t)))) (sym (sign-more b c t))
    ∙ ap (λ x. is_sign (sign_of (b ∷ c ∷ t)) && x) (sym (digits-more b (street_part (c ∷ t))))
    ∙ ap (λ street. is_sign (sign_of (b ∷ c ∷ t)) && is_digits street) (sym (street-more b c t))

pub step-there : (t : List ℕ) (d : ℕ) → d ≡ digits_front t → 0 < d → d < length t → is_sign (get_or t d 0) ≡ true → IsLongestFront is_step_shape t (d + 1)
step-there t d e some lt here = front-same is_step_text is_step_shape t (d + 1) step-same (mark-there is_sign is_end step-mark t d 0 e some lt here (end-front (drop (d + 1) t)))

pub step-not : (t : List ℕ) (d : ℕ) → d ≡ digits_front t → (0 < d → d < length t → is_sign (get_or t d 0) ≡ true → ⊥) → IsLongestFront is_step_shape t d
step-not t d e never = front-same is_step_text is_step_shape t d step-same (mark-not is_sign is_end step-mark t d e never)

pub step-solid : (t : List ℕ) → is_step_shape t ≡ true → is_solid t ≡ true
step-solid t h = mark-solid is_sign is_end apart (λ u k. solid u k) t (step-same t ∙ h)
  where
    apart : (b : ℕ) → is_sign b ≡ true → not (b == 32) ≡ true
    apart b h = grind (arith, nat_tests)

    solid : (t : List ℕ) → is_end t ≡ true → is_solid t ≡ true
    solid [] h = refl
    solid (b ∷ t) h = cc

-- ---- pairs: digits, a colon, and digits

abbrev is_pair_text : List ℕ → Bool
is_pair_text text = digits_then (mark_then is_colon is_digits) text

colon-apart : (b : ℕ) → is_ascii_digit b ≡ true → is_colon b ≡ false
colon-apart b h = grind (arith, nat_tests)

pair-mark : IsMark is_colon is_digits
pair-mark = record { mark = 58; marks = refl; some = 48 ∷ []; whole = refl; apart = colon-apart }

digit-not : (b : ℕ) → is_colon b ≡ true → is_ascii_digit b ≡ false
digit-not b h = grind (arith, nat_tests)

-- the same shape, cut at the colon
pair-end-same : (t : List ℕ) → after_digits (mark_then is_colon is_digits) t ≡ (list_all is_ascii_digit (first_half t) && is_digits (second_half t))
pair-end-same [] = refl
pair-end-same (b ∷ t) = elim (cases_Bool (is_colon b)) [
  | inl here ↦
      ap (λ d. cond d (after_digits (mark_then is_colon is_digits) t) (is_colon b && is_digits t)) (digit-not b here)
      ∙ ap (λ c. c && is_digits t) here
      ∙ sym (ap (λ half. list_all is_ascii_digit half && is_digits (second_half (b ∷ t))) (before-here is_colon b t here) ∙ ap is_digits (after-here is_colon b t here))
  | inr other ↦
      ap (λ c. cond (is_ascii_digit b) (after_digits (mark_then is_colon is_digits) t) (c && is_digits t)) other
      ∙ cond-and (is_ascii_digit b) (after_digits (mark_then is_colon is_digits) t)
      ∙ ap (λ x. is_ascii_digit b && x) (pair-end-same t)
      ∙ and-joined (is_ascii_digit b) (list_all is_ascii_digit (first_half t)) (is_digits (second_half t))
      ∙ ap (λ half. list_all is_ascii_digit half && is_digits (second_half t)) (sym (before-more is_colon b t other))
      ∙ ap (λ half. list_all is_ascii_digit (first_half (b ∷ t)) && is_digits half) (sym (after-more is_colon b t other))
]

pair-same : (t : List ℕ) → is_pair_text t ≡ is_pair_shape t
pair-same [] = refl
pair-same (b ∷ t) = elim (cases_Bool (is_colon b)) [
  | inl here ↦
      ap (λ d. d && after_digits (mark_then is_colon is_digits) t) (digit-not b here)
      ∙ sym (ap (λ half. is_digits half && is_digits (second_half (b ∷ t))) (before-here is_colon b t here))
  | inr other ↦
      ap (λ x. is_ascii_digit b && x) (pair-end-same t)
      ∙ and-joined (is_ascii_digit b) (list_all is_ascii_digit (first_half t)) (is_digits (second_half t))
      ∙ ap (λ x. x && is_digits (second_half t)) (sym (digits-more b (first_half t)))
      ∙ ap (λ half. is_digits half && is_digits (second_half t)) (sym (before-more is_colon b t other))
      ∙ ap (λ half. is_digits (first_half (b ∷ t)) && is_digits half) (sym (after-more is_colon b t other))
]

pub pair-there : (t : List ℕ) (d k place : ℕ) → d ≡ digits_front t → 0 < d → d < length t → get_or t d 0 ≡ 58 → k ≡ digits_front (drop (d + 1) t) → place ≡ d + 1 + k → IsLongestFront is_pair_shape t place
pair-there t d k place e some lt here second at =
    front-at is_pair_shape t (d + suc k) place
    (front-same is_pair_text is_pair_shape t (d + suc k) pair-same
    (mark-there is_colon is_digits pair-mark t d k e some lt (ap is_colon here) (digits-front (drop (d + 1) t) k second)))
    (omega (arith, at))

pub pair-not : (t : List ℕ) (d : ℕ) → d ≡ digits_front t → (0 < d → d < length t → get_or t d 0 ≡ 58 → ⊥) → IsLongestFront is_pair_shape t d
pair-not t d e never = front-same is_pair_text is_pair_shape t d pair-same (mark-not is_colon is_digits pair-mark t d e (λ some lt here. never some lt (eqb-true (get_or t d 0) 58 here)))

pub pair-solid : (t : List ℕ) → is_pair_shape t ≡ true → is_solid t ≡ true
pair-solid t h = mark-solid is_colon is_digits apart digits_part-solid t (pair-same t ∙ h)
  where
    apart : (b : ℕ) → is_colon b ≡ true → not (b == 32) ≡ true
    apart b h = grind (arith, nat_tests)

-- ---- labels: a slash, or digits

pub label-none : (part : List ℕ) → length part ≡ 0 → IsLongestFront is_label part 0
label-none [] e = front-end is_label (48 ∷ []) refl
label-none (b ∷ text) e = absurd (omega arith)

pub label-slash : (part text : List ℕ) (b : ℕ) → part ≡ b ∷ text → b ≡ 47 → IsLongestFront is_label part 1
label-slash part text b e slash = subst (λ t. IsLongestFront is_label t 1) (sym (e ∙ ap (λ c. c ∷ text) slash)) (front-cons is_label 47 text 0 (after text))
  where
    after : (text : List ℕ) → IsLongestFront (λ t. is_label (47 ∷ t)) text 0
    after [] = front-end (λ t. is_label (47 ∷ t)) [] refl
    after (c ∷ text) = front-stop (λ t. is_label (47 ∷ t)) [] c text refl (λ t. and-false (nat_lt 0 (length (47 ∷ c ∷ t))))

pub label-number : (part text : List ℕ) (b place : ℕ) → part ≡ b ∷ text → (b ≡ 47 → ⊥) → place ≡ digits_front part → IsLongestFront is_label part place
label-number part text b place e other same = subst (λ t. IsLongestFront is_label t place) (sym e) number
  where
    h : IsLongestFront is_digits (b ∷ text) place
    h = subst (λ t. IsLongestFront is_digits t place) e (digits-front part place same)

    number : IsLongestFront is_label (b ∷ text) place
    number = record {
      within = h.within;
      more = h.more;
      begins = ap (λ d. is_slash (take place (b ∷ text) ++ h.more) || d) h.begins ∙ or-true (is_slash (take place (b ∷ text) ++ h.more));
      longest = longer;
    }
      where
        longer : (n : ℕ) (others : List ℕ) → n ≤ length (b ∷ text) → is_label (take n (b ∷ text) ++ others) ≡ true → n ≤ place
        longer zero others p k = omega arith
        longer (suc n) others p k = h.longest (suc n) others p (sym (ap (λ s. (s && bytes_eq (take n text ++ others) []) || is_digits (b ∷ take n text ++ others)) (ne_eqb b 47 other)) ∙ k)
