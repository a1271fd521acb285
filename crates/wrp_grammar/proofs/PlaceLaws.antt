-- A line leaves its shapes in one place, and in one place the first number stands that breaks a rule.
use Rattle.std.proofs.Common.{arith, Some, None, is_some, ◌≡◌, ℕ, ◌+◌, ◌<◌, zero, suc, Bool, true, false, cond, not, ◌&&◌, ◌||◌, nat_eq, get_or, List, [], ◌∷◌, ◌++◌, length, drop, refl, sym, ap, ◌∙◌, subst}
use Rattle.std.proofs.Math.Bool.{and-false}
use Rattle.std.proofs.lemmas.Bool.{and_parts, eq-eqb, false≢true}
use Rattle.std.proofs.lemmas.Bool.Decides.{Decides-eqb}
use Rattle.std.proofs.lemmas.List.{append_cancel_left}
use Rattle.std.proofs.lemmas.Slice.Eq.{starts_is}
use Rattle.std.specs.List.{list_all, starts_with}
use Rattle.wrp_rules.specs.declared.layout.Kind.{Kind}
use Rattle.wrp_rules.specs.Layouts.{layout_of}
use Rattle.wrp_rules.specs.Lines.{spaced}
use Rattle.wrp_grammar.specs.Fronts.{IsLongestFront, IsOnePlace}
use Rattle.wrp_grammar.specs.Numbers.{keeps_rules, place_in, is_right_behind, is_right_line, IsFirstBad, IsFirstBadOf, IsFirstBadNumber}
use Rattle.wrp_grammar.specs.Spelling.{content_of_parts, content_in}
use Rattle.wrp_grammar.specs.Parts.{parts_of}
use Rattle.wrp_grammar.specs.Shapes.{goes_on_in}
use Rattle.wrp_grammar.specs.Words.{are_apart, words_are_apart}

pub one-front : (shape : List ℕ → Bool) (text : List ℕ) → IsOnePlace (IsLongestFront shape text)
one-front shape text m n h k = omega (arith, h.longest n k.more k.within k.begins, k.longest m h.more h.within h.begins)

-- a list is cut in one way behind what keeps rules and before what breaks them, whatever follows
one-cut : (keep : List (List ℕ) → Bool) (xs ys vs us : List (List ℕ)) (x y : List ℕ) → xs ++ x ∷ vs ≡ ys ++ y ∷ us → keep xs ≡ true → keep ys ≡ true
    → ((more : List (List ℕ)) → keep (xs ++ x ∷ more) ≡ false) → ((more : List (List ℕ)) → keep (ys ++ y ∷ more) ≡ false) → (xs ≡ ys) × (x ≡ y)
one-cut keep [] [] vs us x y e p q f g = (refl, cc)
one-cut keep [] (z ∷ ys) vs us x y e p q f g = let same : x ≡ z = cc in absurd (false≢true (sym (f ys) ∙ ap (λ w. keep (w ∷ ys)) same ∙ q))
one-cut keep (z ∷ xs) [] vs us x y e p q f g = let same : z ≡ y = cc in absurd (false≢true (sym (g xs) ∙ ap (λ w. keep (w ∷ xs)) (sym same) ∙ p))
one-cut keep (z ∷ xs) (w ∷ ys) vs us x y e p q f g =
    let same : z ≡ w = cc in
    let others : xs ++ x ∷ vs ≡ ys ++ y ∷ us = cc in
    let rest = one-cut (λ ps. keep (z ∷ ps)) xs ys vs us x y others p (ap (λ v. keep (v ∷ ys)) same ∙ q) f (λ more. ap (λ v. keep (v ∷ ys ++ y ∷ more)) same ∙ g more) in
    (ap (λ ps. z ∷ ps) rest.0 ∙ ap (λ v. v ∷ ys) same, rest.1)

one-first : (keep : List (List ℕ) → Bool) (left : List ℕ) → IsOnePlace (IsFirstBad keep left)
one-first keep left m n h k =
    let cut = one-cut keep h.before k.before h.after k.after h.part k.part (sym h.parts ∙ k.parts) h.good k.good h.bad k.bad in
    h.place
    ∙ ap (λ ps. length (spaced [] ps) + 1 + place_in keep ps h.part) cut.0
    ∙ ap (λ part. length (spaced [] k.before) + 1 + place_in keep k.before part) cut.1
    ∙ sym k.place

-- ---- the word of a line tells its kind

apart-differ : (one other x y : List ℕ) → are_apart one other ≡ true → one ++ x ≡ other ++ y → ⊥
apart-differ [] other x y h e = false≢true h
apart-differ (b ∷ one) [] x y h e = false≢true h
apart-differ (b ∷ one) (c ∷ other) x y h e =
    let same : b ≡ c = cc in
    let rest : one ++ x ≡ other ++ y = cc in
    apart-differ one other x y (sym (ap (λ t. not t || are_apart one other) (eq-eqb b c same)) ∙ h) rest

all-at : {A : Type 0} (p : A → Bool) (xs : List A) (i : ℕ) (d : A) → i < length xs → list_all p xs ≡ true → p (get_or xs i d) ≡ true
all-at p [] i d lt h = absurd (omega arith)
all-at p (x ∷ xs) zero d lt h = (and_parts (p x) (list_all p xs) h).0
all-at p (x ∷ xs) (suc i) d lt h = all-at p xs i d (omega arith) (and_parts (p x) (list_all p xs) h).1

one-kind : (kinds : List Kind) → words_are_apart kinds ≡ true → (i j : ℕ) (d e : Kind) (x y : List ℕ) → i < length kinds → j < length kinds
    → (layout_of (get_or kinds i d)).word ++ x ≡ (layout_of (get_or kinds j e)).word ++ y → get_or kinds i d ≡ get_or kinds j e
one-kind [] h i j d e x y lt le same = absurd (omega arith)
one-kind (kind ∷ kinds) h zero zero d e x y lt le same = refl
one-kind (kind ∷ kinds) h zero (suc j) d e x y lt le same =
    let apart = (and_parts (list_all (λ other. are_apart (layout_of kind).word (layout_of other).word) kinds) (words_are_apart kinds) h).0 in
    absurd (apart-differ (layout_of kind).word (layout_of (get_or kinds j e)).word x y (all-at (λ other. are_apart (layout_of kind).word (layout_of other).word) kinds j e (omega arith) apart) same)
one-kind (kind ∷ kinds) h (suc i) zero d e x y lt le same =
    let apart = (and_parts (list_all (λ other. are_apart (layout_of kind).word (layout_of other).word) kinds) (words_are_apart kinds) h).0 in
    absurd (apart-differ (layout_of kind).word (layout_of (get_or kinds i d)).word y x (all-at (λ other. are_apart (layout_of kind).word (layout_of other).word) kinds i d (omega arith) apart) (sym same))
one-kind (kind ∷ kinds) h (suc i) (suc j) d e x y lt le same =
    one-kind kinds (and_parts (list_all (λ other. are_apart (layout_of kind).word (layout_of other).word) kinds) (words_are_apart kinds) h).1 i j d e x y (omega arith) (omega arith) same

one-of : (kind : Kind) (line : List ℕ) → IsOnePlace (IsFirstBadOf kind line)
one-of kind line m n h k =
    let l = layout_of kind in
    let left = append_cancel_left l.word k.left h.left (sym k.text ∙ h.text) in
    h.place
    ∙ ap (λ at. length l.word + at) (one-first (keeps_rules l.numbers l.tail) h.left h.behind k.behind h.first (subst (λ text. IsFirstBad (keeps_rules l.numbers l.tail) text k.behind) left k.first))
    ∙ sym k.place

pub one-number : (kinds : List Kind) → words_are_apart kinds ≡ true → (line : List ℕ) → IsOnePlace (IsFirstBadNumber kinds line)
one-number kinds apart line m n h k =
    let hk = h.among in
    let kk = k.among in
    let same : h.kind ≡ k.kind =
    sym hk.2 ∙ one-kind kinds apart hk.0 kk.0 h.kind k.kind h.number.left k.number.left hk.1 kk.1
    (ap (λ kind. (layout_of kind).word ++ h.number.left) hk.2 ∙ sym h.number.text ∙ k.number.text ∙ sym (ap (λ kind. (layout_of kind).word ++ k.number.left) kk.2))
    ∙ kk.2 in
    one-of h.kind line m n h.number (subst (λ kind. IsFirstBadOf kind line n) (sym same) k.number)

-- ---- a line spells something just where it is right

-- no other kind has a line that begins with this word
no-other : (kind : Kind) (kinds : List Kind) (line : List ℕ) → list_all (λ other. are_apart (layout_of kind).word (layout_of other).word) kinds ≡ true → starts_with nat_eq line (layout_of kind).word ≡ true → is_right_line kinds line ≡ false
no-other kind [] line apart here = refl
no-other kind (other ∷ kinds) line apart here =
    let both = and_parts (are_apart (layout_of kind).word (layout_of other).word) (list_all (λ other. are_apart (layout_of kind).word (layout_of other).word) kinds) apart in
    ap (λ s. (s && is_right_behind other (drop (length (layout_of other).word) line)) || is_right_line kinds line) (elsewhere both.0 (starts_with nat_eq line (layout_of other).word) refl)
    ∙ no-other kind kinds line both.1 here
  where
    elsewhere : are_apart (layout_of kind).word (layout_of other).word ≡ true → (b : Bool) → starts_with nat_eq line (layout_of other).word ≡ b → starts_with nat_eq line (layout_of other).word ≡ false
    elsewhere apart false e = e
    elsewhere apart true e =
        let one = (starts_is Decides-eqb line (layout_of kind).word true (sym here)).0 refl in
        let two = (starts_is Decides-eqb line (layout_of other).word true (sym e)).0 refl in
        absurd (apart-differ (layout_of kind).word (layout_of other).word (drop (length (layout_of kind).word) line) (drop (length (layout_of other).word) line) apart (sym one ∙ two))

pub content-right : (kinds : List Kind) → words_are_apart kinds ≡ true → (line : List ℕ) → is_some (content_in kinds line) ≡ is_right_line kinds line
content-right [] apart line = refl
content-right (kind ∷ kinds) apart line =
    let both = and_parts (list_all (λ other. are_apart (layout_of kind).word (layout_of other).word) kinds) (words_are_apart kinds) apart in
    let left = drop (length (layout_of kind).word) line in
    go (starts_with nat_eq line (layout_of kind).word) (is_right_behind kind left) (is_right_line kinds line) (content-right kinds both.1 line) (no-other kind kinds line both.0)
  where
    go : (s right others : Bool) → is_some (content_in kinds line) ≡ others → (s ≡ true → others ≡ false) → is_some (cond s (cond right (Some (content_of_parts kind (parts_of (drop (length (layout_of kind).word) line)))) None) (content_in kinds line)) ≡ ((s && right) || others)
    go true true others e none = refl
    go true false others e none = sym (none refl)
    go false right others e none = e

-- ---- a line with a number that breaks a rule is not right

wrong-at : (kinds : List Kind) → words_are_apart kinds ≡ true → (i : ℕ) (d : Kind) (line left : List ℕ) → i < length kinds → line ≡ (layout_of (get_or kinds i d)).word ++ left → is_right_behind (get_or kinds i d) left ≡ false → is_right_line kinds line ≡ false
wrong-at [] apart i d line left lt text wrong = absurd (omega arith)
wrong-at (kind ∷ kinds) apart zero d line left lt text wrong =
    let word = (layout_of kind).word in
    let both = and_parts (list_all (λ other. are_apart word (layout_of other).word) kinds) (words_are_apart kinds) apart in
    let is = starts_is Decides-eqb line word (starts_with nat_eq line word) refl in
    let here = is.1 left text in
    let rest = append_cancel_left word (drop (length word) line) left (sym (is.0 here) ∙ text) in
    ap (λ s. (s && is_right_behind kind (drop (length word) line)) || is_right_line kinds line) here
    ∙ ap (λ bytes. is_right_behind kind bytes || is_right_line kinds line) rest
    ∙ ap (λ r. r || is_right_line kinds line) wrong
    ∙ no-other kind kinds line both.0 here
wrong-at (kind ∷ kinds) apart (suc i) d line left lt text wrong =
    ap (λ s. (s && is_right_behind kind (drop (length (layout_of kind).word) line)) || is_right_line kinds line) (elsewhere (starts_with nat_eq line (layout_of kind).word) refl)
    ∙ wrong-at kinds (and_parts (list_all (λ other. are_apart (layout_of kind).word (layout_of other).word) kinds) (words_are_apart kinds) apart).1 i d line left (omega arith) text wrong
  where
    elsewhere : (b : Bool) → starts_with nat_eq line (layout_of kind).word ≡ b → starts_with nat_eq line (layout_of kind).word ≡ false
    elsewhere false e = e
    elsewhere true e =
        let word = (layout_of kind).word in
        let one = (starts_is Decides-eqb line word true (sym e)).0 refl in
        let here = (and_parts (list_all (λ other. are_apart word (layout_of other).word) kinds) (words_are_apart kinds) apart).0 in
        absurd (apart-differ word (layout_of (get_or kinds i d)).word (drop (length word) line) left (all-at (λ other. are_apart word (layout_of other).word) kinds i d (omega arith) here) (sym one ∙ text))

pub bad-wrong : (kinds : List Kind) → words_are_apart kinds ≡ true → (line : List ℕ) (at : ℕ) → IsFirstBadNumber kinds line at → is_right_line kinds line ≡ false
bad-wrong kinds apart line at h =
    let n = h.number in
    let l = layout_of h.kind in
    let where_is = h.among in
    let broken : keeps_rules l.numbers l.tail (parts_of n.left) ≡ false = ap (keeps_rules l.numbers l.tail) n.first.parts ∙ n.first.bad n.first.after in
    wrong-at kinds apart where_is.0 h.kind line n.left where_is.1
    (n.text ∙ ap (λ kind. (layout_of kind).word ++ n.left) (sym where_is.2))
    (ap (λ kind. is_right_behind kind n.left) where_is.2 ∙ ap (λ k. goes_on_in l n.left && k) broken ∙ and-false (goes_on_in l n.left))
