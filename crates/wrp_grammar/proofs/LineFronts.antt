-- The longest front of a whole line of a kind, and of one of some kinds.
use Rattle.std.proofs.Common.{inl, inr, arith, ◌≡◌, ℕ, ◌+◌, ◌<◌, ◌≤◌, zero, suc, max, Bool, true, false, ◌&&◌, ◌||◌, ◌==◌, nat_eq, get_or, List, [], ◌∷◌, ◌++◌, length, take, drop, refl, sym, ap, ◌∙◌, subst}
use Rattle.std.proofs.Math.Bool.{or-true}
use Rattle.std.proofs.lemmas.Bool.{and_from, cases_lt, eq-eqb, ne_eqb, false≢true}
use Rattle.std.proofs.lemmas.List.{take_all}
use Rattle.std.proofs.lemmas.List.Folds.{list_any_more}
use Rattle.std.specs.List.{starts_with}
use Rattle.wrp_rules.specs.declared.layout.Kind.{Kind}
use Rattle.wrp_rules.specs.declared.layout.Range.{Range}
use Rattle.wrp_rules.specs.declared.layout.Tail.{Tail}
use Rattle.wrp_rules.specs.Layouts.{Layout, layout_of}
use Rattle.wrp_grammar.specs.Fronts.{IsLongestFront, is_left}
use Rattle.wrp_grammar.specs.Parts.{is_spaced, parts_of}
use Rattle.wrp_grammar.specs.Shapes.{has_parts_shape, goes_on_in, is_in_layout, is_of_kinds}
use Rattle.wrp_grammar.proofs.Fronts.{front-at, front-same, front-cons, front-end, front-stop}
use Rattle.wrp_grammar.proofs.LeftFronts.{layout-parts}
use Rattle.wrp_grammar.proofs.Spacing.{spread, parts_of-spread}

-- a word, and behind it a text of a shape
abbrev behind : List ℕ → (List ℕ → Bool) → List ℕ → Bool
behind [] shape text = shape text
behind (w ∷ word) shape [] = false
behind (w ∷ word) shape (b ∷ text) = (w == b) && behind word shape text

behind-same : (word : List ℕ) (shape : List ℕ → Bool) (t : List ℕ) → behind word shape t ≡ (starts_with nat_eq t word && shape (drop (length word) t))
behind-same [] shape t = refl
behind-same (w ∷ word) shape [] = refl
behind-same (w ∷ word) shape (b ∷ t) = ap (λ x. (w == b) && x) (behind-same word shape t) ∙ joined (w == b) (starts_with nat_eq t word) (shape (drop (length word) t))
  where
    joined : (a b c : Bool) → (a && (b && c)) ≡ ((a && b) && c)
    joined true b c = refl
    joined false b c = refl

behind-word : (word : List ℕ) (shape : List ℕ → Bool) (text : List ℕ) → behind word shape (word ++ text) ≡ shape text
behind-word [] shape text = refl
behind-word (w ∷ word) shape text = ap (λ c. c && behind word shape (word ++ text)) (eq-eqb w w refl) ∙ behind-word word shape text

-- where a line leaves a shape
pub record Leaves (shape : List ℕ → Bool) (text : List ℕ) (at : ℕ) : Type 0 where
  pub broken : shape text ≡ false
  pub front : IsLongestFront shape text at

-- what the code has counted: the first d bytes are those of the word
pub record Shares (word text : List ℕ) (d : ℕ) : Type 0 where
  pub same : (k : ℕ) → k < d → get_or text k 0 ≡ get_or word k 0
  pub within : d ≤ length text
  pub all : d ≤ length word
  pub longest : d < length word → d < length text → get_or text d 0 ≡ get_or word d 0 → ⊥

shares-more : (w b d : ℕ) (word text : List ℕ) → Shares (w ∷ word) (b ∷ text) (suc d) → Shares word text d
shares-more w b d word text h = record {
  same = λ k lt. h.same (suc k) (omega arith);
  within = omega (arith, h.within);
  all = omega (arith, h.all);
  longest = λ lt le e. h.longest (omega arith) (omega arith) e;
}

-- the text leaves the word
word-short : (word : List ℕ) (shape : List ℕ → Bool) (some text : List ℕ) (d : ℕ) → shape some ≡ true → Shares word text d → d < length word → Leaves (behind word shape) text d
word-short [] shape some text d h s lt = absurd (omega arith)
word-short (w ∷ word) shape some [] (suc d) h s lt = absurd (omega (arith, s.within))
word-short (w ∷ word) shape some [] zero h s lt = record { broken = refl; front = front-end (behind (w ∷ word) shape) (w ∷ word ++ some) (behind-word (w ∷ word) shape some ∙ h) }
word-short (w ∷ word) shape some (b ∷ text) zero h s lt =
    let other : (w == b) ≡ false = ne_eqb w b (λ e. s.longest lt (omega arith) (sym e)) in
    record {
      broken = ap (λ c. c && behind word shape text) other;
      front = front-stop (behind (w ∷ word) shape) (w ∷ word ++ some) b text (behind-word (w ∷ word) shape some ∙ h) (λ t. ap (λ c. c && behind word shape t) other);
    }
word-short (w ∷ word) shape some (b ∷ text) (suc d) h s lt =
    let same : (w == b) ≡ true = eq-eqb w b (sym (s.same 0 (omega arith))) in
    let rest = word-short word shape some text d h (shares-more w b d word text s) (omega arith) in
    record {
      broken = ap (λ c. c && behind word shape text) same ∙ rest.broken;
      front = front-cons (behind (w ∷ word) shape) b text d (front-same (behind word shape) (λ t. behind (w ∷ word) shape (b ∷ t)) text d (λ t. sym (ap (λ c. c && behind word shape t) same)) rest.front);
    }

-- the text begins with the word
record GoesOn (word : List ℕ) (shape : List ℕ → Bool) (text : List ℕ) (d : ℕ) : Type 0 where
  same : behind word shape text ≡ shape (drop d text)
  front : (k : ℕ) → IsLongestFront shape (drop d text) k → IsLongestFront (behind word shape) text (d + k)

word-long : (word : List ℕ) (shape : List ℕ → Bool) (text : List ℕ) (d : ℕ) → Shares word text d → length word ≤ d → GoesOn word shape text d
word-long [] shape text zero s le = record { same = refl; front = λ k h. front-at shape text k (0 + k) h (omega arith) }
word-long [] shape text (suc d) s le = absurd (omega (arith, s.all))
word-long (w ∷ word) shape text zero s le = absurd (omega arith)
word-long (w ∷ word) shape [] (suc d) s le = absurd (omega (arith, s.within))
word-long (w ∷ word) shape (b ∷ text) (suc d) s le =
    let same : (w == b) ≡ true = eq-eqb w b (sym (s.same 0 (omega arith))) in
    let rest = word-long word shape text d (shares-more w b d word text s) (omega arith) in
    record {
      same = ap (λ c. c && behind word shape text) same ∙ rest.same;
      front = λ k h. front-at (behind (w ∷ word) shape) (b ∷ text) (suc (d + k)) (suc d + k)
          (front-cons (behind (w ∷ word) shape) b text (d + k) (front-same (behind word shape) (λ t. behind (w ∷ word) shape (b ∷ t)) text (d + k) (λ t. sym (ap (λ c. c && behind word shape t) same)) (rest.front k h)))
          (omega arith);
    }

-- ---- a layout

layout-text : (numbers : List Range) (tail : Tail) → (some : List ℕ) × (is_left (has_parts_shape numbers tail) some ≡ true)
layout-text numbers tail =
    let some = layout-parts numbers tail in
    (spread some.parts, and_from (is_spaced (spread some.parts)) (has_parts_shape numbers tail (parts_of (spread some.parts))) (spaced some.parts) (ap (has_parts_shape numbers tail) (parts_of-spread some.parts some.solid) ∙ some.whole))
  where
    spaced : (ps : List (List ℕ)) → is_spaced (spread ps) ≡ true
    spaced [] = refl
    spaced (p ∷ ps) = refl

-- behind the word the line goes on without a space
pub left-other : (numbers : List Range) (tail : Tail) (left : List ℕ) → is_spaced left ≡ false → Leaves (is_left (has_parts_shape numbers tail)) left 0
left-other numbers tail [] h = absurd (false≢true (sym h))
left-other numbers tail (b ∷ left) h =
    let some = layout-text numbers tail in
    record {
      broken = ap (λ s. s && has_parts_shape numbers tail (parts_of (b ∷ left))) h;
      front = front-stop (is_left (has_parts_shape numbers tail)) some.0 b left some.1 (λ t. ap (λ s. s && has_parts_shape numbers tail (parts_of (b ∷ t))) h);
    }

layout-same : (l : Layout) (t : List ℕ) → behind l.word (goes_on_in l) t ≡ is_in_layout l t
layout-same l t = behind-same l.word (goes_on_in l) t

pub layout-short : (l : Layout) (line : List ℕ) (d : ℕ) → Shares l.word line d → d < length l.word → Leaves (is_in_layout l) line d
layout-short l line d s lt =
    let some = layout-text l.numbers l.tail in
    let h = word-short l.word (goes_on_in l) some.0 line d some.1 s lt in
    record { broken = sym (layout-same l line) ∙ h.broken; front = front-same (behind l.word (goes_on_in l)) (is_in_layout l) line d (layout-same l) h.front }

pub record BehindWord (l : Layout) (line : List ℕ) (d : ℕ) : Type 0 where
  pub same : is_in_layout l line ≡ goes_on_in l (drop d line)
  pub front : (k : ℕ) → IsLongestFront (goes_on_in l) (drop d line) k → IsLongestFront (is_in_layout l) line (d + k)

pub layout-long : (l : Layout) (line : List ℕ) (d : ℕ) → Shares l.word line d → length l.word ≤ d → BehindWord l line d
layout-long l line d s le =
    let h = word-long l.word (goes_on_in l) line d s le in
    record {
      same = sym (layout-same l line) ∙ h.same;
      front = λ k front. front-same (behind l.word (goes_on_in l)) (is_in_layout l) line (d + k) (layout-same l) (h.front k front);
    }

-- what the code has of the layout, and of what is left
pub left-same : (l : Layout) (numbers : List Range) (tail : Tail) (text left : List ℕ) → numbers ≡ l.numbers → tail ≡ l.tail → text ≡ left → is_left (has_parts_shape numbers tail) text ≡ goes_on_in l left
left-same l numbers tail text left en et e =
    ap (λ ns. is_left (has_parts_shape ns tail) text) en ∙ ap (λ t. is_left (has_parts_shape l.numbers t) text) et ∙ ap (goes_on_in l) e

pub left-front : (l : Layout) (numbers : List Range) (tail : Tail) (text left : List ℕ) (at : ℕ) → numbers ≡ l.numbers → tail ≡ l.tail → text ≡ left → IsLongestFront (is_left (has_parts_shape numbers tail)) text at → IsLongestFront (goes_on_in l) left at
left-front l numbers tail text left at en et e h =
    subst (λ t. IsLongestFront (goes_on_in l) t at) e (front-same (is_left (has_parts_shape numbers tail)) (goes_on_in l) text at (λ t. left-same l numbers tail t t en et refl) h)

-- ---- one of some kinds

front-or : (one two : List ℕ → Bool) (text : List ℕ) (m n : ℕ) → IsLongestFront one text m → IsLongestFront two text n → IsLongestFront (λ t. one t || two t) text (max m n)
front-or one two text m n h k = elim (cases_lt m n) [
  | inl lt ↦ front-at (λ t. one t || two t) text n (max m n)
      (record {
        within = k.within;
        more = k.more;
        begins = ap (λ b. one (take n text ++ k.more) || b) k.begins ∙ or-true (one (take n text ++ k.more));
        longest = λ i others p w. either (one (take i text ++ others)) (two (take i text ++ others)) w i n (λ y. omega (arith, h.longest i others p y)) (λ y. k.longest i others p y);
      }) (omega arith)
  | inr ge ↦ front-at (λ t. one t || two t) text m (max m n)
      (record {
        within = h.within;
        more = h.more;
        begins = ap (λ b. b || two (take m text ++ h.more)) h.begins;
        longest = λ i others p w. either (one (take i text ++ others)) (two (take i text ++ others)) w i m (λ y. h.longest i others p y) (λ y. omega (arith, k.longest i others p y));
      }) (omega arith)
]
  where
    either : (a b : Bool) → (a || b) ≡ true → (i at : ℕ) → (a ≡ true → i ≤ at) → (b ≡ true → i ≤ at) → i ≤ at
    either true b e i at f g = f refl
    either false b e i at f g = g e

-- the line leaves the shapes of the first i kinds, the last of them here
pub record LeavesFirst (kinds : List Kind) (line : List ℕ) (i at : ℕ) : Type 0 where
  pub broken : is_of_kinds (take i kinds) line ≡ false
  pub within : at ≤ length line
  pub start : i ≡ 0 → at ≡ 0
  pub front : 0 < i → IsLongestFront (is_of_kinds (take i kinds)) line at

pub leaves-none : (kinds : List Kind) (line : List ℕ) → LeavesFirst kinds line 0 0
leaves-none kinds line = record { broken = refl; within = omega arith; start = λ e. refl; front = λ lt. absurd (omega arith) }

pub leaves-more : (kinds : List Kind) (line : List ℕ) (i at more next : ℕ) (d : Kind) → i < length kinds → LeavesFirst kinds line i at → Leaves (is_in_layout (layout_of (get_or kinds i d))) line more → next ≡ max at more → LeavesFirst kinds line (i + 1) next
leaves-more kinds line i at more next d lt h k e = record {
  broken = same line ∙ ap (λ b. b || two line) h.broken ∙ k.broken;
  within = omega (arith, h.within, k.front.within);
  start = λ none. absurd (omega arith);
  front = λ some. front-at (is_of_kinds (take (i + 1) kinds)) line (max at more) next (front-same (λ t. one t || two t) (is_of_kinds (take (i + 1) kinds)) line (max at more) (λ t. sym (same t)) (both i refl)) e;
}
  where
    one : List ℕ → Bool
    one t = is_of_kinds (take i kinds) t

    two : List ℕ → Bool
    two t = is_in_layout (layout_of (get_or kinds i d)) t

    same : (t : List ℕ) → is_of_kinds (take (i + 1) kinds) t ≡ (one t || two t)
    same t = list_any_more (λ kind. is_in_layout (layout_of kind) t) kinds i d lt

    both : (n : ℕ) → i ≡ n → IsLongestFront (λ t. one t || two t) line (max at more)
    both zero none =
        front-at (λ t. one t || two t) line more (max at more)
        (front-same two (λ t. one t || two t) line more (λ t. sym (ap (λ n. is_of_kinds (take n kinds) t || two t) none)) k.front)
        (omega (arith, h.start none))
    both (suc n) some = front-or one two line at more (h.front (omega arith)) k.front

-- all of the kinds
pub leaves-all : (kinds : List Kind) (line : List ℕ) (i at : ℕ) → LeavesFirst kinds line i at → length kinds ≤ i → 0 < length kinds → Leaves (is_of_kinds kinds) line at
leaves-all kinds line i at h le some = record {
  broken = ap (λ ks. is_of_kinds ks line) (sym all) ∙ h.broken;
  front = subst (λ ks. IsLongestFront (is_of_kinds ks) line at) all (h.front (omega arith));
}
  where
    all : take i kinds ≡ kinds
    all = take_all i kinds le
