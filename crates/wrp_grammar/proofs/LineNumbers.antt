-- The first number of a line of some kinds that breaks a rule.
use Rattle.std.proofs.Common.{◌≡◌, ℕ, ◌+◌, ◌<◌, Bool, true, false, ◌&&◌, ◌||◌, nat_eq, get_or, List, ◌++◌, length, take, drop, refl, sym, ap, ◌∙◌, subst}
use Rattle.std.proofs.lemmas.Bool.{and_parts, false≢true}
use Rattle.std.proofs.lemmas.Bool.Decides.{Decides-eqb}
use Rattle.std.proofs.lemmas.List.Elements.{Contains-get_or}
use Rattle.std.proofs.lemmas.List.Folds.{list_any_more, list_any_at}
use Rattle.std.proofs.lemmas.Slice.Eq.{starts_is}
use Rattle.std.specs.List.{starts_with}
use Rattle.wrp_rules.specs.declared.layout.Kind.{Kind}
use Rattle.wrp_rules.specs.declared.layout.Range.{Range}
use Rattle.wrp_rules.specs.declared.layout.Tail.{Tail}
use Rattle.wrp_rules.specs.Layouts.{Layout, layout_of}
use Rattle.wrp_grammar.specs.Numbers.{keeps_rules, is_right_in, is_right_line, IsFirstBad, IsPlaceOfBad, IsFirstBadOf, IsFirstBadNumber}
use Rattle.wrp_grammar.specs.Parts.{parts_of}
use Rattle.wrp_grammar.specs.Shapes.{goes_on_in, is_in_layout, is_of_kinds}

-- a line in a layout is its word, and what is left
pub word-text : (l : Layout) (line : List ℕ) → is_in_layout l line ≡ true → line ≡ l.word ++ drop (length l.word) line
word-text l line h =
    let both = and_parts (starts_with nat_eq line l.word) (goes_on_in l (drop (length l.word) line)) h in
    (starts_is Decides-eqb line l.word true (sym both.0)).0 refl

-- what the code has of the layout, and of what is left
pub kind-first : (kind : Kind) (line left : List ℕ) (numbers : List Range) (tail : Tail) (behind at : ℕ) → numbers ≡ (layout_of kind).numbers → tail ≡ (layout_of kind).tail → left ≡ drop (length (layout_of kind).word) line
    → is_in_layout (layout_of kind) line ≡ true → is_right_in kind line ≡ false → IsPlaceOfBad (keeps_rules numbers tail) left behind → at ≡ length (layout_of kind).word + behind → IsFirstBadOf kind line at
kind-first kind line left numbers tail behind at en et e shape wrong first place = record {
  left = left;
  text = word-text l line shape ∙ ap (λ t. l.word ++ t) (sym e);
  behind = behind;
  first = subst (λ t. IsFirstBad (keeps_rules l.numbers t) left behind) et (subst (λ ns. IsFirstBad (keeps_rules ns tail) left behind) en (first broken));
  place = place;
}
  where
    l : Layout
    l = layout_of kind

    broken : keeps_rules numbers tail (parts_of left) ≡ false
    broken =
        let both = and_parts (starts_with nat_eq line l.word) (goes_on_in l (drop (length l.word) line)) shape in
        let right = keeps_rules l.numbers l.tail (parts_of (drop (length l.word) line)) in
        ap (λ ns. keeps_rules ns tail (parts_of left)) en
        ∙ ap (λ t. keeps_rules l.numbers t (parts_of left)) et
        ∙ ap (λ t. keeps_rules l.numbers l.tail (parts_of t)) e
        ∙ sym (ap (λ s. s && (goes_on_in l (drop (length l.word) line) && right)) both.0 ∙ ap (λ s. s && right) both.1)
        ∙ wrong

-- one of the kinds, where none before it is the line's
pub kinds-first : (kinds : List Kind) (line : List ℕ) (i at : ℕ) (d : Kind) → i < length kinds → is_right_line kinds line ≡ false → (is_right_in (get_or kinds i d) line ≡ false → IsFirstBadOf (get_or kinds i d) line at) → IsFirstBadNumber kinds line at
kinds-first kinds line i at d lt wrong first = record { kind = get_or kinds i d; among = Contains-get_or kinds i d lt; number = first (none (is_right_in (get_or kinds i d) line) refl) }
  where
    none : (b : Bool) → is_right_in (get_or kinds i d) line ≡ b → is_right_in (get_or kinds i d) line ≡ false
    none true e = absurd (false≢true (sym wrong ∙ list_any_at (λ kind. is_right_in kind line) kinds i d lt e))
    none false e = e

pub kinds-more : (kinds : List Kind) (line : List ℕ) (i : ℕ) (d : Kind) → i < length kinds → is_of_kinds (take i kinds) line ≡ false → is_in_layout (layout_of (get_or kinds i d)) line ≡ false → is_of_kinds (take (i + 1) kinds) line ≡ false
kinds-more kinds line i d lt none other = list_any_more (λ kind. is_in_layout (layout_of kind) line) kinds i d lt ∙ ap (λ b. b || is_in_layout (layout_of (get_or kinds i d)) line) none ∙ other
