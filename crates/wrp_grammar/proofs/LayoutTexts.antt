-- The leading numbers of a line and what follows them, and the parts that spell both.
use Rattle.std.proofs.Common.{◌≡◌, ℕ, Bool, true, false, ◌&&◌, List, [], ◌∷◌, ◌++◌, map, length, take, drop, refl, ap, ◌∙◌}
use Rattle.std.proofs.lemmas.Bool.{and_parts, and_from, false≢true}
use Rattle.std.specs.Fmt.{decimal}
use Rattle.std.specs.List.{list_all}
use Rattle.wrp_rules.specs.declared.layout.Range.{Range}
use Rattle.wrp_rules.specs.declared.layout.Tail.{Tail}
use Rattle.wrp_rules.specs.Ranges.{is_in_range, are_in_ranges}
use Rattle.wrp_rules.specs.Lines.{item_parts}
use Rattle.wrp_rules.specs.Contents.{Items, keep_rules}
use Rattle.wrp_grammar.specs.Parts.{number_of, numbers_of}
use Rattle.wrp_grammar.specs.Numbers.{is_range_part}
use Rattle.wrp_grammar.specs.Spelling.{items_of, are_leading}
use Rattle.wrp_grammar.specs.Reading.{is_small_tail}
use Rattle.wrp_grammar.proofs.Spacing.{is_solid}
use Rattle.wrp_grammar.proofs.Texts.{AreTexts, AreParts}
use Rattle.wrp_grammar.proofs.ItemTexts.{is_short, range-texts}
use Rattle.wrp_grammar.proofs.TailTexts.{is_right_tail, tail-parts}

-- the numbers and the items, their parts, and those that parts spell
abbrev pub line_parts : (List ℕ × Items) → List (List ℕ)
line_parts line = map decimal line.0 ++ item_parts line.1

abbrev pub line_value : List Range → Tail → List (List ℕ) → List ℕ × Items
line_value ranges tail parts = (numbers_of (take (length ranges) parts), items_of tail (drop (length ranges) parts))

abbrev pub is_read_line : List Range → Tail → List (List ℕ) → Bool
is_read_line ranges tail parts = are_leading ranges parts && is_right_tail tail (drop (length ranges) parts)

abbrev pub is_ranged_line : List Range → Tail → (List ℕ × Items) → Bool
is_ranged_line ranges tail line = are_in_ranges ranges line.0 && keep_rules tail line.1

abbrev pub LineParts : List Range → Tail → Type 0
LineParts ranges tail = AreParts (List ℕ × Items) line_parts (line_value ranges tail) (is_read_line ranges tail) (is_ranged_line ranges tail)

and_first : (a b c : Bool) → ((a && b) && c) ≡ true → (a ≡ true) × ((b && c) ≡ true)
and_first true b c h = (refl, h)
and_first false b c h = absurd (false≢true h)

and_again : (a b c : Bool) → a ≡ true → (b && c) ≡ true → ((a && b) && c) ≡ true
and_again true b c h k = k
and_again false b c h k = absurd (false≢true h)

-- no number, and what follows
no-number : (tail : Tail) → AreParts Items item_parts (items_of tail) (is_right_tail tail) (keep_rules tail) → LineParts [] tail
no-number tail h = record {
  written = λ parts all. h.written parts all;
  ranged = λ parts all. h.ranged parts all;
  solid = solid;
  right = right;
  same = same;
}
  where
    solid : (line : List ℕ × Items) → is_ranged_line [] tail line ≡ true → list_all is_solid (line_parts line) ≡ true
    solid ([], items) all = h.solid items all
    solid (n ∷ ns, items) all = absurd (false≢true all)

    right : (line : List ℕ × Items) → is_ranged_line [] tail line ≡ true → is_read_line [] tail (line_parts line) ≡ true
    right ([], items) all = h.right items all
    right (n ∷ ns, items) all = absurd (false≢true all)

    same : (line : List ℕ × Items) → is_ranged_line [] tail line ≡ true → line_value [] tail (line_parts line) ≡ line
    same ([], items) all = ap (λ x. ([], x)) (h.same items all)
    same (n ∷ ns, items) all = absurd (false≢true all)

-- one more number before
one-more : (range : Range) (ranges : List Range) (tail : Tail) → AreTexts ℕ decimal number_of (is_range_part range) (is_in_range range) → LineParts ranges tail → LineParts (range ∷ ranges) tail
one-more range ranges tail number rest = record { written = written; ranged = ranged; solid = solid; right = right; same = same }
  where
    written : (parts : List (List ℕ)) → is_read_line (range ∷ ranges) tail parts ≡ true → line_parts (line_value (range ∷ ranges) tail parts) ≡ parts
    written [] all = absurd (false≢true all)
    written (part ∷ parts) all =
        let both = and_first (is_range_part range part) (are_leading ranges parts) (is_right_tail tail (drop (length ranges) parts)) all in
        ap (λ first. first ∷ line_parts (line_value ranges tail parts)) (number.written part both.0) ∙ ap (λ others. part ∷ others) (rest.written parts both.1)

    ranged : (parts : List (List ℕ)) → is_read_line (range ∷ ranges) tail parts ≡ true → is_ranged_line (range ∷ ranges) tail (line_value (range ∷ ranges) tail parts) ≡ true
    ranged [] all = absurd (false≢true all)
    ranged (part ∷ parts) all =
        let both = and_first (is_range_part range part) (are_leading ranges parts) (is_right_tail tail (drop (length ranges) parts)) all in
        and_again (is_in_range range (number_of part)) (are_in_ranges ranges (line_value ranges tail parts).0) (keep_rules tail (line_value ranges tail parts).1) (number.ranged part both.0) (rest.ranged parts both.1)

    solid : (line : List ℕ × Items) → is_ranged_line (range ∷ ranges) tail line ≡ true → list_all is_solid (line_parts line) ≡ true
    solid ([], items) all = absurd (false≢true all)
    solid (n ∷ ns, items) all =
        let both = and_first (is_in_range range n) (are_in_ranges ranges ns) (keep_rules tail items) all in
        and_from (is_solid (decimal n)) (list_all is_solid (line_parts (ns, items))) (number.solid n both.0) (rest.solid (ns, items) both.1)

    right : (line : List ℕ × Items) → is_ranged_line (range ∷ ranges) tail line ≡ true → is_read_line (range ∷ ranges) tail (line_parts line) ≡ true
    right ([], items) all = absurd (false≢true all)
    right (n ∷ ns, items) all =
        let both = and_first (is_in_range range n) (are_in_ranges ranges ns) (keep_rules tail items) all in
        and_again (is_range_part range (decimal n)) (are_leading ranges (line_parts (ns, items))) (is_right_tail tail (drop (length ranges) (line_parts (ns, items))))
        (number.right n both.0) (rest.right (ns, items) both.1)

    same : (line : List ℕ × Items) → is_ranged_line (range ∷ ranges) tail line ≡ true → line_value (range ∷ ranges) tail (line_parts line) ≡ line
    same ([], items) all = absurd (false≢true all)
    same (n ∷ ns, items) all =
        let both = and_first (is_in_range range n) (are_in_ranges ranges ns) (keep_rules tail items) all in
        let value = line_value ranges tail (line_parts (ns, items)) in
        ap (λ first. (first ∷ value.0, value.1)) (number.same n both.0) ∙ ap (λ others. (n ∷ others.0, others.1)) (rest.same (ns, items) both.1)

-- a line of each layout whose numbers are read
pub layout-parts : (ranges : List Range) (tail : Tail) → list_all is_short ranges ≡ true → is_small_tail tail ≡ true → LineParts ranges tail
layout-parts [] tail short short_tail = no-number tail (tail-parts tail short_tail)
layout-parts (range ∷ ranges) tail short short_tail =
    let both = and_parts (is_short range) (list_all is_short ranges) short in
    one-more range ranges tail (range-texts range both.0) (layout-parts ranges tail both.1 short_tail)
