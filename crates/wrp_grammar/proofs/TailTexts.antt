-- What follows the leading numbers of a line, and the parts that spell it, for each tail.
use Rattle.std.proofs.Common.{arith, codes, ◌≡◌, ℕ, ◌<◌, ◌≤◌, ◌^◌, Bool, true, ◌&&◌, nat_lt, nat_le, List, [], ◌∷◌, ◌++◌, map, refl, sym, ap, ◌∙◌}
use Rattle.std.proofs.lemmas.Bool.{and_parts, and_from, ltb-true, leb-true, false≢true}
use Rattle.std.proofs.lemmas.List.Folds.{list_all-append}
use Rattle.std.specs.Fmt.{decimal}
use Rattle.std.specs.List.{list_all, list_any, before_first, after_first}
use Rattle.wrp_town.specs.declared.street.Step.{Step}
use Rattle.wrp_rules.specs.declared.layout.Tail.{Tail}
use Rattle.wrp_rules.specs.declared.layout.Tail.TheVariants as tails
use Rattle.wrp_rules.specs.Ranges.{is_index, is_set, are_pairs, are_multipliers}
use Rattle.wrp_rules.specs.Lines.{item_parts}
use Rattle.wrp_rules.specs.Contents.{Items, NoItems, Steps, Numbers, Pairs, TwoLists, keep_rules}
use Rattle.wrp_grammar.specs.Parts.{numbers_of, is_index_part, are_set_parts, is_step, are_multiplier_parts, are_pair_parts}
use Rattle.wrp_grammar.specs.Shapes.{is_slash, is_nothing}
use Rattle.wrp_grammar.specs.Spelling.{items_of}
use Rattle.wrp_grammar.specs.Reading.{is_small_tail}
use Rattle.wrp_grammar.proofs.Spacing.{is_solid}
use Rattle.wrp_grammar.proofs.LabelLists.{label-whole, before-slash, after-slash, slash-there, no-slash-among}
use Rattle.wrp_grammar.proofs.Texts.{AreParts}
use Rattle.wrp_grammar.proofs.ItemTexts.{steps-parts, indexes-parts, set-parts, pairs-parts, multipliers-parts}

-- what a reader of a tail tries
abbrev pub are_labels : List (List ℕ) → Bool
are_labels parts =
    list_any is_slash parts && (list_all is_index_part (before_first is_slash parts) && list_all is_index_part (after_first is_slash parts))

abbrev pub is_right_tail : Tail → List (List ℕ) → Bool
is_right_tail tails.Nothing parts = is_nothing parts
is_right_tail tails.Steps parts = list_all is_step parts
is_right_tail tails.Set parts = are_set_parts parts
is_right_tail tails.Indexes parts = list_all is_index_part parts
is_right_tail (tails.Multipliers most) parts = are_multiplier_parts most parts
is_right_tail (tails.Pairs most) parts = are_pair_parts most parts
is_right_tail tails.Labels parts = are_labels parts

-- the items are such values
record Holds (A : Type 0) (wrap : A → Items) (ranged : A → Bool) (items : Items) : Type 0 where
  value : A
  same : wrap value ≡ items
  in_range : ranged value ≡ true

-- items that hold values of one type
module _ (A : Type 0) (texts : A → List (List ℕ)) (value : List (List ℕ) → A) (right : List (List ℕ) → Bool) (ranged : A → Bool) (h : AreParts A texts value right ranged) where
  wrapped : (wrap : A → Items) (keep : Items → Bool) → ((a : A) → item_parts (wrap a) ≡ texts a) → ((a : A) → keep (wrap a) ≡ ranged a) → ((items : Items) → keep items ≡ true → Holds A wrap ranged items)
      → AreParts Items item_parts (λ parts. wrap (value parts)) right keep
  wrapped wrap keep parts_of_wrap keep_of_wrap holds = record {
    written = λ parts all. parts_of_wrap (value parts) ∙ h.written parts all;
    ranged = λ parts all. keep_of_wrap (value parts) ∙ h.ranged parts all;
    solid = λ items all. let is = holds items all in ap (λ x. list_all is_solid (item_parts x)) (sym is.same) ∙ ap (list_all is_solid) (parts_of_wrap is.value) ∙ h.solid is.value is.in_range;
    right = λ items all. let is = holds items all in ap (λ x. right (item_parts x)) (sym is.same) ∙ ap right (parts_of_wrap is.value) ∙ h.right is.value is.in_range;
    same = λ items all. let is = holds items all in ap (λ x. wrap (value (item_parts x))) (sym is.same) ∙ ap (λ x. wrap (value x)) (parts_of_wrap is.value) ∙ ap wrap (h.same is.value is.in_range) ∙ is.same;
  }

no-items : AreParts Items item_parts (items_of tails.Nothing) is_nothing (keep_rules tails.Nothing)
no-items = record { written = written; ranged = λ parts h. refl; solid = solid; right = right; same = same }
  where
    written : (parts : List (List ℕ)) → is_nothing parts ≡ true → [] ≡ parts
    written [] h = refl
    written (part ∷ parts) h = absurd (false≢true h)

    solid : (items : Items) → keep_rules tails.Nothing items ≡ true → list_all is_solid (item_parts items) ≡ true
    solid NoItems h = refl
    solid _ h = absurd (false≢true h)

    right : (items : Items) → keep_rules tails.Nothing items ≡ true → is_nothing (item_parts items) ≡ true
    right NoItems h = refl
    right _ h = absurd (false≢true h)

    same : (items : Items) → keep_rules tails.Nothing items ≡ true → NoItems ≡ items
    same NoItems h = refl
    same _ h = absurd (false≢true h)

-- labels, a slash, and streets
labels-parts : AreParts (List ℕ × List ℕ) (λ lists. map decimal lists.0 ++ codes "/" ∷ map decimal lists.1)
    (λ parts. (numbers_of (before_first is_slash parts), numbers_of (after_first is_slash parts))) are_labels (λ lists. list_all is_index lists.0 && list_all is_index lists.1)
labels-parts = record { written = written; ranged = ranged; solid = solid; right = right; same = same }
  where
    found : (parts : List (List ℕ)) → are_labels parts ≡ true → (list_any is_slash parts ≡ true) × (list_all is_index_part (before_first is_slash parts) ≡ true) × (list_all is_index_part (after_first is_slash parts) ≡ true)
    found parts h =
        let some = and_parts (list_any is_slash parts) (list_all is_index_part (before_first is_slash parts) && list_all is_index_part (after_first is_slash parts)) h in
        let both = and_parts (list_all is_index_part (before_first is_slash parts)) (list_all is_index_part (after_first is_slash parts)) some.1 in
        (some.0, both.0, both.1)

    written : (parts : List (List ℕ)) → are_labels parts ≡ true → map decimal (numbers_of (before_first is_slash parts)) ++ codes "/" ∷ map decimal (numbers_of (after_first is_slash parts)) ≡ parts
    written parts h =
        let is = found parts h in
        ap (λ xs. xs ++ codes "/" ∷ map decimal (numbers_of (after_first is_slash parts))) (indexes-parts.written (before_first is_slash parts) is.1)
        ∙ ap (λ ys. before_first is_slash parts ++ codes "/" ∷ ys) (indexes-parts.written (after_first is_slash parts) is.2)
        ∙ sym (label-whole parts is.0)

    ranged : (parts : List (List ℕ)) → are_labels parts ≡ true → (list_all is_index (numbers_of (before_first is_slash parts)) && list_all is_index (numbers_of (after_first is_slash parts))) ≡ true
    ranged parts h =
        let is = found parts h in
        and_from (list_all is_index (numbers_of (before_first is_slash parts))) (list_all is_index (numbers_of (after_first is_slash parts)))
        (indexes-parts.ranged (before_first is_slash parts) is.1) (indexes-parts.ranged (after_first is_slash parts) is.2)

    both_ranged : (lists : List ℕ × List ℕ) → (list_all is_index lists.0 && list_all is_index lists.1) ≡ true → (list_all is_index lists.0 ≡ true) × (list_all is_index lists.1 ≡ true)
    both_ranged lists h = and_parts (list_all is_index lists.0) (list_all is_index lists.1) h

    solid : (lists : List ℕ × List ℕ) → (list_all is_index lists.0 && list_all is_index lists.1) ≡ true → list_all is_solid (map decimal lists.0 ++ codes "/" ∷ map decimal lists.1) ≡ true
    solid lists h =
        let both = both_ranged lists h in
        list_all-append is_solid (map decimal lists.0) (codes "/" ∷ map decimal lists.1)
        ∙ and_from (list_all is_solid (map decimal lists.0)) (list_all is_solid (map decimal lists.1)) (indexes-parts.solid lists.0 both.0) (indexes-parts.solid lists.1 both.1)

    before : (lists : List ℕ × List ℕ) → list_all is_index lists.0 ≡ true → before_first is_slash (map decimal lists.0 ++ codes "/" ∷ map decimal lists.1) ≡ map decimal lists.0
    before lists h = before-slash (map decimal lists.0) (map decimal lists.1) (codes "/") (no-slash-among (map decimal lists.0) (indexes-parts.right lists.0 h)) refl

    after : (lists : List ℕ × List ℕ) → list_all is_index lists.0 ≡ true → after_first is_slash (map decimal lists.0 ++ codes "/" ∷ map decimal lists.1) ≡ map decimal lists.1
    after lists h = after-slash (map decimal lists.0) (map decimal lists.1) (codes "/") (no-slash-among (map decimal lists.0) (indexes-parts.right lists.0 h)) refl

    right : (lists : List ℕ × List ℕ) → (list_all is_index lists.0 && list_all is_index lists.1) ≡ true → are_labels (map decimal lists.0 ++ codes "/" ∷ map decimal lists.1) ≡ true
    right lists h =
        let both = both_ranged lists h in
        let parts = map decimal lists.0 ++ codes "/" ∷ map decimal lists.1 in
        and_from (list_any is_slash parts) (list_all is_index_part (before_first is_slash parts) && list_all is_index_part (after_first is_slash parts))
        (slash-there (map decimal lists.0) (map decimal lists.1) (codes "/") refl)
        (and_from (list_all is_index_part (before_first is_slash parts)) (list_all is_index_part (after_first is_slash parts))
        (ap (list_all is_index_part) (before lists both.0) ∙ indexes-parts.right lists.0 both.0)
        (ap (list_all is_index_part) (after lists both.0) ∙ indexes-parts.right lists.1 both.1))

    same : (lists : List ℕ × List ℕ) → (list_all is_index lists.0 && list_all is_index lists.1) ≡ true
        → (numbers_of (before_first is_slash (map decimal lists.0 ++ codes "/" ∷ map decimal lists.1)), numbers_of (after_first is_slash (map decimal lists.0 ++ codes "/" ∷ map decimal lists.1))) ≡ lists
    same lists h =
        let both = both_ranged lists h in
        let xs = numbers_of (after_first is_slash (map decimal lists.0 ++ codes "/" ∷ map decimal lists.1)) in
        ap (λ ys. (ys, xs)) (ap numbers_of (before lists both.0) ∙ indexes-parts.same lists.0 both.0)
        ∙ ap (λ ys. (lists.0, ys)) (ap numbers_of (after lists both.0) ∙ indexes-parts.same lists.1 both.1)

-- ---- each tail

holds-steps : (items : Items) → keep_rules tails.Steps items ≡ true → Holds (List Step) Steps (list_all (λ step. is_index step.street)) items
holds-steps (Steps steps) h = record { value = steps; same = refl; in_range = h }
holds-steps _ h = absurd (false≢true h)

holds-set : (items : Items) → keep_rules tails.Set items ≡ true → Holds (List ℕ) Numbers is_set items
holds-set (Numbers set) h = record { value = set; same = refl; in_range = h }
holds-set _ h = absurd (false≢true h)

holds-indexes : (items : Items) → keep_rules tails.Indexes items ≡ true → Holds (List ℕ) Numbers (list_all is_index) items
holds-indexes (Numbers numbers) h = record { value = numbers; same = refl; in_range = h }
holds-indexes _ h = absurd (false≢true h)

holds-multipliers : (most : ℕ) (items : Items) → keep_rules (tails.Multipliers most) items ≡ true → Holds (List (ℕ × ℕ)) Pairs (are_multipliers most) items
holds-multipliers most (Pairs pairs) h = record { value = pairs; same = refl; in_range = h }
holds-multipliers most _ h = absurd (false≢true h)

holds-pairs : (most : ℕ) (items : Items) → keep_rules (tails.Pairs most) items ≡ true → Holds (List (ℕ × ℕ)) Pairs (are_pairs most) items
holds-pairs most (Pairs pairs) h = record { value = pairs; same = refl; in_range = h }
holds-pairs most _ h = absurd (false≢true h)

holds-lists : (items : Items) → keep_rules tails.Labels items ≡ true → Holds (List ℕ × List ℕ) (λ lists. TwoLists lists.0 lists.1) (λ lists. list_all is_index lists.0 && list_all is_index lists.1) items
holds-lists (TwoLists first second) h = record { value = (first, second); same = refl; in_range = h }
holds-lists _ h = absurd (false≢true h)

below_wide : (most : ℕ) → nat_lt most (2 ^ 64) ≡ true → most < 2 ^ 99
below_wide most h = let small : most < 2 ^ 64 = ltb-true most (2 ^ 64) h in omega arith

up_to_wide : (most : ℕ) → nat_le most (2 ^ 72) ≡ true → most < 2 ^ 99
up_to_wide most h = let small : most ≤ 2 ^ 72 = leb-true most (2 ^ 72) h in omega arith

pub tail-parts : (tail : Tail) → is_small_tail tail ≡ true → AreParts Items item_parts (items_of tail) (is_right_tail tail) (keep_rules tail)
tail-parts tails.Nothing short = no-items
tail-parts tails.Steps short = wrapped _ _ _ _ _ steps-parts Steps (keep_rules tails.Steps) (λ a. refl) (λ a. refl) holds-steps
tail-parts tails.Set short = wrapped _ _ _ _ _ set-parts Numbers (keep_rules tails.Set) (λ a. refl) (λ a. refl) holds-set
tail-parts tails.Indexes short = wrapped _ _ _ _ _ indexes-parts Numbers (keep_rules tails.Indexes) (λ a. refl) (λ a. refl) holds-indexes
tail-parts (tails.Multipliers most) short = wrapped _ _ _ _ _ (multipliers-parts most (below_wide most short)) Pairs (keep_rules (tails.Multipliers most)) (λ a. refl) (λ a. refl) (holds-multipliers most)
tail-parts (tails.Pairs most) short = wrapped _ _ _ _ _ (pairs-parts most (up_to_wide most short)) Pairs (keep_rules (tails.Pairs most)) (λ a. refl) (λ a. refl) (holds-pairs most)
tail-parts tails.Labels short = wrapped _ _ _ _ _ labels-parts (λ lists. TwoLists lists.0 lists.1) (keep_rules tails.Labels) (λ a. refl) (λ a. refl) holds-lists
