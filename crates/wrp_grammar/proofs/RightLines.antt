-- What is in its shape and keeps its rules, as a reader tries it.
use Rattle.std.proofs.Common.{inl, inr, Option, Some, None, ◌≡◌, ℕ, Bool, true, false, ◌&&◌, ◌||◌, cond, List, [], ◌∷◌, length, take, drop, refl, sym, ap, ◌∙◌}
use Rattle.std.proofs.Math.Bool.{and-false}
use Rattle.std.proofs.lemmas.Bool.{and_parts, and_from, cases_Bool}
use Rattle.std.specs.List.{list_all, list_any, before_first, after_first}
use Rattle.wrp_rules.specs.declared.layout.Range.{Range}
use Rattle.wrp_rules.specs.declared.layout.Tail.{Tail}
use Rattle.wrp_rules.specs.declared.layout.Tail.TheVariants as tails
use Rattle.wrp_rules.specs.Ranges.{is_index, is_from_one, is_in_range, is_set}
use Rattle.wrp_grammar.specs.Parts.{parts_of, is_spaced, number_of, numbers_of, is_digits, is_number, is_index_part, are_set_parts, is_sign, sign_of, street_part, is_step_shape, is_step, first_half, second_half, is_pair_shape, is_pair, are_multiplier_parts, are_pair_parts}
use Rattle.wrp_grammar.specs.Shapes.{is_slash, has_labels_shape, has_tail_shape, has_parts_shape}
use Rattle.wrp_grammar.specs.Numbers.{is_range_part, tail_keeps_rules, keeps_rules}
use Rattle.std.specs.Option.{option_map}
use Rattle.wrp_rules.specs.Contents.{Items, TwoLists, content}
use Rattle.wrp_rules.specs.declared.layout.Kind.{Kind}
use Rattle.wrp_rules.specs.Layouts.{layout_of}
use Rattle.wrp_grammar.specs.Spelling.{items_of, are_leading, content_of_parts, content_behind}
use Rattle.wrp_grammar.specs.Reading.{items_in}
use Rattle.wrp_grammar.proofs.Guards.{guard-some}
use Rattle.wrp_grammar.proofs.Positions.{before-here, after-here, before-more, after-more}
use Rattle.wrp_grammar.proofs.LabelLists.{is_the_slash, no_slash}
use Rattle.wrp_grammar.proofs.TailTexts.{is_right_tail, are_labels}
use Rattle.wrp_grammar.proofs.LayoutTexts.{is_read_line}

-- a test that another one implies
redundant : (a b : Bool) → (b ≡ true → a ≡ true) → (a && b) ≡ b
redundant true b f = refl
redundant false true f = f refl
redundant false false f = refl

weaker : {A : Type 0} (p q : A → Bool) → ((x : A) → p x ≡ true → q x ≡ true) → (xs : List A) → list_all p xs ≡ true → list_all q xs ≡ true
weaker p q f [] h = refl
weaker p q f (x ∷ xs) h =
    let both = and_parts (p x) (list_all p xs) h in
    and_from (q x) (list_all q xs) (f x both.0) (weaker p q f xs both.1)

-- ---- parts that are written right are in their shapes

number-digits : (part : List ℕ) → is_number part ≡ true → is_digits part ≡ true
number-digits part h = (and_parts (is_digits part) _ h).0

index-digits : (part : List ℕ) → is_index_part part ≡ true → is_digits part ≡ true
index-digits part h = number-digits part (and_parts (is_number part) (is_index (number_of part)) h).0

range-digits : (range : Range) (part : List ℕ) → is_range_part range part ≡ true → is_digits part ≡ true
range-digits range part h = number-digits part (and_parts (is_number part) (is_in_range range (number_of part)) h).0

step-shape : (part : List ℕ) → is_step part ≡ true → is_step_shape part ≡ true
step-shape part h =
    let both = and_parts (is_sign (sign_of part)) (is_index_part (street_part part)) h in
    and_from (is_sign (sign_of part)) (is_digits (street_part part)) both.0 (index-digits (street_part part) both.1)

pair-shape : (most : ℕ) (part : List ℕ) → is_pair most part ≡ true → is_pair_shape part ≡ true
pair-shape most part h =
    let second = is_number (second_half part) && is_from_one most (number_of (second_half part)) in
    let both = and_parts (is_index_part (first_half part)) second h in
    and_from (is_digits (first_half part)) (is_digits (second_half part)) (index-digits (first_half part) both.0)
    (number-digits (second_half part) (and_parts (is_number (second_half part)) (is_from_one most (number_of (second_half part))) both.1).0)

-- ---- labels

abbrev rest : List (List ℕ) → Bool
rest parts = list_all (λ part. is_slash part || is_index_part part) parts

-- digits that are numbers or slashes are numbers
numbers-only : (parts : List (List ℕ)) → (list_all is_digits parts && list_all (λ part. is_slash part || is_index_part part) parts) ≡ list_all is_index_part parts
numbers-only [] = refl
numbers-only (part ∷ parts) = one (is_index_part part) (is_slash part) (is_digits part) (list_all is_digits parts) (list_all (λ p. is_slash p || is_index_part p) parts) (list_all is_index_part parts)
    (index-digits part) (no_slash part) (λ h. slash_no_digits part h) (numbers-only parts)
  where
    slash_no_digits : (part : List ℕ) → is_slash part ≡ true → is_digits part ≡ false
    slash_no_digits part h = ap is_digits (is_the_slash part h)

    one : (index slash digits ds xs is : Bool) → (index ≡ true → digits ≡ true) → (index ≡ true → slash ≡ false) → (slash ≡ true → digits ≡ false) → (ds && xs) ≡ is → ((digits && ds) && ((slash || index) && xs)) ≡ (index && is)
    one true slash digits ds xs is f g h e = ap (λ d. (d && ds) && ((slash || true) && xs)) (f refl) ∙ ap (λ s. ds && ((s || true) && xs)) (g refl) ∙ e
    one false true digits ds xs is f g h e = ap (λ d. (d && ds) && xs) (h refl)
    one false false digits ds xs is f g h e = and-false (digits && ds)

-- one more number before the slash
more : (d i s k any b a : Bool) → (i ≡ true → d ≡ true) → (s && k) ≡ (any && (b && a)) → ((d && s) && (i && k)) ≡ (any && ((i && b) && a))
more d true s k any b a f e = ap (λ x. (x && s) && k) (f refl) ∙ e
more d false s k any b a f e = and-false (d && s) ∙ sym (and-false any)

labels-right : (parts : List (List ℕ)) → (has_labels_shape parts && list_all (λ part. is_slash part || is_index_part part) parts) ≡ are_labels parts
labels-right [] = refl
labels-right (part ∷ parts) = elim (cases_Bool (is_slash part)) [
  | inl here ↦ slash here
  | inr other ↦ number (labels-right parts) other
]
  where
    slash : is_slash part ≡ true → (has_labels_shape (part ∷ parts) && rest (part ∷ parts)) ≡ are_labels (part ∷ parts)
    slash here =
        ap (λ b. cond b (list_all is_digits parts) (is_digits part && has_labels_shape parts) && ((b || is_index_part part) && rest parts)) here
        ∙ numbers-only parts
        ∙ sym (ap (λ b. (b || list_any is_slash parts) && (list_all is_index_part (before_first is_slash (part ∷ parts)) && list_all is_index_part (after_first is_slash (part ∷ parts)))) here
        ∙ ap (λ xs. list_all is_index_part xs && list_all is_index_part (after_first is_slash (part ∷ parts))) (before-here is_slash part parts here)
        ∙ ap (list_all is_index_part) (after-here is_slash part parts here))

    number : (has_labels_shape parts && rest parts) ≡ are_labels parts → is_slash part ≡ false → (has_labels_shape (part ∷ parts) && rest (part ∷ parts)) ≡ are_labels (part ∷ parts)
    number here other =
        ap (λ b. cond b (list_all is_digits parts) (is_digits part && has_labels_shape parts) && ((b || is_index_part part) && rest parts)) other
        ∙ more (is_digits part) (is_index_part part) (has_labels_shape parts) (rest parts) (list_any is_slash parts) (list_all is_index_part (before_first is_slash parts)) (list_all is_index_part (after_first is_slash parts))
        (index-digits part) here
        ∙ sym (ap (λ b. (b || list_any is_slash parts) && (list_all is_index_part (before_first is_slash (part ∷ parts)) && list_all is_index_part (after_first is_slash (part ∷ parts)))) other
        ∙ ap (λ xs. list_any is_slash parts && (list_all is_index_part xs && list_all is_index_part (after_first is_slash (part ∷ parts)))) (before-more is_slash part parts other)
        ∙ ap (λ xs. list_any is_slash parts && ((is_index_part part && list_all is_index_part (before_first is_slash parts)) && list_all is_index_part xs)) (after-more is_slash part parts other))

-- ---- what follows the leading numbers

pub tail-right : (tail : Tail) (parts : List (List ℕ)) → (has_tail_shape tail parts && tail_keeps_rules tail parts) ≡ is_right_tail tail parts
tail-right tails.Nothing [] = refl
tail-right tails.Nothing (part ∷ parts) = refl
tail-right tails.Steps parts = redundant (list_all is_step_shape parts) (list_all is_step parts) (weaker is_step is_step_shape step-shape parts)
tail-right tails.Set parts = redundant (list_all is_digits parts) (are_set_parts parts) (λ h. weaker is_index_part is_digits index-digits parts (and_parts (list_all is_index_part parts) (is_set (numbers_of parts)) h).0)
tail-right tails.Indexes parts = redundant (list_all is_digits parts) (list_all is_index_part parts) (weaker is_index_part is_digits index-digits parts)
tail-right (tails.Multipliers most) parts = redundant (list_all is_pair_shape parts) (are_multiplier_parts most parts) (λ h. weaker (is_pair most) is_pair_shape (pair-shape most) parts (and_parts (list_all (is_pair most) parts) _ h).0)
tail-right (tails.Pairs most) parts = redundant (list_all is_pair_shape parts) (are_pair_parts most parts) (λ h. weaker (is_pair most) is_pair_shape (pair-shape most) parts (and_parts (list_all (is_pair most) parts) _ h).0)
tail-right tails.Labels parts = labels-right parts

-- ---- the whole

one-number : (d r s k l t : Bool) → (r ≡ true → d ≡ true) → (s && k) ≡ (l && t) → ((d && s) && (r && k)) ≡ ((r && l) && t)
one-number d true s k l t f e = ap (λ b. (b && s) && k) (f refl) ∙ e
one-number d false s k l t f e = and-false (d && s)

pub line-right : (ranges : List Range) (tail : Tail) (parts : List (List ℕ)) → (has_parts_shape ranges tail parts && keeps_rules ranges tail parts) ≡ is_read_line ranges tail parts
line-right [] tail parts = tail-right tail parts
line-right (range ∷ ranges) tail [] = refl
line-right (range ∷ ranges) tail (part ∷ parts) =
    one-number (is_digits part) (is_range_part range part) (has_parts_shape ranges tail parts) (keeps_rules ranges tail parts) (are_leading ranges parts) (is_right_tail tail (drop (length ranges) parts))
    (range-digits range part) (line-right ranges tail parts)

-- ---- what a reader gives

chosen : {A B : Type 0} (f : A → B) (b : Bool) (x : A) → option_map f (cond b (Some x) None) ≡ cond b (Some (f x)) None
chosen f true x = refl
chosen f false x = refl

-- the items of a tail, read as such values
pub read-items : {A : Type 0} (wrap : A → Items) (tail : Tail) (parts : List (List ℕ)) (value : A) (r : Option A) → r ≡ cond (is_right_tail tail parts) (Some value) None → wrap value ≡ items_of tail parts
    → option_map wrap r ≡ items_in tail parts
read-items wrap tail parts value r h e =
    ap (option_map wrap) h ∙ chosen wrap (is_right_tail tail parts) value ∙ ap (λ x. cond (is_right_tail tail parts) (Some x) None) e
    ∙ sym (ap (λ b. cond b (Some (items_of tail parts)) None) (tail-right tail parts))

-- labels and streets, read as two lists
pub no-labels : (parts : List (List ℕ)) → are_labels parts ≡ false → None ≡ items_in tails.Labels parts
no-labels parts h = read-items {A = Items} (λ items. items) tails.Labels parts (items_of tails.Labels parts) None (ap (λ b. cond b (Some (items_of tails.Labels parts)) None) (sym h)) refl

pub labels-there : (parts : List (List ℕ)) (labels streets : List ℕ) → list_any is_slash parts ≡ true
    → Some labels ≡ cond (list_all is_index_part (before_first is_slash parts)) (Some (numbers_of (before_first is_slash parts))) None
    → Some streets ≡ cond (list_all is_index_part (after_first is_slash parts)) (Some (numbers_of (after_first is_slash parts))) None
    → Some (TwoLists labels streets) ≡ items_in tails.Labels parts
labels-there parts labels streets some h k =
    let one = guard-some (list_all is_index_part (before_first is_slash parts)) (numbers_of (before_first is_slash parts)) labels h in
    let two = guard-some (list_all is_index_part (after_first is_slash parts)) (numbers_of (after_first is_slash parts)) streets k in
    let right : are_labels parts ≡ true = and_from (list_any is_slash parts) (list_all is_index_part (before_first is_slash parts) && list_all is_index_part (after_first is_slash parts)) some
    (and_from (list_all is_index_part (before_first is_slash parts)) (list_all is_index_part (after_first is_slash parts)) one.0 two.0) in
    read-items {A = Items} (λ items. items) tails.Labels parts (items_of tails.Labels parts) (Some (TwoLists labels streets))
    (ap (λ ns. Some (TwoLists ns streets)) one.1 ∙ ap (λ ns. Some (TwoLists (numbers_of (before_first is_slash parts)) ns)) two.1 ∙ ap (λ b. cond b (Some (items_of tails.Labels parts)) None) (sym right)) refl

-- ---- what stands behind the word of a line

cond-of : {A : Type 0} (b c : Bool) (x : A) → b ≡ c → cond b (Some x) None ≡ cond c (Some x) None
cond-of b c x e = ap (λ d. cond d (Some x) None) e

-- by the leading numbers and what follows them
behind : (kind : Kind) (left : List ℕ) → is_spaced left ≡ true
    → content_behind kind left ≡ cond (is_read_line (layout_of kind).numbers (layout_of kind).tail (parts_of left)) (Some (content_of_parts kind (parts_of left))) None
behind kind left spaced =
    cond-of ((is_spaced left && has_parts_shape (layout_of kind).numbers (layout_of kind).tail (parts_of left)) && keeps_rules (layout_of kind).numbers (layout_of kind).tail (parts_of left)) _ _
    (ap (λ b. (b && has_parts_shape (layout_of kind).numbers (layout_of kind).tail (parts_of left)) && keeps_rules (layout_of kind).numbers (layout_of kind).tail (parts_of left)) spaced
    ∙ line-right (layout_of kind).numbers (layout_of kind).tail (parts_of left))

-- the numbers aren't those of the layout
pub no-content : (kind : Kind) (left : List ℕ) (ranges : List Range) → ranges ≡ (layout_of kind).numbers → is_spaced left ≡ true → are_leading ranges (parts_of left) ≡ false → content_behind kind left ≡ None
no-content kind left ranges e spaced none =
    behind kind left spaced
    ∙ cond-of _ false _ (ap (λ b. b && is_right_tail (layout_of kind).tail (drop (length (layout_of kind).numbers) (parts_of left))) (ap (λ r. are_leading r (parts_of left)) (sym e) ∙ none))

-- the numbers are those of the layout, and so are these items
items-there : (kind : Kind) (left : List ℕ) (others : List (List ℕ)) (items : Option Items) → is_spaced left ≡ true → are_leading (layout_of kind).numbers (parts_of left) ≡ true
    → others ≡ drop (length (layout_of kind).numbers) (parts_of left) → items ≡ items_in (layout_of kind).tail others
    → option_map (content kind (numbers_of (take (length (layout_of kind).numbers) (parts_of left)))) items ≡ content_behind kind left
items-there kind left others items spaced leading rest h =
    let tail = (layout_of kind).tail in
    let parts = parts_of left in
    let behind_numbers = drop (length (layout_of kind).numbers) parts in
    let with_items = content kind (numbers_of (take (length (layout_of kind).numbers) parts)) in
    ap (option_map with_items) (h ∙ ap (items_in tail) rest)
    ∙ ap (λ b. option_map with_items (cond b (Some (items_of tail behind_numbers)) None)) (tail-right tail behind_numbers)
    ∙ chosen with_items (is_right_tail tail behind_numbers) (items_of tail behind_numbers)
    ∙ cond-of (is_right_tail tail behind_numbers) (are_leading (layout_of kind).numbers parts && is_right_tail tail behind_numbers) (content_of_parts kind parts)
    (ap (λ b. b && is_right_tail tail behind_numbers) (sym leading))
    ∙ sym (behind kind left spaced)

pub content-there : (kind : Kind) (left others : List ℕ) (ranges : List Range) (tail : Tail) (items : Option Items) → ranges ≡ (layout_of kind).numbers → tail ≡ (layout_of kind).tail
    → is_spaced left ≡ true → are_leading ranges (parts_of left) ≡ true → parts_of others ≡ drop (length ranges) (parts_of left) → items ≡ items_in tail (parts_of others)
    → option_map (content kind (numbers_of (take (length ranges) (parts_of left)))) items ≡ content_behind kind left
content-there kind left others ranges tail items e f spaced leading rest h =
    ap (λ r. option_map (content kind (numbers_of (take (length r) (parts_of left)))) items) e
    ∙ items-there kind left (parts_of others) items spaced (ap (λ r. are_leading r (parts_of left)) (sym e) ∙ leading)
    (rest ∙ ap (λ r. drop (length r) (parts_of left)) e) (h ∙ ap (λ t. items_in t (parts_of others)) f)
