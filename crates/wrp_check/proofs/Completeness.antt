-- The checker accepts each proof.
use Rattle.std.proofs.Common.{codes, inl, inr, ◌≡◌, ℕ, ◌+◌, ◌<◌, ◌≤◌, ◌^◌, min, Bool, true, false, cond, ◌&&◌, not, ◌==◌, nat_lt, ℤ, pos, ◌≤ℤ◌, int_lt, int_le, List, [], ◌∷◌, ◌++◌, map, drop, length, fold, Option, None, Some, IfSome, is_none, Ok, refl, sym, ap, ◌∙◌, subst, arith, length-append, append_assoc}
use Rattle.std.specs.Char.{is_ascii_digit}
use Rattle.std.specs.Fmt.{decimal}
use Rattle.std.specs.Int.{int_min}
use Rattle.std.specs.Option.{option_map_or, option_or, option_map}
use Rattle.std.specs.List.{AllByRecursion, list_all, list_any, filter, before_first, after_first}
use Rattle.std.proofs.lemmas.Bool.{and_parts, and_from, or_from, le-ltb, lt-ltb, ltb-true, eqb-true, false≢true}
use Rattle.std.proofs.lemmas.Bool.Decides.{nat_tests}
use Rattle.std.proofs.lemmas.Fmt.{length-decimal-le}
use Rattle.std.proofs.lemmas.List.Folds.{list_all-append}
use Rattle.wrp_sums.proofs.Integers.{linear, tests}
use Rattle.wrp_town.specs.declared.town.Town.{Town}
use Rattle.wrp_rules.specs.declared.layout.Kind.{Kind}
use Rattle.wrp_rules.specs.declared.layout.Kind.TheVariants as kinds
use Rattle.wrp_rules.specs.declared.layout.Range.{Range}
use Rattle.wrp_rules.specs.declared.layout.Tail.{Tail}
use Rattle.wrp_rules.specs.declared.layout.Tail.TheVariants as tails
use Rattle.wrp_rules.specs.declared.record.Record.{Record}
use Rattle.wrp_rules.specs.declared.record.Record.TheVariants.{Tour, Odd}
use Rattle.wrp_rules.specs.declared.record.End.{End}
use Rattle.wrp_rules.specs.declared.record.End.TheVariants.{Optimal, Infeasible, Unfinished}
use Rattle.wrp_rules.specs.declared.rule.Rule.{Rule}
use Rattle.wrp_rules.specs.declared.rule.Rule.TheVariants as rules
use Rattle.wrp_rules.specs.Layouts.{layout_of}
use Rattle.wrp_rules.specs.Nodes.{Node, Standing, start, after, standing, is_below, is_open, open_nodes, least_bound, lower}
use Rattle.wrp_rules.specs.Lines.{line_with, line_of, end_line}
use Rattle.wrp_rules.specs.Lists.{goes_on, is_done, is_upper, agrees}
use Rattle.wrp_rules.specs.Contents.{Content, content_of, content_of_end, keeps_number_rules, has_number_rules, has_end_numbers}
use Rattle.wrp_rules.specs.Ranges.{is_index, is_count, is_from_one, is_in_range, is_set, are_pairs, are_multipliers}
use Rattle.wrp_rules.specs.Rules.{first_broken, rules_of, is_alone, broken_rule, int_eq}
use Rattle.wrp_rules.specs.Proofs.{Version, version_1, version_2, most_bytes, ended, record_lines, IsProofBy, IsProof}
use Rattle.wrp_grammar.specs.Parts.{number_of, is_number, is_index_part, is_sign, sign_of, street_part, is_step, first_half, second_half, is_pair, pair_of, numbers_of}
use Rattle.wrp_grammar.specs.Shapes.{is_slash}
use Rattle.wrp_grammar.specs.Numbers.{is_range_part}
use Rattle.wrp_grammar.specs.Spelling.{are_leading}
use Rattle.wrp_grammar.proofs.Written.{ends}
use Rattle.wrp_grammar.proofs.WrittenPairs.{number_digits, halves-whole}
use Rattle.wrp_grammar.proofs.Spacing.{spread}
use Rattle.wrp_grammar.proofs.LabelLists.{label-whole}
use Rattle.wrp_grammar.proofs.TailTexts.{is_right_tail}
use Rattle.wrp_grammar.proofs.LayoutTexts.{line_parts, is_read_line}
use Rattle.wrp_grammar.proofs.KindLines.{kind-parts}
use Rattle.wrp_proof.proofs.LineLaws.{line-spelled, end_line-spelled}
use Rattle.wrp_check.specs.Streams.{is_one_line}
use Rattle.wrp_proof.specs.JudgedLines.{judged_line, judged_end, is_end}
use Rattle.wrp_check.specs.Verdicts.{Accepted, is_long, limit_of, verdict_on, verdict}
use Rattle.wrp_check.proofs.VerdictSteps.{behind_records, verdict-goes, verdict-accepted, verdict-started}

-- ---- parts that are written right have no line feed

digits-one : (xs : List ℕ) → list_all is_ascii_digit xs ≡ true → is_one_line xs ≡ true
digits-one [] h = refl
digits-one (x ∷ xs) h =
    let both = and_parts (is_ascii_digit x) (list_all is_ascii_digit xs) h in
    and_from (not (x == 10)) (is_one_line xs) (apart x both.0) (digits-one xs both.1)
  where
    apart : (c : ℕ) → is_ascii_digit c ≡ true → not (c == 10) ≡ true
    apart c h = grind (arith, nat_tests)

number-one : (part : List ℕ) → is_number part ≡ true → is_one_line part ≡ true
number-one part h = digits-one part (number_digits part h).1

-- two texts in a row
both-one : (xs ys : List ℕ) → is_one_line xs ≡ true → is_one_line ys ≡ true → is_one_line (xs ++ ys) ≡ true
both-one xs ys one two = list_all-append (λ byte. not (byte == 10)) xs ys ∙ and_from (is_one_line xs) (is_one_line ys) one two

index-one : (part : List ℕ) → is_index_part part ≡ true → is_one_line part ≡ true
index-one part h = number-one part (and_parts (is_number part) (is_index (number_of part)) h).0

step-one : (part : List ℕ) → is_step part ≡ true → is_one_line part ≡ true
step-one part h =
    let both = and_parts (is_sign (sign_of part)) (is_number (street_part part) && is_index (number_of (street_part part))) h in
    let street = (and_parts (is_number (street_part part)) (is_index (number_of (street_part part))) both.1).0 in
    ap is_one_line (sym (ends part (some part both.0)))
    ∙ both-one (street_part part) (sign_of part ∷ []) (number-one (street_part part) street) (sign (sign_of part) both.0)
  where
    some : (xs : List ℕ) → is_sign (sign_of xs) ≡ true → 0 < length xs
    some [] h = absurd (false≢true h)
    some (x ∷ xs) h = omega arith

    sign : (c : ℕ) → is_sign c ≡ true → is_one_line (c ∷ []) ≡ true
    sign c h = grind (arith, nat_tests)

pair-one : (most : ℕ) (part : List ℕ) → is_pair most part ≡ true → is_one_line part ≡ true
pair-one most part h =
    let first = first_half part in
    let second = second_half part in
    let both = and_parts (is_number first && is_index (number_of first)) (is_number second && is_from_one most (number_of second)) h in
    let one = (and_parts (is_number first) (is_index (number_of first)) both.0).0 in
    let two = (and_parts (is_number second) (is_from_one most (number_of second)) both.1).0 in
    ap is_one_line (sym (halves-whole part (number_digits second two).0))
    ∙ both-one first (58 ∷ second) (number-one first one) (number-one second two)

-- parts that are each written right
all-one : (is_right : List ℕ → Bool) (parts : List (List ℕ)) → ((part : List ℕ) → is_right part ≡ true → is_one_line part ≡ true) → list_all is_right parts ≡ true → list_all is_one_line parts ≡ true
all-one is_right [] one h = refl
all-one is_right (part ∷ parts) one h =
    let both = and_parts (is_right part) (list_all is_right parts) h in
    and_from (is_one_line part) (list_all is_one_line parts) (one part both.0) (all-one is_right parts one both.1)

labels-one : (parts : List (List ℕ)) → is_right_tail tails.Labels parts ≡ true → list_all is_one_line parts ≡ true
labels-one parts h =
    let first = before_first is_slash parts in
    let second = after_first is_slash parts in
    let some = and_parts (list_any is_slash parts) (list_all is_index_part first && list_all is_index_part second) h in
    let both = and_parts (list_all is_index_part first) (list_all is_index_part second) some.1 in
    ap (list_all is_one_line) (label-whole parts some.0)
    ∙ list_all-append is_one_line first (codes "/" ∷ second)
    ∙ and_from (list_all is_one_line first) (list_all is_one_line second) (all-one is_index_part first index-one both.0) (all-one is_index_part second index-one both.1)

tail-one : (tail : Tail) (parts : List (List ℕ)) → is_right_tail tail parts ≡ true → list_all is_one_line parts ≡ true
tail-one tails.Nothing [] h = refl
tail-one tails.Nothing (part ∷ parts) h = absurd (false≢true h)
tail-one tails.Steps parts h = all-one is_step parts step-one h
tail-one tails.Set parts h = all-one is_index_part parts index-one (and_parts (list_all is_index_part parts) (is_set (numbers_of parts)) h).0
tail-one tails.Indexes parts h = all-one is_index_part parts index-one h
tail-one (tails.Multipliers most) parts h = all-one (is_pair most) parts (pair-one most) (and_parts (list_all (is_pair most) parts) (are_multipliers most (map pair_of parts)) h).0
tail-one (tails.Pairs most) parts h = all-one (is_pair most) parts (pair-one most) (and_parts (list_all (is_pair most) parts) (are_pairs most (map pair_of parts)) h).0
tail-one tails.Labels parts h = labels-one parts h

-- and so are the leading numbers and what follows them
parts-one : (ranges : List Range) (tail : Tail) (parts : List (List ℕ)) → is_read_line ranges tail parts ≡ true → list_all is_one_line parts ≡ true
parts-one [] tail parts h = tail-one tail parts h
parts-one (range ∷ ranges) tail [] h = absurd (false≢true h)
parts-one (range ∷ ranges) tail (part ∷ parts) h =
    let right = is_right_tail tail (drop (length ranges) parts) in
    let all = and_parts (is_range_part range part && are_leading ranges parts) right h in
    let both = and_parts (is_range_part range part) (are_leading ranges parts) all.0 in
    and_from (is_one_line part) (list_all is_one_line parts)
    (number-one part (and_parts (is_number part) (is_in_range range (number_of part)) both.0).0)
    (parts-one ranges tail parts (and_from (are_leading ranges parts) right both.1 all.1))

-- ---- lines of records and ends

spread-one : (parts : List (List ℕ)) → list_all is_one_line parts ≡ true → is_one_line (spread parts) ≡ true
spread-one [] h = refl
spread-one (part ∷ parts) h =
    let both = and_parts (is_one_line part) (list_all is_one_line parts) h in
    both-one part (spread parts) both.0 (spread-one parts both.1)

word-one : (kind : Kind) → is_one_line (layout_of kind).word ≡ true
word-one kinds.Odd = refl
word-one _ = refl

-- the line of a content that keeps the rules has no line feed
line-one : (c : Content) → keeps_number_rules c ≡ true → is_one_line (line_with c) ≡ true
line-one c h =
    let parts = line_parts (c.numbers, c.items) in
    let right = (kind-parts c.kind).right (c.numbers, c.items) h in
    both-one (layout_of c.kind).word (spread parts) (word-one c.kind)
    (spread-one parts (parts-one (layout_of c.kind).numbers (layout_of c.kind).tail parts right))

-- a record's line isn't read as an end line, and the line of an end is
no-end : (item : Record) → is_end (line_of item) ≡ false
no-end (Odd set) = refl
no-end _ = refl

end-is_end : (end : End) → is_end (end_line end) ≡ true
end-is_end Infeasible = refl
end-is_end _ = refl

-- the checker's judgement of the line of a record that keeps the rules
item-judged : (town : Town) (s : Standing) (item : Record) → has_number_rules item ≡ true → broken_rule town s item ≡ None → judged_line town s (line_of item) ≡ Ok item
item-judged town s item numbers unbroken =
    let spells = line-spelled (line_of item) item (record { text = refl; numbers = numbers }) in
    rw (spells, unbroken) refl

-- ---- the end line

end-judged : (s : Standing) (end : End) → has_end_numbers end ≡ true → agrees s end ≡ true → judged_end s (end_line end) ≡ Ok end
end-judged s end numbers agreed =
    let spells = end_line-spelled (end_line end) end (record { text = refl; numbers = numbers }) in
    rw (spells, agreed) refl

count-short : (n : ℕ) → is_count n ≡ true → length (decimal n) ≤ 20
count-short n h =
    let small : n < 2 ^ 63 = ltb-true n (2 ^ 63) h in
    length-decimal-le 20 n (omega arith) (omega arith) (omega arith)

end-short : (end : End) → has_end_numbers end ≡ true → length (end_line end) ≤ 2 ^ 24
end-short (Optimal cost) h =
    let digits = count-short cost (and_parts (is_count cost) true (and_parts (is_count cost && true) true h).0).0 in
    let all = length-append (decimal cost) [] in
    omega (arith, digits, all)
end-short Infeasible h = omega arith
end-short (Unfinished low high) h =
    let both = and_parts (is_count low) (is_count high && true) (and_parts (is_count low && (is_count high && true)) true h).0 in
    let first = count-short low both.0 in
    let second = count-short high (and_parts (is_count high) true both.1).0 in
    let all = length-append (decimal low) (32 ∷ decimal high ++ []) in
    let last = length-append (decimal high) [] in
    omega (arith, first, second, all, last)

-- ---- the numbers of an end that agrees are counts

at-most-count : (a b : ℕ) → is_count b ≡ true → a ≤ b → is_count a ≡ true
at-most-count a b count below = let small : b < 2 ^ 63 = ltb-true b (2 ^ 63) count in lt-ltb a (2 ^ 63) (omega arith)

min-count : (a b : ℕ) → is_count a ≡ true → is_count (min a b) ≡ true
min-count a b count = at-most-count (min a b) a count (omega arith)

tour-counted : (upper : Option ℕ) (cost : ℕ) → option_map_or is_count upper true ≡ true → is_count cost ≡ true → is_count (option_map_or (min cost) upper cost) ≡ true
tour-counted None cost h count = count
tour-counted (Some other) cost h count = min-count cost other count

item-counted : (town : Town) (s : Standing) (item : Record) → has_number_rules item ≡ true → option_map_or is_count s.upper true ≡ true → option_map_or is_count (after town s item).upper true ≡ true
item-counted town s (Tour cost steps) h upper = tour-counted s.upper cost upper (and_parts (is_count cost) true (and_parts (is_count cost && true) (list_all (λ step. is_index step.street) steps) h).0).0
item-counted town s _ h upper = upper

-- the first of these records, and the others
record First (town : Town) (s : Standing) (item : Record) (items : List Record) : Type 0 where
  unbroken : broken_rule town s item ≡ None
  numbers : has_number_rules item ≡ true
  valid : goes_on town (after town s item) items ≡ true

none_is : (o : Option Rule) → is_none o ≡ true → o ≡ None
none_is None h = refl
none_is (Some rule) h = absurd (false≢true h)

some_bad : (rule : Rule) → Some rule ≡ None → ⊥
some_bad rule h = cc

-- the first rule of each record is that of its numbers
numbers_kept : (numbers : Bool) (others : List (Rule × Bool)) → first_broken ((rules.Number, numbers) ∷ others) ≡ None → numbers ≡ true
numbers_kept true others h = refl
numbers_kept false others h = absurd (some_bad rules.Number h)

first_of_records : (town : Town) (s : Standing) (item : Record) (items : List Record) → goes_on town s (item ∷ items) ≡ true → First town s item items
first_of_records town s item items valid =
    let both = and_parts (is_none (broken_rule town s item)) (goes_on town (after town s item) items) valid in
    let unbroken = none_is (broken_rule town s item) both.0 in
    record {
      unbroken = unbroken;
      numbers = numbers_kept (has_number_rules item) ((rules.Lonely, is_alone s item) ∷ rules_of town s item) unbroken;
      valid = both.1;
    }

all-counted : (town : Town) (s : Standing) (records : List Record) → goes_on town s records ≡ true → option_map_or is_count s.upper true ≡ true → option_map_or is_count (fold (after town) s records).upper true ≡ true
all-counted town s [] valid upper = upper
all-counted town s (item ∷ items) valid upper =
    let first = first_of_records town s item items valid in
    all-counted town (after town s item) items first.valid (item-counted town s item first.numbers upper)

cost-counted : (upper : Option ℕ) (cost : ℕ) → option_map_or is_count upper true ≡ true → option_map_or (λ other. other == cost) upper false ≡ true → is_count cost ≡ true
cost-counted None cost h same = absurd (false≢true same)
cost-counted (Some other) cost h same = subst (λ n. is_count n ≡ true) (eqb-true other cost same) h

-- a bound, where there is one, is at most this cost
abbrev IsWithin : ℕ → Option ℤ → Type 0
IsWithin cost o = IfSome o (λ bound. bound ≤ℤ pos cost)

-- the bound of an open node is below the cheapest tour, and so is the least of these
least-within : (upper : Option ℕ) (cost : ℕ) → option_map_or (λ other. other == cost) upper false ≡ true → (nodes : List Node) → IsWithin cost (least_bound (filter (is_open upper) nodes))
least-within upper cost same [] = tt
least-within upper cost same (node ∷ nodes) = by (is_open upper node) refl (least-within upper cost same nodes)
  where
    others : List Node
    others = filter (is_open upper) nodes

    below : (o : Option ℕ) → option_map_or (λ other. other == cost) o false ≡ true → is_below node.bound o ≡ true → node.bound ≤ℤ pos cost
    below None none h = absurd (false≢true none)
    below (Some other) is h = let at = eqb-true other cost is in omega (arith, linear, tests)

    least : (o : Option ℤ) → node.bound ≤ℤ pos cost → IsWithin cost o → option_map_or (int_min node.bound) o node.bound ≤ℤ pos cost
    least None h rest = h
    least (Some bound) h rest = one_of (int_lt bound node.bound)
      where
        one_of : (b : Bool) → cond b bound node.bound ≤ℤ pos cost
        one_of true = rest
        one_of false = h

    by : (b : Bool) → is_open upper node ≡ b → IsWithin cost (least_bound others) → IsWithin cost (least_bound (cond b (node ∷ others) others))
    by true open_at rest = least (least_bound others) (below upper same (and_parts (not node.is_closed) (is_below node.bound upper) open_at).1) rest
    by false closed rest = rest

low-counted : (upper : Option ℕ) (least : Option ℤ) (low high : ℕ) → is_count high ≡ true → option_map_or (λ other. other == high) upper false ≡ true → IsWithin high least → option_map_or (int_eq (pos low)) (option_or least (option_map pos upper)) false ≡ true → is_count low ≡ true
low-counted upper (Some bound) low high count same most is =
    let both = and_parts (int_le (pos low) bound) (int_le bound (pos low)) is in
    at-most-count low high count (omega (arith, linear, tests))
low-counted None None low high count same most is = absurd (false≢true is)
low-counted (Some other) None low high count same most is =
    let both = and_parts (int_le (pos low) (pos other)) (int_le (pos other) (pos low)) is in
    let at = eqb-true other high same in
    at-most-count low high count (omega (arith, linear, tests))

end-counted : (s : Standing) (end : End) → option_map_or is_count s.upper true ≡ true → agrees s end ≡ true → has_end_numbers end ≡ true
end-counted s (Optimal cost) upper agreed =
    let count = cost-counted s.upper cost upper (and_parts (is_done s) (is_upper s cost) agreed).1 in
    and_from (is_count cost && true) true (and_from (is_count cost) true count refl) refl
end-counted s Infeasible upper agreed = refl
end-counted s (Unfinished low high) upper agreed =
    let both = and_parts (not (is_done s) && is_upper s high) (option_map_or (int_eq (pos low)) (lower s) false) agreed in
    let same = (and_parts (not (is_done s)) (is_upper s high) both.0).1 in
    let count = cost-counted s.upper high upper same in
    let first = low-counted s.upper (least_bound (open_nodes s)) low high count same (least-within s.upper high same s.nodes) both.1 in
    and_from (is_count low && (is_count high && true)) true (and_from (is_count low) (is_count high && true) first (and_from (is_count high) true count refl)) refl

-- ---- all lines

short : (limit taken own : ℕ) (line : List ℕ) → length line ≤ limit → taken + own ≤ 2 ^ 40 → is_long limit taken line own ≡ false
short limit taken own line low fits = or_from (nat_lt limit (length line)) (nat_lt most_bytes (taken + own)) (le-ltb limit (length line) low) (le-ltb most_bytes (taken + own) fits)

-- the lines of records, and of the end that agrees with them
lines-accepted : (town : Town) (limit : ℕ) (s : Standing) (number taken : ℕ) (records : List Record) (end : End) → 2 ^ 24 ≤ limit → has_end_numbers end ≡ true → goes_on town s records ≡ true → agrees (fold (after town) s records) end ≡ true → AllByRecursion (λ item. length (line_of item) ≤ limit) records → taken + length (record_lines records ++ ended (end_line end)) ≤ 2 ^ 40 → verdict_on town (behind_records limit s number taken) (record_lines records ++ ended (end_line end)) ≡ Accepted end
lines-accepted town limit s number taken [] end high numbers valid agreed low whole =
    let line = end_line end in
    let few = end-short end numbers in
    let all = length-append line (10 ∷ []) in
    verdict-accepted town limit s number taken line [] (line-one (content_of_end end) numbers) (short limit taken (length line + 1) line (omega (arith, few)) (omega (arith, whole, all))) end (end-is_end end) (end-judged s end numbers agreed) refl
lines-accepted town limit s number taken (item ∷ items) end high numbers valid agreed low whole =
    let first = first_of_records town s item items valid in
    let line = line_of item in
    let tail = ended (end_line end) in
    let bytes = record_lines items ++ tail in
    let cut : (ended line ++ record_lines items) ++ tail ≡ line ++ 10 ∷ bytes = append_assoc (ended line) (record_lines items) tail ∙ append_assoc line (10 ∷ []) bytes in
    let size = ap length cut in
    let all = length-append line (10 ∷ bytes) in
    ap (verdict_on town (behind_records limit s number taken)) cut
    ∙ verdict-goes town limit s number taken line bytes (line-one (content_of item) first.numbers) (short limit taken (length line + 1) line low.0 (omega (arith, whole, size, all))) item (no-end item) (item-judged town s item first.numbers first.unbroken)
    ∙ lines-accepted town limit (after town s item) (number + 1) (taken + (length line + 1)) items end high numbers first.valid agreed low.1 (omega (arith, whole, size, all))

-- ---- whole proofs

-- behind a version line that the town may use
version-accepted : (town : Town) (version : Version) (records : List Record) (end : End) (bytes : List ℕ) → is_one_line version.line ≡ true → is_long version_1.limit 0 version.line (length version.line + 1) ≡ false → limit_of town version.line ≡ Some version.limit → 2 ^ 24 ≤ version.limit → IsProofBy town version records end bytes → verdict town bytes ≡ Accepted end
version-accepted town version records end bytes one low named high proved =
    let tail = ended (end_line end) in
    let behind = record_lines records ++ tail in
    let numbers = end-counted (standing town records) end (all-counted town (start town) records proved.valid refl) proved.agreeing in
    let cut : bytes ≡ version.line ++ 10 ∷ behind = proved.text ∙ append_assoc (ended version.line) (record_lines records) tail ∙ append_assoc version.line (10 ∷ []) behind in
    let size = ap length cut in
    let all = length-append version.line (10 ∷ behind) in
    let whole = proved.whole in
    ap (verdict town) cut
    ∙ verdict-started town version.line behind version.limit one low named
    ∙ lines-accepted town version.limit (start town) 2 (length version.line + 1) records end high numbers proved.valid proved.agreeing proved.lines (omega (arith, whole, size, all))

-- each proof is accepted
pub proof_is_accepted : (town : Town) (end : End) (bytes : List ℕ) → IsProof town end bytes → verdict town bytes ≡ Accepted end
proof_is_accepted town end bytes (records, inl second) = version-accepted town version_2 records end bytes refl refl refl (omega arith) second
proof_is_accepted town end bytes (records, inr (small, first)) = version-accepted town version_1 records end bytes refl refl (ap (λ b. cond b (Some version_1.limit) None) small) (omega arith) first
