-- The Round form of an odd cut keeps its rules.
use Rattle.std.proofs.Common.{◌≡◌, ℕ, suc, ◌+◌, ◌-◌, ◌*◌, ◌%◌, ◌^◌, ◌<◌, ◌≤◌, Bool, true, false, cond, ◌&&◌, not, ◌==◌, ℤ, unsigned_abs, List, [], ◌∷◌, ◌++◌, map, filter, length, Option, None, Some, ap, refl, sym, ◌∙◌, subst, arith, length-append}
use Rattle.std.specs.Prelude.{codes, nat_le, nat_lt, if◌then◌else◌}
use Rattle.std.specs.Fmt.{decimal}
use Rattle.std.specs.List.{flat_map, list_all, enumerate_from}
use Rattle.std.proofs.lemmas.Bool.{and_from, and_parts, ltb-true, leb-true, lt-ltb, le-leb, true≢false}
use Rattle.std.proofs.lemmas.List.Folds.{list_all-append}
use Rattle.wrp_town.specs.declared.town.Town.{Town}
use Rattle.wrp_town.specs.Arcs.{demands}
use Rattle.wrp_town.proofs.TownLaws.{few_junctions, few_demands}
use Rattle.std.proofs.lemmas.List.Sums.{count_by-le-length}
use Rattle.wrp_rules.specs.declared.record.Record.{Record}
use Rattle.wrp_rules.specs.declared.record.Record.TheVariants.{Odd}
use Rattle.wrp_rules.specs.declared.rule.Rule.{Rule}
use Rattle.wrp_rules.specs.declared.rule.Rule.TheVariants as rules
use Rattle.wrp_rules.specs.Rows.{one_if, base_rows, odd_row, round_row, is_wide, most_coefficient}
use Rattle.wrp_rules.specs.Sets.{leaves, crosses, arc_at, crossing_demands}
use Rattle.wrp_rules.specs.Ranges.{is_ascending, is_set, is_from_one, are_pairs, are_multipliers, most_multipliers}
use Rattle.wrp_rules.specs.Rules.{all_below, rows_are_there}
use Rattle.wrp_rules.specs.Lines.{line_of, pair_text}
use Rattle.wrp_rules.specs.Nodes.{Standing, start}
use Rattle.wrp_writer.specs.Limits.{is_writable}
use Rattle.wrp_writer.proofs.Counts.{few-digits}
use Rattle.wrp_rows.specs.declared.point.Point.{Point}
use Rattle.wrp_rows.specs.Points.{IsPoint}
use Rattle.wrp_webs.specs.TownWebs.{IsOnLegal, IsBalanced}
use Rattle.wrp_odd.specs.Points.{denominator_of, numbers_of, Breaks}
use Rattle.wrp_odd.specs.Cuts.{IsValidCut}
use Rattle.wrp_odd.specs.Found.{IsBrokenOddCut}
use Rattle.wrp_round.specs.Judging.{IsWithin}
use Rattle.wrp_round.specs.OddForms.{crossing_rows, form_rows, ones, round_form, odd_form, HasBaseRows, IsBrokenCut, IsOddCut}
use Rattle.wrp_round.proofs.Judged.{both_kept, narrow_of_within}
use Rattle.wrp_round.proofs.Forms.{form_coef, form_side, base_long, meets_odd_row}

-- ---- the rows of the demands that cross

all_more : (p : ℕ → Bool) (t : Bool) (first : ℕ) (d : List ℕ) (rest : List (ℕ × List ℕ)) → p first ≡ true → list_all p (map (λ q. q.0) rest) ≡ true → list_all p (map (λ q. q.0) (cond t ((first, d) ∷ rest) rest)) ≡ true
all_more p true first d rest here others = and_from (p first) (list_all p (map (λ q. q.0) rest)) here others
all_more p false first d rest here others = others

module _ (town : Town) (set : List ℕ) where
  abbrev crossing : ℕ → List (List ℕ) → List (ℕ × List ℕ)
  crossing first ds = filter (λ p. crosses town set (arc_at p.1)) (enumerate_from first ds)

  -- they are from the first on, and below the number after the last
  rows_pass : (p : ℕ → Bool) (first : ℕ) (ds : List (List ℕ)) → ((k : ℕ) → k < length ds → p (first + k) ≡ true) → list_all p (crossing_rows town set first ds) ≡ true
  rows_pass p first [] each = refl
  rows_pass p first (d ∷ ds) each =
      all_more p (crosses town set (arc_at d)) first d (crossing (first + 1) ds)
      (let start : first + 0 ≡ first = omega arith in subst (λ n. p n ≡ true) start (each 0 (omega arith)))
      (rows_pass p (first + 1) ds (λ k below. (let next : first + suc k ≡ first + 1 + k = omega arith in subst (λ n. p n ≡ true) next (each (suc k) (omega arith)))))

  rows_ascend : (most first : ℕ) (ds : List (List ℕ)) → first + length ds ≤ most + 1 → is_ascending most (crossing_rows town set first ds) ≡ true
  rows_ascend most first [] fits = refl
  rows_ascend most first (d ∷ ds) fits = by (crosses town set (arc_at d)) (rows_ascend most (first + 1) ds (omega arith))
    where
      by : (t : Bool) → is_ascending most (map (λ (q : ℕ × List ℕ). q.0) (crossing (first + 1) ds)) ≡ true → is_ascending most (map (λ (q : ℕ × List ℕ). q.0) (cond t ((first, d) ∷ crossing (first + 1) ds) (crossing (first + 1) ds))) ≡ true
      by true rest =
          and_from (nat_le first most && list_all (nat_lt first) (crossing_rows town set (first + 1) ds)) (is_ascending most (crossing_rows town set (first + 1) ds))
          (and_from (nat_le first most) (list_all (nat_lt first) (crossing_rows town set (first + 1) ds)) (le-leb first most (omega arith)) (rows_pass (nat_lt first) (first + 1) ds (λ k below. lt-ltb first (first + 1 + k) (omega arith))))
          rest
      by false rest = rest

-- ---- rows one behind the other

join_ascends : (most n : ℕ) (xs ys : List ℕ) → is_ascending most xs ≡ true → all_below n xs ≡ true → is_ascending most ys ≡ true → ((x : ℕ) → x < n → list_all (nat_lt x) ys ≡ true) → is_ascending most (xs ++ ys) ≡ true
join_ascends most n [] ys first below second above = second
join_ascends most n (x ∷ xs) ys first below second above =
    let two = and_parts (nat_le x most && list_all (nat_lt x) xs) (is_ascending most xs) first in
    let here = and_parts (nat_le x most) (list_all (nat_lt x) xs) two.0 in
    let under = and_parts (nat_lt x n) (all_below n xs) below in
    and_from (nat_le x most && list_all (nat_lt x) (xs ++ ys)) (is_ascending most (xs ++ ys))
    (and_from (nat_le x most) (list_all (nat_lt x) (xs ++ ys)) here.0
    (list_all-append (nat_lt x) xs ys ∙ and_from (list_all (nat_lt x) xs) (list_all (nat_lt x) ys) here.1 (above x (ltb-true x n under.0))))
    (join_ascends most n xs ys two.1 under.1 second above)

all_low : (n m : ℕ) (xs : List ℕ) → n ≤ m → all_below n xs ≡ true → all_below m xs ≡ true
all_low n m [] fits below = refl
all_low n m (x ∷ xs) fits below =
    let two = and_parts (nat_lt x n) (all_below n xs) below in
    and_from (nat_lt x m) (all_below m xs) (lt-ltb x m (omega (arith, ltb-true x n two.0))) (all_low n m xs fits two.1)

-- ---- each row once

rows_of_ones : (rows : List ℕ) → map (λ (q : ℕ × ℕ). q.0) (ones rows) ≡ rows
rows_of_ones [] = refl
rows_of_ones (row ∷ rows) = ap (λ (xs : List ℕ). row ∷ xs) (rows_of_ones rows)

ones_long : (rows : List ℕ) → length (ones rows) ≡ length rows
ones_long [] = refl
ones_long (row ∷ rows) = ap suc (ones_long rows)

ones_in_range : (rows : List ℕ) → list_all (λ (q : ℕ × ℕ). is_from_one (2 ^ 40) q.1) (ones rows) ≡ true
ones_in_range [] = refl
ones_in_range (row ∷ rows) = ones_in_range rows

ones_there : (n : ℕ) (rows : List ℕ) → all_below n rows ≡ true → list_all (λ (q : ℕ × ℕ). nat_lt q.0 n) (ones rows) ≡ true
ones_there n [] below = refl
ones_there n (row ∷ rows) below =
    let two = and_parts (nat_lt row n) (all_below n rows) below in
    and_from (nat_lt row n) (list_all (λ (q : ℕ × ℕ). nat_lt q.0 n) (ones rows)) two.0 (ones_there n rows two.1)

-- the pairs, each with a space before it
pairs_short : (n : ℕ) (rows : List ℕ) → n < 2 ^ 128 → all_below n rows ≡ true → length (flat_map (λ part. codes " " ++ part) (map pair_text (ones rows))) ≤ 90 * length rows
pairs_short n [] few below = omega arith
pairs_short n (row ∷ rows) few below =
    let two = and_parts (nat_lt row n) (all_below n rows) below in
    omega (
      arith,
      length-append (codes " " ++ pair_text (row, 1)) (flat_map (λ part. codes " " ++ part) (map pair_text (ones rows))),
      length-append (codes " ") (pair_text (row, 1)),
      length-append (decimal row ++ codes ":") (decimal 1),
      length-append (decimal row) (codes ":"),
      few-digits row (omega (arith, ltb-true row n two.0)),
      few-digits 1 (omega arith),
      pairs_short n rows few two.1,
    )

module _ (town : Town) (set : List ℕ) (is : is_set set ≡ true) (below : all_below (length town.junctions) set ≡ true) where
  abbrev rows : List ℕ
  rows = form_rows town set

  rows_below : all_below (length town.junctions + length (demands town)) (form_rows town set) ≡ true
  rows_below =
      list_all-append (λ x. nat_lt x (length town.junctions + length (demands town))) set (crossing_rows town set (length town.junctions) (demands town))
      ∙ and_from (all_below (length town.junctions + length (demands town)) set) (all_below (length town.junctions + length (demands town)) (crossing_rows town set (length town.junctions) (demands town)))
      (all_low (length town.junctions) (length town.junctions + length (demands town)) set (omega arith) below)
      (rows_pass town set (λ x. nat_lt x (length town.junctions + length (demands town))) (length town.junctions) (demands town) (λ k inside. lt-ltb (length town.junctions + k) (length town.junctions + length (demands town)) (omega arith)))

  rows_are_ascending : is_ascending (2 ^ 32 - 1) (form_rows town set) ≡ true
  rows_are_ascending =
      join_ascends (2 ^ 32 - 1) (length town.junctions) set (crossing_rows town set (length town.junctions) (demands town)) is below
      (rows_ascend town set (2 ^ 32 - 1) (length town.junctions) (demands town) (omega (arith, few_junctions town, few_demands town)))
      (λ x low. rows_pass town set (nat_lt x) (length town.junctions) (demands town) (λ k inside. lt-ltb x (length town.junctions + k) (omega arith)))

  form_writable : length (form_rows town set) ≤ most_multipliers → is_writable (round_form town set) ≡ true
  form_writable few =
      and_from (are_multipliers (2 ^ 40) (ones (form_rows town set))) (nat_le (length (line_of (round_form town set))) (2 ^ 28))
      (and_from (are_pairs (2 ^ 40) (ones (form_rows town set))) (nat_le (length (ones (form_rows town set))) most_multipliers)
      (and_from (is_ascending (2 ^ 32 - 1) (map (λ (q : ℕ × ℕ). q.0) (ones (form_rows town set)))) (list_all (λ (q : ℕ × ℕ). is_from_one (2 ^ 40) q.1) (ones (form_rows town set)))
      (ap (is_ascending (2 ^ 32 - 1)) (rows_of_ones (form_rows town set)) ∙ rows_are_ascending)
      (ones_in_range (form_rows town set)))
      (le-leb (length (ones (form_rows town set))) most_multipliers (omega (arith, ones_long (form_rows town set)))))
      (le-leb (length (line_of (round_form town set))) (2 ^ 28) (omega (
        arith,
        length-append (codes "r") (flat_map (λ part. codes " " ++ part) (decimal 2 ∷ map pair_text (ones (form_rows town set)))),
        length-append (codes " " ++ decimal 2) (flat_map (λ part. codes " " ++ part) (map pair_text (ones (form_rows town set)))),
        length-append (codes " ") (decimal 2),
        few-digits 2 (omega arith),
        pairs_short (length town.junctions + length (demands town)) (form_rows town set) (omega (arith, few_junctions town, few_demands town)) rows_below,
      )))

  module _ (s : Standing) (base : HasBaseRows town s) where
    form_there : rows_are_there s (ones (form_rows town set)) ≡ true
    form_there =
        let long : length town.junctions + length (demands town) ≤ length s.rows =
        omega (arith, ap length base.rows, length-append (base_rows town) base.others, base_long town s base set is below) in
        ones_there (length s.rows) (form_rows town set) (all_low (length town.junctions + length (demands town)) (length s.rows) (form_rows town set) long rows_below)

    one_small : (t : Bool) → unsigned_abs (one_if t) ≤ most_coefficient
    one_small true = omega arith
    one_small false = omega arith

    form_within : IsWithin town (round_row s.rows 2 (ones (form_rows town set))) most_coefficient
    form_within = record {
      coefs = λ arc legal. subst (λ (z : ℤ). unsigned_abs z ≤ most_coefficient) (sym (form_coef town s base set is below arc)) (one_small (leaves town set arc));
      side = subst (λ (z : ℤ). unsigned_abs z ≤ most_coefficient) (sym (form_side town s base set is below))
          (omega (arith, count_by-le-length (λ d. crosses town set (arc_at d)) (demands town), few_demands town));
    }

    pub form_valid : length (form_rows town set) ≤ most_multipliers → IsValidCut town s (round_form town set)
    form_valid few = record {
      writable = form_writable few;
      kept = both_kept (rows_are_there s (ones (form_rows town set))) (is_wide town (round_row s.rows 2 (ones (form_rows town set)))) form_there
          (narrow_of_within town (round_row s.rows 2 (ones (form_rows town set))) form_within);
    }

-- ---- the cut is broken

-- what a valid Odd record says of its set
both_of : (a b : Bool) → ◌≡◌ {A = Option Rule} (if a then (if b then None else Some rules.Even) else Some rules.Range) None → (a ≡ true) × (b ≡ true)
both_of true true e = (refl, refl)
both_of true false e = (refl, cc)
both_of false b e = (cc, cc)

pub valid_odd : (town : Town) (s : Standing) (set : List ℕ) → IsValidCut town s (Odd set) → (is_set set ≡ true) × (all_below (length town.junctions) set ≡ true) × (not (crossing_demands town set % 2 == 0) ≡ true)
valid_odd town s set valid =
    let kept = both_of (all_below (length town.junctions) set) (not (crossing_demands town set % 2 == 0)) valid.kept in
    ((and_parts (true && is_set set) (nat_le (length (line_of (Odd set))) (2 ^ 28)) valid.writable).0, kept.0, kept.1)

module _ (town : Town) (s : Standing) (base : HasBaseRows town s) (set : List ℕ) (valid : IsValidCut town s (Odd set))
    (point : Point) (is_point : IsPoint town point) (balanced : IsBalanced town (numbers_of point)) (broken : Breaks town point (odd_row town set)) where
  on_legal : IsOnLegal town (numbers_of point)
  on_legal arc illegal = ap unsigned_abs (is_point.illegal arc illegal)

  form_broken : length (form_rows town set) ≤ most_multipliers → IsBrokenCut town s point (round_form town set)
  form_broken few =
      let own = valid_odd town s set valid in
      record {
        valid = form_valid town set own.0 own.1 s base few;
        broken = λ meets. broken (meets_odd_row town s base set own.0 own.1 (denominator_of point) (numbers_of point) on_legal balanced own.2 meets);
      }

  pub odd_form_broken : IsBrokenCut town s point (odd_form town set)
  odd_form_broken = by (nat_le (length (form_rows town set)) most_multipliers) refl
    where
      by : (t : Bool) → nat_le (length (form_rows town set)) most_multipliers ≡ t → IsBrokenCut town s point (if t then round_form town set else Odd set)
      by true e = form_broken (leb-true (length (form_rows town set)) most_multipliers e)
      by false e = record { valid = valid; broken = broken }

-- ---- the record

odd_same : (a b : List ℕ) → Odd a ≡ Odd b → a ≡ b
odd_same a b same = cc

pub set_below : (town : Town) (item : Record) (set : List ℕ) → item ≡ Odd set → IsOddCut town item → all_below (length town.junctions) set ≡ true
set_below town item set is cut =
    (valid_odd town (start town) set (subst (λ (r : Record). IsValidCut town (start town) r) is (cut.valid (start town)))).1

pub item_form_broken : (town : Town) (s : Standing) (point : Point) (item form : Record) (set : List ℕ) → item ≡ Odd set → form ≡ odd_form town set → HasBaseRows town s → IsPoint town point → IsBalanced town (numbers_of point)
    → IsBrokenOddCut town point item → IsBrokenCut town s point form
item_form_broken town s point item form set is made base is_point balanced b =
    let same : b.set ≡ set = odd_same b.set set (sym b.odd ∙ is) in
    subst (λ (r : Record). IsBrokenCut town s point r) (sym made)
    (odd_form_broken town s base set (subst (λ (r : Record). IsValidCut town s r) is (b.valid s)) point is_point balanced
    (subst (λ (xs : List ℕ). Breaks town point (odd_row town xs)) same b.broken))

-- the form by the number of its rows
by_test : (t : Bool) (a b : Record) → t ≡ true → (if t then a else b) ≡ a
by_test true a b e = refl
by_test false a b e = absurd (true≢false (sym e))

by_other : (t : Bool) (a b : Record) → (t ≡ true → ⊥) → (if t then a else b) ≡ b
by_other true a b e = absurd (e refl)
by_other false a b e = refl

pub form_short : (town : Town) (set : List ℕ) → length (form_rows town set) ≤ most_multipliers → odd_form town set ≡ round_form town set
form_short town set few = by_test (nat_le (length (form_rows town set)) most_multipliers) (round_form town set) (Odd set) (le-leb (length (form_rows town set)) most_multipliers few)

pub form_long : (town : Town) (set : List ℕ) → most_multipliers < length (form_rows town set) → odd_form town set ≡ Odd set
form_long town set many = by_other (nat_le (length (form_rows town set)) most_multipliers) (round_form town set) (Odd set) (λ e. (let few = leb-true (length (form_rows town set)) most_multipliers e in absurd (omega arith)))
