-- The row of the Round form of an odd cut: the arcs that leave the set.
use Rattle.std.proofs.Common.{◌≡◌, ℕ, zero, suc, ◌+◌, ◌-◌, ◌*◌, ◌/◌, ◌%◌, ◌^◌, ◌<◌, ◌≤◌, Bool, true, false, cond, ◌&&◌, ◌||◌, not, ◌==◌, ℤ, pos, ◌+ℤ◌, ◌-ℤ◌, ◌*ℤ◌, List, [], ◌∷◌, map, filter, length, get_or, count_by, Contains, ap, refl, sym, ◌∙◌, subst, arith, eq-eqb, inl, inr, length-append}
use Rattle.std.specs.Prelude.{nat_le, nat_lt}
use Rattle.std.specs.List.{list_all, enumerate_from}
use Rattle.std.proofs.lemmas.Bool.{and_parts, ltb-true, ne_eqb, cases_eq, eqb-true, true≢false}
use Rattle.std.proofs.lemmas.List.{length-map, get_or-map, get_or_append_left, get_or-append-add}
use Rattle.std.proofs.lemmas.List.FromFn.{length-range_with_len, get_or-range_with_len}
use Rattle.wrp_sums.specs.Sums.{sum_over}
use Rattle.wrp_sums.specs.Rounding.{ceil_div}
use Rattle.wrp_sums.proofs.Integers.{linear, one-*ℤ, ≤-from_pos, pos-≤ℤ}
use Rattle.wrp_sums.proofs.SumsOver.{sum_over-map, sum_over-ext, sum_over-same, sum_over-append, sum_over-count, sum_over-all_zero, passes_inside}
use Rattle.wrp_town.specs.declared.town.Town.{Town}
use Rattle.wrp_town.specs.Arcs.{legal_arcs, junctions, demands, tail_of, head_of, has_arc}
use Rattle.wrp_town.proofs.ServiceLaws.{member_from_has_arc}
use Rattle.wrp_rules.specs.Rows.{Row, one_if, balance_row, service_row, base_rows, row_at, round_row, odd_row}
use Rattle.wrp_rules.specs.Sets.{is_in, leaves, crosses, arc_at, crossing_demands}
use Rattle.wrp_rules.specs.Ranges.{is_ascending, is_set}
use Rattle.wrp_rules.specs.Rules.{all_below}
use Rattle.wrp_rules.specs.Nodes.{Standing}
use Rattle.wrp_laws.specs.Points.{MeetsOver}
use Rattle.wrp_laws.proofs.Crossings.{once_demanded, alike_on_demand, over_both_ways}
use Rattle.wrp_webs.specs.Webs.{sum_below}
use Rattle.wrp_webs.specs.Nets.{entering}
use Rattle.wrp_webs.specs.TownWebs.{IsOnLegal, IsBalanced, out_of_set}
use Rattle.wrp_webs.proofs.SumsBelow.{same_sum, sum_of_sums}
use Rattle.wrp_webs.proofs.LegalSums.{ones_sum}
use Rattle.wrp_webs.proofs.ConnRows.{leaving_is_entering}
use Rattle.wrp_round.specs.OddForms.{crossing_rows, form_rows, ones, HasBaseRows}

-- ---- sums over the rows of the form

-- of the demands that cross
crossing_sum : (town : Town) (set : List ℕ) (f : ℕ → ℤ) (g : List ℕ → ℤ) (first : ℕ) (ds : List (List ℕ)) → ((k : ℕ) → k < length ds → f (first + k) ≡ g (get_or ds k []))
    → sum_over f (crossing_rows town set first ds) ≡ sum_over (λ d. cond (crosses town set (arc_at d)) (g d) (pos 0)) ds
crossing_sum town set f g first [] same = refl
crossing_sum town set f g first (d ∷ ds) same =
    by (crosses town set (arc_at d))
    (crossing_sum town set f g (first + 1) ds (λ k below. (let next : first + 1 + k ≡ first + suc k = omega arith in ap f next ∙ same (suc k) (omega arith))))
  where
    here : f first ≡ g d
    here = let start : first ≡ first + 0 = omega arith in ap f start ∙ same 0 (omega arith)

    by : (t : Bool) → sum_over f (crossing_rows town set (first + 1) ds) ≡ sum_over (λ x. cond (crosses town set (arc_at x)) (g x) (pos 0)) ds
        → sum_over f (map (λ (p : ℕ × List ℕ). p.0) (cond t ((first, d) ∷ filter (λ p. crosses town set (arc_at p.1)) (enumerate_from (first + 1) ds)) (filter (λ p. crosses town set (arc_at p.1)) (enumerate_from (first + 1) ds))))
        ≡ cond t (g d) (pos 0) +ℤ sum_over (λ x. cond (crosses town set (arc_at x)) (g x) (pos 0)) ds
    by true rest = omega (arith, linear, here, rest)
    by false rest = omega (arith, linear, rest)

ones_are : (f : ℕ → ℤ) (rows : List ℕ) → sum_over (λ q. pos q.1 *ℤ f q.0) (ones rows) ≡ sum_over f rows
ones_are f rows =
    sum_over-map (λ (q : ℕ × ℕ). pos q.1 *ℤ f q.0) (λ (row : ℕ). (row, 1)) rows
    ∙ sum_over-ext (λ row. pos 1 *ℤ f row) f (λ row. one-*ℤ (f row)) rows

-- of the junctions of a set
one_more : (a b : Bool) → (a ≡ true → b ≡ false) → one_if (a || b) ≡ one_if a +ℤ one_if b
one_more true true apart = absurd (true≢false (apart refl))
one_more true false apart = refl
one_more false b apart = omega (arith, linear)

absent : (t : ℕ) (xs : List ℕ) → list_all (nat_lt t) xs ≡ true → is_in xs t ≡ false
absent t [] above = refl
absent t (x ∷ xs) above =
    let parts = and_parts (nat_lt t x) (list_all (nat_lt t) xs) above in
    let less = ltb-true t x parts.0 in
    rw (ne_eqb t x (λ e. absurd (omega arith))) (absent t xs parts.1)

members_sum : (most t : ℕ) (set : List ℕ) → is_ascending most set ≡ true → sum_over (λ j. one_if (t == j)) set ≡ one_if (is_in set t)
members_sum most t [] ascends = refl
members_sum most t (j ∷ js) ascends =
    let parts = and_parts (nat_le j most && list_all (nat_lt j) js) (is_ascending most js) ascends in
    let above = (and_parts (nat_le j most) (list_all (nat_lt j) js) parts.0).1 in
    omega (arith, linear, members_sum most t js parts.1, one_more (t == j) (is_in js t) (λ e. absent_at above e))
  where
    absent_at : list_all (nat_lt j) js ≡ true → (t == j) ≡ true → is_in js t ≡ false
    absent_at above e = let same : t ≡ j = eqb-true t j e in absent t js (subst (λ n. list_all (nat_lt n) js ≡ true) (sym same) above)

differences : (f g : ℕ → ℤ) (xs : List ℕ) → sum_over (λ x. f x -ℤ g x) xs ≡ sum_over f xs -ℤ sum_over g xs
differences f g [] = refl
differences f g (x ∷ xs) = omega (arith, linear, differences f g xs)

-- ---- the numbers of the row

-- of two ends and at most one demand, halved and rounded up
half : (t h : Bool) (n : ℕ) → n ≤ 1 → ((t && not h) || (not t && h) ≡ false → n ≡ 0) → ceil_div ((one_if t -ℤ one_if h) +ℤ pos n) 2 ≡ one_if (t && not h)
half true true n few none = ap (λ (k : ℕ). ceil_div ((one_if true -ℤ one_if true) +ℤ pos k) 2) (none refl)
half false false n few none = ap (λ (k : ℕ). ceil_div ((one_if false -ℤ one_if false) +ℤ pos k) 2) (none refl)
half true false zero few none = refl
half true false (suc zero) few none = refl
half true false (suc (suc n)) few none = absurd (omega arith)
half false true zero few none = refl
half false true (suc zero) few none = refl
half false true (suc (suc n)) few none = absurd (omega arith)

module _ (town : Town) (s : Standing) (base : HasBaseRows town s) (set : List ℕ) (is : is_set set ≡ true) (below : all_below (length town.junctions) set ≡ true) where
  no_row : Row
  no_row = record { coef = λ arc. pos 0; right_side = pos 0 }

  balances : List Row
  balances = map (balance_row town) (junctions town)

  balances_long : length (map (balance_row town) (junctions town)) ≡ length town.junctions
  balances_long = length-map (junctions town) (balance_row town) ∙ length-range_with_len 0 (length town.junctions)

  pub base_long : length (base_rows town) ≡ length town.junctions + length (demands town)
  base_long = omega (arith, length-append (map (balance_row town) (junctions town)) (map service_row (demands town)), balances_long, length-map (demands town) service_row)

  at_base : (i : ℕ) → i < length (base_rows town) → row_at s.rows i ≡ row_at (base_rows town) i
  at_base i inside = ap (λ (rows : List Row). row_at rows i) base.rows ∙ get_or_append_left (base_rows town) base.others _ i inside

  balance_at : (j : ℕ) → j < length town.junctions → row_at s.rows j ≡ balance_row town j
  balance_at j inside =
      at_base j (omega (arith, base_long))
      ∙ get_or_append_left (map (balance_row town) (junctions town)) (map service_row (demands town)) _ j (omega (arith, balances_long))
      ∙ get_or-map (balance_row town) (junctions town) j 0 _ (omega (arith, length-range_with_len 0 (length town.junctions)))
      ∙ ap (balance_row town) (get_or-range_with_len 0 (length town.junctions) j 0 inside ∙ omega arith)

  service_at : (k : ℕ) → k < length (demands town) → row_at s.rows (length town.junctions + k) ≡ service_row (get_or (demands town) k [])
  service_at k inside =
      at_base (length town.junctions + k) (omega (arith, base_long))
      ∙ ap (λ (n : ℕ). row_at (base_rows town) (n + k)) (sym balances_long)
      ∙ get_or-append-add (map (balance_row town) (junctions town)) (map service_row (demands town)) k _
      ∙ get_or-map service_row (demands town) k [] _ inside

  -- the rows of the form, each with a number
  form_sum : (f : Row → ℤ) → sum_over (λ q. pos q.1 *ℤ f (row_at s.rows q.0)) (ones (form_rows town set))
      ≡ sum_over (λ j. f (balance_row town j)) set +ℤ sum_over (λ d. cond (crosses town set (arc_at d)) (f (service_row d)) (pos 0)) (demands town)
  form_sum f =
      let number : ℕ → ℤ = λ i. f (row_at s.rows i) in
      ones_are number (form_rows town set)
      ∙ sum_over-append number set (crossing_rows town set (length town.junctions) (demands town))
      ∙ omega (
        arith,
        linear,
        sum_over-same number (λ j. f (balance_row town j)) set (λ j inside. ap f (balance_at j (ltb-true j (length town.junctions) (passes_inside (λ x. nat_lt x (length town.junctions)) set below j inside)))),
        crossing_sum town set number (λ d. f (service_row d)) (length town.junctions) (demands town) (λ k inside. ap f (service_at k inside)),
      )

  -- the demands that cross and have the arc: the one that has it, where the arc crosses
  abbrev holding : ℕ → ℕ
  holding arc = cond (crosses town set arc) (count_by (λ d. has_arc d arc) (demands town)) 0

  one_held : (d : List ℕ) (arc : ℕ) → Contains (demands town) d → (h : Bool) → has_arc d arc ≡ h → cond (crosses town set (arc_at d)) (one_if h) (pos 0) ≡ cond (crosses town set arc) (cond h (pos 1) (pos 0)) (pos 0)
  one_held d arc inside true has = ap (λ (t : Bool). cond t (pos 1) (pos 0)) (alike_on_demand town (crosses town set) (over_both_ways town (is_in set)) d arc inside (member_from_has_arc d arc has))
  one_held d arc inside false has = both_none (crosses town set (arc_at d)) ∙ sym (both_none (crosses town set arc))
    where
      both_none : (t : Bool) → cond t (pos 0) (pos 0) ≡ pos 0
      both_none true = refl
      both_none false = refl

  services_sum : (arc : ℕ) → sum_over (λ d. cond (crosses town set (arc_at d)) (one_if (has_arc d arc)) (pos 0)) (demands town) ≡ pos (holding arc)
  services_sum arc =
      sum_over-same (λ d. cond (crosses town set (arc_at d)) (one_if (has_arc d arc)) (pos 0)) (λ d. cond (crosses town set arc) (cond (has_arc d arc) (pos 1) (pos 0)) (pos 0)) (demands town) (λ d inside. one_held d arc inside (has_arc d arc) refl)
      ∙ by (crosses town set arc)
    where
      by : (t : Bool) → sum_over (λ d. cond t (cond (has_arc d arc) (pos 1) (pos 0)) (pos 0)) (demands town) ≡ pos (cond t (count_by (λ d. has_arc d arc) (demands town)) 0)
      by true = sum_over-count (λ d. has_arc d arc) (demands town)
      by false = sum_over-all_zero (λ (d : List ℕ). pos 0) (demands town) (λ d inside. refl)

  holding_few : (arc : ℕ) → holding arc ≤ 1
  holding_few arc = by (crosses town set arc)
    where
      by : (t : Bool) → cond t (count_by (λ d. has_arc d arc) (demands town)) 0 ≤ 1
      by true = once_demanded town arc
      by false = omega arith

  pub form_coef : (arc : ℕ) → (round_row s.rows 2 (ones (form_rows town set))).coef arc ≡ one_if (leaves town set arc)
  form_coef arc =
      let total : sum_over (λ q. pos q.1 *ℤ (row_at s.rows q.0).coef arc) (ones (form_rows town set)) ≡ (one_if (is_in set (tail_of town arc)) -ℤ one_if (is_in set (head_of town arc))) +ℤ pos (holding arc) =
      form_sum (λ row. row.coef arc)
      ∙ omega (
        arith,
        linear,
        differences (λ j. one_if (tail_of town arc == j)) (λ j. one_if (head_of town arc == j)) set,
        members_sum (2 ^ 32 - 1) (tail_of town arc) set is,
        members_sum (2 ^ 32 - 1) (head_of town arc) set is,
        services_sum arc,
      ) in
      ap (λ (z : ℤ). ceil_div z 2) total
      ∙ half (is_in set (tail_of town arc)) (is_in set (head_of town arc)) (holding arc) (holding_few arc) (λ none. ap (λ (t : Bool). cond t (count_by (λ d. has_arc d arc) (demands town)) 0) none)

  pub form_side : (round_row s.rows 2 (ones (form_rows town set))).right_side ≡ ceil_div (pos (crossing_demands town set)) 2
  form_side =
      let total : sum_over (λ q. pos q.1 *ℤ (row_at s.rows q.0).right_side) (ones (form_rows town set)) ≡ pos (crossing_demands town set) =
      form_sum (λ row. row.right_side)
      ∙ omega (arith, linear, sum_over-all_zero (λ (j : ℕ). pos 0) set (λ j inside. refl), sum_over-count (λ d. crosses town set (arc_at d)) (demands town)) in
      ap (λ (z : ℤ). ceil_div z 2) total

  -- ---- at a balanced point

  module _ (e : ℕ) (x : ℕ → ℕ) (on : IsOnLegal town x) (balanced : IsBalanced town x) where
    out : ℕ
    out = out_of_set town x (is_in set)

    two_ways : (a b : Bool) (n : ℕ) → cond ((a && not b) || (not a && b)) n 0 ≡ cond (a && not b) n 0 + cond (not a && b) n 0
    two_ways true true n = omega arith
    two_ways true false n = omega arith
    two_ways false true n = omega arith
    two_ways false false n = omega arith

    crossing_twice : sum_over (λ arc. one_if (crosses town set arc) *ℤ pos (x arc)) (legal_arcs town) ≡ pos (2 * out_of_set town x (is_in set))
    crossing_twice =
        ones_sum town x (crosses town set) on
        ∙ ap pos (
        sum_of_both
        ∙ omega (arith, leaving_is_entering town x on balanced (is_in set))
        )
      where
        sum_of_both : sum_below (λ a. cond (crosses town set a) (x a) 0) (2 * length town.streets)
            ≡ out_of_set town x (is_in set) + entering (2 * length town.streets) (tail_of town) (head_of town) x (is_in set)
        sum_of_both =
            same_sum (λ a. cond (crosses town set a) (x a) 0)
            (λ a. cond (leaves town set a) (x a) 0 + cond (not (is_in set (tail_of town a)) && is_in set (head_of town a)) (x a) 0) (2 * length town.streets)
            (λ a inside. two_ways (is_in set (tail_of town a)) (is_in set (head_of town a)) (x a))
            ∙ sum_of_sums (λ a. cond (leaves town set a) (x a) 0) (λ a. cond (not (is_in set (tail_of town a)) && is_in set (head_of town a)) (x a) 0) (2 * length town.streets)

    leaving_once : sum_over (λ arc. (round_row s.rows 2 (ones (form_rows town set))).coef arc *ℤ pos (x arc)) (legal_arcs town) ≡ pos (out_of_set town x (is_in set))
    leaving_once =
        sum_over-ext (λ arc. (round_row s.rows 2 (ones (form_rows town set))).coef arc *ℤ pos (x arc)) (λ arc. one_if (leaves town set arc) *ℤ pos (x arc)) (λ arc. ap (λ (z : ℤ). z *ℤ pos (x arc)) (form_coef arc)) (legal_arcs town)
        ∙ ones_sum town x (leaves town set) on

    -- a point that meets the form meets the odd row
    pub meets_odd_row : not (crossing_demands town set % 2 == 0) ≡ true → MeetsOver town e x (round_row s.rows 2 (ones (form_rows town set))) → MeetsOver town e x (odd_row town set)
    meets_odd_row odd meets =
        let k = crossing_demands town set in
        let half_k = (crossing_demands town set + 1) / 2 in
        let right : pos e *ℤ (round_row s.rows 2 (ones (form_rows town set))).right_side ≡ pos (e * ((crossing_demands town set + 1) / 2)) =
        ap (λ (z : ℤ). pos e *ℤ z) form_side in
        let low : e * ((crossing_demands town set + 1) / 2) ≤ out_of_set town x (is_in set) = ≤-from_pos _ _ (omega (arith, linear, right, leaving_once, meets)) in
        let twice : 2 * ((crossing_demands town set + 1) / 2) ≡ crossing_demands town set + 1 = odd_half (crossing_demands town set) odd in
        let whole : e * (crossing_demands town set + 1) ≤ 2 * out_of_set town x (is_in set) = omega (arith, ap (λ (n : ℕ). e * n) twice) in
        let side : pos e *ℤ pos (crossing_demands town set + 1) ≡ pos (e * (crossing_demands town set + 1)) = refl in
        omega (arith, linear, side, crossing_twice, pos-≤ℤ (e * (crossing_demands town set + 1)) (2 * out_of_set town x (is_in set)) whole)
      where
        odd_half : (k : ℕ) → not (k % 2 == 0) ≡ true → 2 * ((k + 1) / 2) ≡ k + 1
        odd_half k odd = elim (cases_eq (k % 2) 0) [ inl even ↦ absurd (true≢false (sym odd ∙ ap not (eq-eqb (k % 2) 0 even))) | inr other ↦ omega arith ]
