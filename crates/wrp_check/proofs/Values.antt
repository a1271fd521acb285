-- The value of multipliers in the box of a node is the sum over the arcs that are listed.
use Rattle.std.proofs.Common.{◌≡◌, ℕ, zero, suc, ◌*◌, ◌^◌, ◌<◌, ◌≤◌, Bool, true, false, cond, not, ◌==◌, ℤ, pos, ◌+ℤ◌, ◌-ℤ◌, ◌*ℤ◌, int_lt, List, [], ◌∷◌, length, get_or, filter, ap, refl, sym, ◌∙◌, inl, inr, arith, mul-le-mul}
use Rattle.std.proofs.lemmas.Bool.{cases_eq, eq-eqb, eqb-true, ne_eqb, not-true, true≢false}
use Rattle.std.proofs.lemmas.List.Elements.{All-contains}
use Rattle.std.proofs.lemmas.List.Filters.{length-filter_both}
use Rattle.std.proofs.lemmas.List.Sums.{length-filter, sum_by-cons}
use Rattle.wrp_sums.specs.Sums.{sum_over}
use Rattle.wrp_sums.specs.Duality.{combine_rows, least_term, dual_value}
use Rattle.wrp_sums.proofs.Integers.{linear, tests, times_zero, zero_times, one-*ℤ}
use Rattle.wrp_sums.proofs.FirstNumbers.{passes_of_inside}
use Rattle.wrp_sums.proofs.SumsOver.{sum_over-same, sum_over-ext, sum_over_exchange, sum_over_at, count_by-filter}
use Rattle.wrp_town.specs.declared.town.Town.{Town}
use Rattle.wrp_town.specs.Limits.{cost_limit}
use Rattle.wrp_town.specs.Arcs.{is_legal, arcs, legal_arcs, cost_or_zero}
use Rattle.wrp_town.proofs.TownLaws.{legal_below, few_streets}
use Rattle.wrp_rules.proofs.LegalArcs.{legal_once}
use Rattle.wrp_pool.specs.declared.tally.Tally.{Tally}
use Rattle.wrp_pool.specs.Tallies.{number_of, is_listed, IsTally}
use Rattle.wrp_rules.specs.Rows.{Row, row_at}
use Rattle.wrp_rules.specs.Nodes.{Node, program, empty_value}
use Rattle.wrp_pool.specs.declared.row.Pool.{Pool}
use Rattle.wrp_pool.specs.Pools.{Holds, has_rows}
use Rattle.wrp_pool.specs.Tallies.{IsCombined, IsCombinedSide}
use Rattle.wrp_pool.proofs.Listed.{times, member_from_times}
use Rattle.wrp_pool.proofs.Weights.{combined_coef_held, combined_side_held}
use Rattle.wrp_nodes.specs.declared.kept.KeptNode.{KeptNode}
use Rattle.wrp_nodes.specs.declared.kept.UseRange.{UseRange}
use Rattle.wrp_nodes.specs.declared.boxes.Boxes.{Boxes}
use Rattle.wrp_nodes.specs.Tables.{range_at, HasBox, HasEntered}
use Rattle.wrp_check.specs.Values.{term_at, ListsCut, priced_value}

-- a cost times the scale is small
pub scaled_cost : (scale cost : ℕ) → scale ≤ 2 ^ 40 → cost ≤ cost_limit → scale * cost ≤ 2 ^ 70
scaled_cost scale cost little cheap = let product = mul-le-mul little cheap in omega (arith, product)

-- ---- few arcs are listed

-- numbers that are listed once, each below n, are at most n
few_members : (n : ℕ) (xs : List ℕ) → ((x : ℕ) → 0 < times xs x → x < n) → ((x : ℕ) → times xs x ≤ 1) → length xs ≤ n
few_members zero [] below once = omega arith
few_members zero (y ∷ xs) below once =
    absurd (omega (arith, below y (omega (arith, sum_by-cons (λ x. cond (x == y) 1 0) y xs, ap (λ (t : Bool). cond {A = ℕ} t 1 0) (eq-eqb y y refl)))))
few_members (suc n) xs below once =
    let others = filter (λ x. not (x == n)) xs in
    let rest : length others ≤ n = few_members n others
    (λ x some. less x (not (x == n)) refl (count_by-filter x (λ x. not (x == n)) xs) some)
    (λ x. fewer x (not (x == n)) (count_by-filter x (λ x. not (x == n)) xs)) in
    omega (arith, rest, length-filter_both (λ x. x == n) (λ x. not (x == n)) (λ x. refl) xs, length-filter (λ x. x == n) xs, once n)
  where
    less : (x : ℕ) (t : Bool) → not (x == n) ≡ t → times (filter (λ x. not (x == n)) xs) x ≡ cond (not (x == n)) (times xs x) 0 → 0 < times (filter (λ x. not (x == n)) xs) x → x < n
    less x true e kept some =
        let there : times (filter (λ x. not (x == n)) xs) x ≡ times xs x = kept ∙ ap (λ (t : Bool). cond t (times xs x) 0) e in
        let differs : x ≡ n → ⊥ = λ same. true≢false (sym (eq-eqb x n same) ∙ not-true (x == n) e) in
        let small : x < suc n = below x (omega (arith, some, there)) in
        elim (cases_eq x n) [ inl same ↦ absurd (differs same) | inr other ↦ omega (arith, small, other) ]
    less x false e kept some = absurd (omega (arith, some, kept ∙ ap (λ (t : Bool). cond t (times xs x) 0) e))

    fewer : (x : ℕ) (t : Bool) → times (filter (λ x. not (x == n)) xs) x ≡ cond t (times xs x) 0 → times (filter (λ x. not (x == n)) xs) x ≤ 1
    fewer x true e = omega (arith, e, once x)
    fewer x false e = omega (arith, e)

module _ (town : Town) (tally : Tally) (is : IsTally town tally) where
  listed_once : (arc : ℕ) → times tally.listed.items arc ≤ 1
  listed_once arc = by (is_listed tally arc) (is.once arc)
    where
      by : (t : Bool) → times tally.listed.items arc ≡ cond t 1 0 → times tally.listed.items arc ≤ 1
      by true e = omega (arith, e)
      by false e = omega (arith, e)

  listed_legal : (arc : ℕ) → 0 < times tally.listed.items arc → is_legal town arc ≡ true
  listed_legal arc some = All-contains (λ a. is_legal town a ≡ true) tally.listed.items arc is.legal (member_from_times tally.listed.items arc some)

  pub few_listed : length tally.listed.items ≤ 8000
  few_listed =
      let few = few_members (2 * length town.streets) tally.listed.items (λ arc some. legal_below town arc (listed_legal arc some)) listed_once in
      omega (arith, few, few_streets town)

  -- ---- a sum over the legal arcs that is 0 elsewhere

  -- each listed arc stands among the legal arcs, and each legal arc among the listed, once or never
  pub sum_listed : (f : ℕ → ℤ) → ((arc : ℕ) → is_legal town arc ≡ true → is_listed tally arc ≡ false → f arc ≡ pos 0) → sum_over f (legal_arcs town) ≡ sum_over f tally.listed.items
  sum_listed f elsewhere =
      sum_over-same f (λ x. sum_over (λ y. cond (y == x) (f y) (pos 0)) tally.listed.items) (legal_arcs town) (λ x inside. sym (here x (passes_of_inside (is_legal town) (arcs town) x inside) (is_listed tally x) refl))
      ∙ sum_over_exchange (λ x y. cond (y == x) (f y) (pos 0)) (legal_arcs town) tally.listed.items
      ∙ sum_over-same (λ y. sum_over (λ x. cond (y == x) (f y) (pos 0)) (legal_arcs town)) f tally.listed.items (λ y inside. there y (All-contains (λ a. is_legal town a ≡ true) tally.listed.items y is.legal inside))
    where
      here : (x : ℕ) → is_legal town x ≡ true → (t : Bool) → is_listed tally x ≡ t → sum_over (λ y. cond (y == x) (f y) (pos 0)) tally.listed.items ≡ f x
      here x legal true e = sum_over_at f x tally.listed.items ∙ ap (λ (n : ℕ). pos n *ℤ f x) (is.once x ∙ ap (λ (t : Bool). cond t 1 0) e) ∙ one-*ℤ (f x)
      here x legal false e = sum_over_at f x tally.listed.items ∙ ap (λ (n : ℕ). pos n *ℤ f x) (is.once x ∙ ap (λ (t : Bool). cond t 1 0) e) ∙ zero_times (f x) ∙ sym (elsewhere x legal e)

      there : (y : ℕ) → is_legal town y ≡ true → sum_over (λ x. cond (y == x) (f y) (pos 0)) (legal_arcs town) ≡ f y
      there y legal =
          sum_over-ext (λ x. cond (y == x) (f y) (pos 0)) (λ x. cond (x == y) (f x) (pos 0)) (λ x. turned x (y == x) refl) (legal_arcs town)
          ∙ sum_over_at f y (legal_arcs town) ∙ ap (λ (n : ℕ). pos n *ℤ f y) (legal_once town y legal) ∙ one-*ℤ (f y)
        where
          turned : (x : ℕ) (t : Bool) → (y == x) ≡ t → cond (y == x) (f y) (pos 0) ≡ cond (x == y) (f x) (pos 0)
          turned x true e = let same : y ≡ x = eqb-true y x e in ap (λ (z : ℕ). cond (y == z) (f y) (pos 0)) (sym same) ∙ ap (λ (z : ℕ). cond (z == y) (f z) (pos 0)) same
          turned x false e = ap (λ (t : Bool). cond t (f y) (pos 0)) e ∙ sym (ap (λ (t : Bool). cond t (f x) (pos 0)) (ne_eqb x y (λ same. true≢false (sym (eq-eqb y x (sym same)) ∙ e))))

-- ---- the value

-- an arc that may be used 0 times and from whose cost nothing is taken costs nothing
free_term : (n hi : ℕ) → least_term (pos n -ℤ pos 0) 0 hi ≡ pos 0
free_term n hi =
    let same : pos n -ℤ pos 0 ≡ pos n = omega (arith, linear) in
    ap (λ (z : ℤ). least_term z 0 hi) same ∙ by (int_lt (pos n) (pos 0)) refl
  where
    by : (t : Bool) → int_lt (pos n) (pos 0) ≡ t → pos n *ℤ pos (cond t hi 0) ≡ pos 0
    by true e = absurd (omega (arith, tests, e))
    by false e = times_zero (pos n)

module _ (town : Town) (rows : List Row) (node : Node) (kept : List KeptNode) (at : ℕ) (pool : Pool) (mult : List (ℕ × ℕ)) (combined listed : Tally) (boxes : Boxes) (scale : ℕ) (side : ℤ)
    (holds : Holds town pool rows) (there : has_rows pool mult ≡ true) (coefs : IsCombined town pool mult combined) (sides : IsCombinedSide pool mult side)
    (lists : ListsCut town kept at combined listed) (entered : HasEntered town kept at boxes) (box : HasBox town boxes node) where
  -- the number that is taken off the cost of a legal arc
  taken_off : (arc : ℕ) → is_legal town arc ≡ true → number_of listed arc ≡ combine_rows mult (λ i. (row_at rows i).coef arc)
  taken_off arc legal = ap (λ (xs : List ℤ). get_or xs arc (pos 0)) lists.same ∙ coefs.exact arc ∙ combined_coef_held town pool rows mult arc holds there legal

  -- an arc that isn't listed costs nothing
  unlisted_free : (arc : ℕ) → is_legal town arc ≡ true → is_listed listed arc ≡ false → term_at town boxes listed scale arc ≡ pos 0
  unlisted_free arc legal unlisted =
      ap (λ (z : ℤ). least_term (pos (scale * cost_or_zero town arc) -ℤ z) (range_at boxes arc).lo (range_at boxes arc).hi) (lists.is_tally.blank arc unlisted)
      ∙ elim (entered.others arc) [
        | inl whole ↦ ap (λ (r : UseRange). least_term (pos (scale * cost_or_zero town arc) -ℤ pos 0) r.lo r.hi) whole ∙ free_term (scale * cost_or_zero town arc) boxes.most
        | inr cut ↦ absurd (true≢false (sym (lists.listed arc cut) ∙ unlisted))
      ]

  -- the value is that of the multipliers at the node
  pub value_is : (value : ℤ) → value ≡ side +ℤ sum_over (term_at town boxes listed scale) listed.listed.items → value ≡ priced_value town rows node scale mult
  value_is value is =
      is
      ∙ ap (λ (z : ℤ). z +ℤ sum_over (term_at town boxes listed scale) listed.listed.items) (sides.exact ∙ combined_side_held town pool rows mult holds there)
      ∙ ap (λ (z : ℤ). combine_rows mult (λ i. (row_at rows i).right_side) +ℤ z)
      (sym (sum_listed town listed lists.is_tally (term_at town boxes listed scale) unlisted_free)
      ∙ sum_over-same (term_at town boxes listed scale) _ (legal_arcs town) (λ arc inside. each arc (passes_of_inside (is_legal town) (arcs town) arc inside)))
    where
      each : (arc : ℕ) → is_legal town arc ≡ true
          → term_at town boxes listed scale arc ≡ least_term (pos (scale * cost_or_zero town arc) -ℤ combine_rows mult (λ i. (row_at rows i).coef arc)) (node.lo arc) (node.hi arc)
      each arc legal =
          ap (λ (z : ℤ). least_term (pos (scale * cost_or_zero town arc) -ℤ z) (range_at boxes arc).lo (range_at boxes arc).hi) (taken_off arc legal)
          ∙ ap (λ (n : ℕ). least_term (pos (scale * cost_or_zero town arc) -ℤ combine_rows mult (λ i. (row_at rows i).coef arc)) n (range_at boxes arc).hi) (box.lo arc legal)
          ∙ ap (λ (n : ℕ). least_term (pos (scale * cost_or_zero town arc) -ℤ combine_rows mult (λ i. (row_at rows i).coef arc)) (node.lo arc) n) (box.hi arc legal)

-- ---- the value of a bound, and with no costs

pub bound_priced : (town : Town) (rows : List Row) (node : Node) (den : ℕ) (mult : List (ℕ × ℕ)) → priced_value town rows node den mult ≡ dual_value (program town rows node) den mult
bound_priced town rows node den mult = refl

pub empty_priced : (town : Town) (rows : List Row) (node : Node) (mult : List (ℕ × ℕ)) → priced_value town rows node 0 mult ≡ empty_value town rows node mult
empty_priced town rows node mult =
    ap (λ (z : ℤ). combine_rows mult (λ i. (row_at rows i).right_side) +ℤ z)
    (sum_over-ext _ _ (λ arc. ap (λ (n : ℕ). least_term (pos n -ℤ combine_rows mult (λ i. (row_at rows i).coef arc)) (node.lo arc) (node.hi arc)) (omega arith)) (legal_arcs town))
