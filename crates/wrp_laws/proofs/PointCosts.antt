-- Numbers over a denominator that lie in a node's box and meet every row of a valid list cost, rounded up, at least the
-- node's bound.
use Rattle.std.proofs.Common.{◌≡◌, ℕ, zero, suc, ◌+◌, ◌*◌, ◌<◌, ◌≤◌, true, cond, ◌==◌, List, [], ◌++◌, length, get_or, is_none, ℤ, pos, ◌*ℤ◌, ◌≤ℤ◌, ap, refl, sym, ◌∙◌, subst, inl, inr, ◌⊎◌, ⊎_elim, arith, length-append, mul-le-mul_right}
use Rattle.std.specs.List.{All}
use Rattle.std.specs.Option.{option_to_list}
use Rattle.std.proofs.lemmas.Bool.{eqb-true, cases_eq, cases_lt}
use Rattle.std.proofs.lemmas.Int.{ints}
use Rattle.std.proofs.lemmas.List.{get_or_append_left, get_or_past}
use Rattle.wrp_sums.specs.Sums.{sum_over}
use Rattle.wrp_sums.specs.Rounding.{ceil_div}
use Rattle.wrp_sums.specs.Duality.{IsSolution, dual_value}
use Rattle.wrp_sums.proofs.Integers.{linear, *ℤ_left_comm, scale_le, cancel_le, times_zero}
use Rattle.wrp_sums.proofs.SumsOver.{sum_over-all_zero, sum_over-at_least_zero}
use Rattle.wrp_sums.proofs.FirstNumbers.{passes_of_inside}
use Rattle.wrp_sums.proofs.RoundedUp.{IsCeilDiv-ceil_div}
use Rattle.wrp_sums.proofs.WeakDuality.{weak_duality}
use Rattle.wrp_town.specs.declared.town.Town.{Town}
use Rattle.wrp_town.specs.Arcs.{is_legal, arcs, legal_arcs, cost_or_zero}
use Rattle.wrp_rules.specs.declared.record.Record.{Record}
use Rattle.wrp_rules.specs.declared.record.Record.TheVariants.{Tour, Conn, Odd, Round, Kc, Bound, Empty, Apart, Point, Blind, Split, Labels}
use Rattle.wrp_rules.specs.Rows.{Row, row_at, row_of}
use Rattle.wrp_rules.specs.Nodes.{Node, root, Standing, start, node_at, with_bound, closed, at_most, at_least, changed, program, bound_value, after, standing}
use Rattle.wrp_rules.specs.Rules.{broken_rule}
use Rattle.wrp_rules.specs.Lists.{is_valid}
use Rattle.wrp_laws.specs.Points.{MeetsOver, IsPointOf, price}
use Rattle.wrp_laws.proofs.CutRows.{goes_on_keeps}
use Rattle.wrp_laws.proofs.Boxes.{length-changed, changed_at, changed_other, changed_keeps, AreSplit, are_split, SplitsBy, splits_by, from_below_choice, from_above_choice}
use Rattle.wrp_laws.proofs.Lower.{bound_there}

abbrev IsBoundOf : Town → List Row → Node → Type 0
IsBoundOf town rows node = (e : ℕ) (x : ℕ → ℕ) → IsPointOf town rows node e x → node.bound ≤ℤ price town e x

-- ---- rows

-- past the last row stands one that asks for nothing
over_at : (town : Town) (e : ℕ) (x : ℕ → ℕ) (rows : List Row) (i : ℕ) → All (MeetsOver town e x) rows → MeetsOver town e x (row_at rows i)
over_at town e x rows i all =
    ⊎_elim
    (λ (inside : i < length rows). all i _ inside)
    (λ (past : length rows ≤ i). subst (MeetsOver town e x) (sym (get_or_past rows i _ past)) nothing)
    (cases_lt i (length rows))
  where
    nothing : MeetsOver town e x (record { coef = λ arc. pos 0; right_side = pos 0 })
    nothing = subst (λ (z : ℤ). (pos e *ℤ pos 0) ≤ℤ z) (sym (sum_over-all_zero (λ arc. pos 0 *ℤ pos (x arc)) (legal_arcs town) (λ arc inside. omega (arith, ints)))) (omega (arith, ints))

all_before : {X : Type 0} (P : X → Type 0) (xs ys : List X) → All P (xs ++ ys) → All P xs
all_before P xs ys all = λ k d below. subst P (get_or_append_left xs ys d k below) (all k d (omega (arith, length-append xs ys)))

-- a bound stays one where rows come, and in a smaller box
more_rows : (town : Town) (rows more : List Row) (node : Node) → IsBoundOf town rows node → IsBoundOf town (rows ++ more) node
more_rows town rows more node bounds = λ e x is. bounds e x (record { positive = is.positive; at_least = is.at_least; at_most = is.at_most; meets = all_before (MeetsOver town e x) rows more is.meets })

record IsNarrower (small big : Node) : Type 0 where
  lo : (arc : ℕ) → big.lo arc ≤ small.lo arc
  hi : (arc : ℕ) → small.hi arc ≤ big.hi arc
  bound : small.bound ≡ big.bound

smaller_box : (town : Town) (rows : List Row) (small big : Node) → IsNarrower small big → IsBoundOf town rows big → IsBoundOf town rows small
smaller_box town rows small big within bounds = λ e x is.
    subst (λ (z : ℤ). z ≤ℤ price town e x) (sym within.bound)
    (bounds e x (record {
      positive = is.positive;
      at_least = λ arc legal. (let own = is.at_least arc legal in omega (arith, mul-le-mul_right e (within.lo arc)));
      at_most = λ arc legal. (let own = is.at_most arc legal in omega (arith, mul-le-mul_right e (within.hi arc)));
      meets = is.meets;
    }))

-- ---- a bound of multipliers

new_bound : (town : Town) (rows : List Row) (node : Node) (den : ℕ) (mult : List (ℕ × ℕ)) → 0 < den → IsBoundOf town rows (with_bound (bound_value town rows node den mult) node)
new_bound town rows node den mult positive = λ e x is.
    let p = program town rows node in
    let cost = sum_over (λ arc. pos (cost_or_zero town arc * x arc)) (legal_arcs town) in
    let solution : IsSolution p e mult x = record {
      at_least = λ a inside. is.at_least a (passes_of_inside (is_legal town) (arcs town) a inside);
      at_most = λ a inside. is.at_most a (passes_of_inside (is_legal town) (arcs town) a inside);
      meets = λ q inside. over_at town e x rows q.0 is.meets;
    } in
    through e (dual_value p den mult) cost is.positive (weak_duality p den e mult x solution)
  where
    through : (e : ℕ) (value cost : ℤ) → 0 < e → (pos e *ℤ value) ≤ℤ (pos den *ℤ cost) → ceil_div value den ≤ℤ ceil_div cost e
    through e value cost some weak =
        let reach = (IsCeilDiv-ceil_div cost e some).covers in
        let scaled = scale_le den cost (pos e *ℤ ceil_div cost e) reach in
        (IsCeilDiv-ceil_div value den positive).least (ceil_div cost e)
        (cancel_le e value (pos den *ℤ ceil_div cost e) some (omega (arith, linear, *ℤ_left_comm (pos den) (pos e) (ceil_div cost e))))

-- ---- a list

abbrev pub BoundsPoints : Town → Standing → Type 0
BoundsPoints town s = (i : ℕ) → i < length s.nodes → IsBoundOf town s.rows (node_at town s i)

points_start : (town : Town) → BoundsPoints town (start town)
points_start town zero below e x is =
    let sum : pos 0 ≤ℤ sum_over (λ arc. pos (cost_or_zero town arc * x arc)) (legal_arcs town) = sum_over-at_least_zero (λ arc. pos (cost_or_zero town arc * x arc)) (legal_arcs town) (λ arc inside. omega (arith, linear)) in
    let reach = (IsCeilDiv-ceil_div (sum_over (λ arc. pos (cost_or_zero town arc * x arc)) (legal_arcs town)) e is.positive).covers in
    cancel_le e (pos 0) (price town e x) is.positive (omega (arith, linear, times_zero (pos e)))
points_start town (suc i) below e x is = absurd (omega arith)

-- a change that keeps boxes and bounds
points_changed : (town : Town) (s : Standing) (more : List Row) (change : Node → Node) (node : ℕ) → ((n : Node) → (change n).lo ≡ n.lo) → ((n : Node) → (change n).hi ≡ n.hi) → ((n : Node) → (change n).bound ≡ n.bound) → BoundsPoints town s → (i : ℕ) → i < length (changed change node s.nodes) → IsBoundOf town (s.rows ++ more) (get_or (changed change node s.nodes) i (root town))
points_changed town s more change node lo hi bound h i below =
    more_rows town s.rows more (get_or (changed change node s.nodes) i (root town))
    (smaller_box town s.rows (get_or (changed change node s.nodes) i (root town)) (node_at town s i)
    (record {
      lo = λ arc. omega (arith, ap (λ (f : ℕ → ℕ). f arc) (changed_keeps (λ n. n.lo) change lo node i s.nodes (root town)));
      hi = λ arc. omega (arith, ap (λ (f : ℕ → ℕ). f arc) (changed_keeps (λ n. n.hi) change hi node i s.nodes (root town)));
      bound = changed_keeps (λ n. n.bound) change bound node i s.nodes (root town);
    })
    (h i (omega (arith, length-changed change node s.nodes))))

points_bound : (town : Town) (s : Standing) (node den : ℕ) (mult : List (ℕ × ℕ)) → node < length s.nodes → 0 < den → BoundsPoints town s → BoundsPoints town (after town s (Bound node den mult))
points_bound town s node den mult there positive h i below =
    more_rows town s.rows [] (node_at town (after town s (Bound node den mult)) i)
    (elim (cases_eq i node) [
      | inl same ↦ subst (IsBoundOf town s.rows) (sym (ap (λ j. get_or (changed change node s.nodes) j (root town)) same ∙ changed_at change node s.nodes (root town) there)) (new_bound town s.rows (node_at town s node) den mult positive)
      | inr differs ↦ subst (IsBoundOf town s.rows) (sym (changed_other change node i s.nodes (root town) differs)) (h i (omega (arith, length-changed change node s.nodes)))
    ])
  where
    change : Node → Node
    change = with_bound (bound_value town s.rows (node_at town s node) den mult)

module _ (town : Town) (s : Standing) (node arc k : ℕ) (by : SplitsBy town s node arc k) (h : BoundsPoints town s) where
  abbrev next : Standing
  next = after town s (Split node arc k)

  abbrev parent : Node
  parent = node_at town s node

  are : AreSplit (root town) s.nodes next.nodes node (at_most arc k parent) (at_least arc (k + 1) parent)
  are = are_split (root town) s.nodes node (at_most arc k parent) (at_least arc (k + 1) parent) by.there

  first : IsBoundOf town s.rows (at_most arc k parent)
  first = smaller_box town s.rows (at_most arc k parent) parent
      (record {
        lo = λ a. omega arith;
        hi = λ a. from_below_choice (a == arc) (cond (a == arc) k (parent.hi a)) k (parent.hi a) (λ e. subst (λ b. k ≤ parent.hi b) (sym (eqb-true a arc e)) (let m = by.high in omega arith)) (omega arith);
        bound = refl;
      }) (h node by.there)

  second : IsBoundOf town s.rows (at_least arc (k + 1) parent)
  second = smaller_box town s.rows (at_least arc (k + 1) parent) parent
      (record {
        lo = λ a. from_above_choice (a == arc) (cond (a == arc) (k + 1) (parent.lo a)) (k + 1) (parent.lo a) (λ e. subst (λ b. parent.lo b ≤ k + 1) (sym (eqb-true a arc e)) (let m = by.low in omega arith)) (omega arith);
        hi = λ a. omega arith;
        bound = refl;
      }) (h node by.there)

  of_place : (i : ℕ) → i < length next.nodes → (i < length s.nodes) ⊎ (length s.nodes ≤ i) → (i ≡ length s.nodes) ⊎ (i ≡ length s.nodes → ⊥) → IsBoundOf town s.rows (node_at town next i)
  of_place i below (inl old) other =
      smaller_box town s.rows (node_at town next i) (node_at town s i)
      (record {
        lo = λ a. omega (arith, ap (λ (f : ℕ → ℕ). f a) (are.lo i old));
        hi = λ a. omega (arith, ap (λ (f : ℕ → ℕ). f a) (are.hi i old));
        bound = are.bound i old;
      }) (h i old)
  of_place i below (inr new) (inl one) = subst (IsBoundOf town s.rows) (sym (are.first_is i one)) first
  of_place i below (inr new) (inr other) = subst (IsBoundOf town s.rows) (sym (are.second_is i (omega (arith, are.count)))) second

  points_split : BoundsPoints town next
  points_split i below = more_rows town s.rows [] (node_at town next i) (of_place i below (cases_lt i (length s.nodes)) (cases_eq i (length s.nodes)))

points_after : (town : Town) (s : Standing) (item : Record) → is_none (broken_rule town s item) ≡ true → BoundsPoints town s → BoundsPoints town (after town s item)
points_after town s (Bound node den mult) sound h = let there = bound_there town s node den mult sound in points_bound town s node den mult there.0 there.1 h
points_after town s (Split node arc k) sound h = points_split town s node arc k (splits_by town s node arc k sound) h
points_after town s (Empty node mult) sound h = points_changed town s [] closed node (λ n. refl) (λ n. refl) (λ n. refl) h
points_after town s (Apart node r1 r2 set) sound h = points_changed town s [] closed node (λ n. refl) (λ n. refl) (λ n. refl) h
points_after town s (Tour cost steps) sound h = λ i below. more_rows town s.rows [] (node_at town s i) (h i below)
points_after town s (Conn r1 r2 set) sound h = λ i below. more_rows town s.rows (option_to_list (row_of town s.rows (Conn r1 r2 set))) (node_at town s i) (h i below)
points_after town s (Odd set) sound h = λ i below. more_rows town s.rows (option_to_list (row_of town s.rows (Odd set))) (node_at town s i) (h i below)
points_after town s (Round divisor mult) sound h = λ i below. more_rows town s.rows (option_to_list (row_of town s.rows (Round divisor mult))) (node_at town s i) (h i below)
points_after town s (Kc k of) sound h = λ i below. more_rows town s.rows (option_to_list (row_of town s.rows (Kc k of))) (node_at town s i) (h i below)
points_after town s (Point node den numbers) sound h = λ i below. more_rows town s.rows [] (node_at town s i) (h i below)
points_after town s (Blind node) sound h = λ i below. more_rows town s.rows [] (node_at town s i) (h i below)
points_after town s (Labels labels streets) sound h = λ i below. more_rows town s.rows [] (node_at town s i) (h i below)

pub points_cost : (town : Town) (records : List Record) → is_valid town records ≡ true → BoundsPoints town (standing town records)
points_cost town records valid = goes_on_keeps town (BoundsPoints town) (points_after town) (start town) records valid (points_start town)
