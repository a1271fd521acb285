-- What an answer shows, from how its run ended.
use Rattle.std.proofs.Common.{◌≡◌, ◌≢◌, ℕ, zero, suc, ◌+◌, ◌*◌, ◌<◌, ◌≤◌, true, unsigned_abs, ℤ, pos, ◌*ℤ◌, ◌≤ℤ◌, ◌<ℤ◌, List, [], ◌∷◌, map, length, get_or, All, AllPairs, Contains, ap, refl, sym, ◌∙◌, arith, subst, inl, inr, Result, Ok, Err}
use Rattle.std.specs.Prelude.{slice_index, IfOk}
use Rattle.std.proofs.lemmas.Bool.{cases_lt}
use Rattle.std.proofs.lemmas.List.{get_or_past}
use Rattle.std.proofs.lemmas.List.FromFn.{length-map-range_with_len}
use Rattle.std.proofs.lemmas.List.Elements.{All-map}
use Rattle.wrp_sums.specs.Sums.{numbers_below}
use Rattle.wrp_sums.specs.Duality as duality
use Rattle.wrp_sums.specs.Duality.{Program, dual_value, row_sum, cost_sum}
use Rattle.wrp_sums.proofs.Integers.{linear, times_zero}
use Rattle.wrp_sums.proofs.SumsOver.{sum_over-same}
use Rattle.wrp_sums.proofs.FirstNumbers.{passes_of_inside, length-numbers_below, get_or-numbers_below}
use Rattle.wrp_town.specs.declared.town.Town.{Town}
use Rattle.wrp_town.specs.Arcs.{arcs, is_legal, legal_arcs, cost_or_zero}
use Rattle.wrp_town.proofs.TownLaws.{legal_below}
use Rattle.wrp_rows.specs.declared.point.Bounds.{Bounds}
use Rattle.wrp_rows.specs.declared.point.Point.{Point}
use Rattle.wrp_rows.specs.Pools.{RowPool}
use Rattle.wrp_rows.specs.Points.{AreBounds, IsPoint}
use Rattle.wrp_tableau.specs.declared.line.Line.{Line}
use Rattle.wrp_tableau.specs.Systems.{System, row, start_of}
use Rattle.wrp_tableau.specs.Equations.{sign_of}
use Rattle.wrp_tableau.specs.Solutions.{HasCosts}
use Rattle.wrp_simplex.specs.Steps.{pivot_entry, IsBroken, IsDualFeasible, IsFeasible, IsRun, after_steps}
use Rattle.wrp_simplex.specs.Follows.{Follows}
use Rattle.wrp_simplex.specs.Runs.{IsRunFrom}
use Rattle.wrp_lp.specs.declared.lp.Lp.{Lp}
use Rattle.wrp_lp.specs.declared.lp.Lp.TheVariants.{Optimal, Empty, Wide, Pivots}
use Rattle.wrp_lp.specs.Relaxed.{width, lines_of, costs_of}
use Rattle.wrp_lp.specs.Reading.{number_of, optimal_multiplier, empty_multiplier, multipliers_of}
use Rattle.wrp_lp.specs.Programs.{sizes, ArePositive, denominator_of, numbers_of, IsOptimum, ShowsEmpty}
use Rattle.wrp_lp.specs.Answers.{steps_of, IsRunWithin, IsReadOff, IsStuckWith, EndsAt, relaxed, program_of, free_program_of, Shows}
use Rattle.wrp_lp.proofs.Sides.{paired, worth_something}
use Rattle.wrp_lp.proofs.Numbers.{number_above}
use Rattle.wrp_lp.proofs.Optimum.{solution_is, multiplier_above, value_is}
use Rattle.wrp_simplex.proofs.Stuck.{stuck_row}
use Rattle.wrp_simplex.proofs.Lines as simplex
use Rattle.wrp_lp.proofs.Columns.{number_none}
use Rattle.wrp_lp.proofs.Readings.{length-mapped, get_or-mapped}

-- ---- the start

-- a broken row has a right side
right_some : (t : System) (r : ℕ) → IsBroken t r → (row t r).right ≢ pos 0
right_some t r broken none =
    absurd (omega (arith, linear, broken.negative, ap (λ (z : ℤ). sign_of (pivot_entry t r) *ℤ z) none, times_zero (sign_of (pivot_entry t r))))

pub length-costs_of : (town : Town) → length (costs_of town) ≡ width town
unfolding costs_of
length-costs_of town = length-map-range_with_len (λ arc. pos (cost_or_zero town arc)) 0 (width town)

costs_above : (town : Town) → All (λ z. pos 0 ≤ℤ z) (costs_of town)
unfolding costs_of
costs_above town = All-map (λ z. pos 0 ≤ℤ z) (λ arc. pos (cost_or_zero town arc)) (arcs town) (λ i d h. omega (arith, linear))

pub start_dual : (s : System) (pool : RowPool) (chosen : List ℕ) (bounds : Bounds) → s ≡ relaxed pool chosen bounds → IsDualFeasible s
start_dual s pool chosen bounds is =
    let lines = lines_of pool.town pool.rows chosen (slice_index bounds.lo) (slice_index bounds.hi) in
    subst IsDualFeasible (sym is) (simplex.start_dual (width pool.town) lines (costs_of pool.town) (length-costs_of pool.town) (costs_above pool.town))

pub started : (pool : RowPool) (chosen : List ℕ) (bounds : Bounds) (w : ℕ) (lines : List Line) (costs : List ℤ)
    → w ≡ width pool.town → lines ≡ lines_of pool.town pool.rows chosen (slice_index bounds.lo) (slice_index bounds.hi) → costs ≡ costs_of pool.town → start_of w lines costs ≡ relaxed pool chosen bounds
started pool chosen bounds w lines costs width_is lines_are costs_are =
    let all = lines_of pool.town pool.rows chosen (slice_index bounds.lo) (slice_index bounds.hi) in
    ap (λ (n : ℕ). start_of n lines costs) width_is ∙ ap (λ (ls : List Line). start_of (width pool.town) ls costs) lines_are ∙ ap (λ (cs : List ℤ). start_of (width pool.town) all cs) costs_are

-- ---- results

pub if_ok : {X E : Type 0} (P Q : X → Type 0) (r : Result X E) → ((x : X) → P x → Q x) → IfOk r P → IfOk r Q
if_ok P Q (Ok x) f h = f x h
if_ok P Q (Err e) f h = tt

pub if_ok_both : {X E : Type 0} (P Q R : X → Type 0) (r : Result X E) → ((x : X) → P x → Q x → R x) → IfOk r P → IfOk r Q → IfOk r R
if_ok_both P Q R (Ok x) f h k = f x h k
if_ok_both P Q R (Err e) f h k = tt

-- ---- few chosen rows

pub few_chosen : (n : ℕ) (xs : List ℕ) → AllPairs (λ i j. i < j) xs → All (λ i. i < n) xs → length xs ≤ n
few_chosen n xs ascending below = by (length xs) refl
  where
    at_least : (k : ℕ) → k < length xs → k ≤ get_or xs k 0
    at_least zero h = omega arith
    at_least (suc k) h = let before = at_least k (omega arith) in let up = ascending k (suc k) 0 (omega arith) h in omega arith

    by : (k : ℕ) → length xs ≡ k → length xs ≤ n
    by zero e = omega arith
    by (suc k) e = let last = at_least k (omega arith) in let top = below k 0 (omega arith) in omega arith

-- ---- programs over numbers that agree at the legal arcs

module _ (p : Program) (x y : ℕ → ℕ) (same : (a : ℕ) → Contains p.arcs a → x a ≡ y a) where
  row_same : (r : ℕ) → row_sum p r x ≡ row_sum p r y
  row_same r = sum_over-same (λ a. p.coef r a *ℤ pos (x a)) (λ a. p.coef r a *ℤ pos (y a)) p.arcs (λ a inside. ap (λ (n : ℕ). p.coef r a *ℤ pos n) (same a inside))

  cost_same : cost_sum p x ≡ cost_sum p y
  cost_same = sum_over-same (λ a. pos (p.cost a * x a)) (λ a. pos (p.cost a * y a)) p.arcs (λ a inside. ap (λ (n : ℕ). pos (p.cost a * n)) (same a inside))

  solution_same : (d : ℕ) (mult : List (ℕ × ℕ)) → duality.IsSolution p d mult x → duality.IsSolution p d mult y
  solution_same d mult is = record {
    at_least = λ a inside. subst (λ n. p.lo a * d ≤ n) (same a inside) (is.at_least a inside);
    at_most = λ a inside. subst (λ n. n ≤ p.hi a * d) (same a inside) (is.at_most a inside);
    meets = λ q inside. subst (λ z. (pos d *ℤ p.right_side q.0) ≤ℤ z) (row_same q.0) (is.meets q inside);
  }

-- ---- lists of multipliers

mapped_again : {X Y Z : Type 0} (f : X → Y) (g : Y → Z) (xs : List X) → map g (map f xs) ≡ map (λ x. g (f x)) xs
mapped_again f g [] = refl
mapped_again f g (x ∷ xs) = ap (λ ys. g (f x) ∷ ys) (mapped_again f g xs)

sizes_are : (chosen : List ℕ) (f : ℕ → ℤ) → sizes (multipliers_of chosen f) ≡ paired chosen (λ i. unsigned_abs (f i))
sizes_are chosen f = mapped_again (λ i. (slice_index chosen i, f i)) (λ q. (q.0, unsigned_abs q.1)) (numbers_below (length chosen))

all_positive : (chosen : List ℕ) (f : ℕ → ℤ) → ((i : ℕ) → i < length chosen → pos 0 ≤ℤ f i) → ArePositive (multipliers_of chosen f)
all_positive chosen f above =
    All-map (λ q. pos 0 ≤ℤ q.1) (λ i. (slice_index chosen i, f i)) (numbers_below (length chosen))
    (λ k d h.
    let below : k < length chosen = rw (length-numbers_below (length chosen)) at h in
    subst (λ i. pos 0 ≤ℤ f i) (sym (get_or-numbers_below (length chosen) k d below)) (above k below))

module _ (pool : RowPool) (chosen : List ℕ) (bounds : Bounds) (are : AreBounds pool.town bounds) (t : System) (follows : Follows (relaxed pool chosen bounds) t) (dual : IsDualFeasible t) where
  abbrev town : Town
  town = pool.town

  abbrev lo : ℕ → ℕ
  lo = slice_index bounds.lo

  abbrev hi : ℕ → ℕ
  hi = slice_index bounds.hi

  ordered : (arc : ℕ) → is_legal town arc ≡ true → lo arc ≤ hi arc
  ordered arc legal = are.ordered arc

  -- an optimum is shown
  module _ (costs : HasCosts (costs_of town) t) (point : Point) (mult : List (ℕ × ℤ)) (feasible : IsFeasible t) (read : IsReadOff t chosen point mult) where
    abbrev den : ℕ
    den = denominator_of point

    some : 0 < den
    some = read.den.some

    number_at : (arc : ℕ) → arc < width town → get_or point.at arc (pos 0) ≡ number_of t den arc
    number_at arc below =
        ap (λ (xs : List ℤ). get_or xs arc (pos 0)) read.numbers
        ∙ get_or-mapped (number_of t den) t.width arc (pos 0) (let e = follows.width in omega arith)

    long : length point.at ≡ width town
    long = ap length read.numbers ∙ length-mapped (number_of t den) t.width ∙ follows.width

    is_point : IsPoint town point
    is_point = record {
      positive = read.range.positive;
      low = read.range.low;
      long = long;
      illegal = λ arc illegal. elim (cases_lt arc (width town)) [
        | inl below ↦ number_at arc below ∙ number_none town pool.rows chosen lo hi arc below illegal t follows den
        | inr past ↦ get_or_past point.at arc (pos 0) (let e = long in omega arith)
      ];
    }

    same : (arc : ℕ) → Contains (legal_arcs town) arc → unsigned_abs (number_of t den arc) ≡ numbers_of point arc
    same arc inside = ap unsigned_abs (sym (number_at arc (legal_below town arc (passes_of_inside (is_legal town) (arcs town) arc inside))))

    abbrev y : ℕ → ℕ
    y i = unsigned_abs (optimal_multiplier t den i)

    sized : sizes mult ≡ paired chosen y
    sized = ap sizes read.multipliers ∙ sizes_are chosen (optimal_multiplier t den)

    is_optimum : IsOptimum (program_of pool bounds) point mult
    is_optimum =
        let p = program_of pool bounds in
        record {
          not_negative = subst (All (λ z. pos 0 ≤ℤ z)) (sym read.numbers)
              (All-map (λ z. pos 0 ≤ℤ z) (number_of t den) (numbers_below t.width)
              (λ k d h.
              let below : k < t.width = rw (length-numbers_below t.width) at h in
              subst (λ i. pos 0 ≤ℤ number_of t den i) (sym (get_or-numbers_below t.width k d below)) (number_above t follows.sound den read.den.whole.values some feasible k below)));
          solution = subst (λ m. duality.IsSolution p den m (numbers_of point)) (sym sized)
              (solution_same p (λ a. unsigned_abs (number_of t den a)) (numbers_of point) same den (paired chosen y)
              (solution_is town pool.rows chosen lo hi t follows den some read.den.whole feasible y));
          positive = subst ArePositive (sym read.multipliers)
              (all_positive chosen (optimal_multiplier t den) (multiplier_above town pool.rows chosen lo hi t follows den some read.den.whole feasible costs dual));
          value = ap (dual_value p den) sized
              ∙ value_is town pool.rows chosen lo hi t follows den some read.den.whole feasible costs dual ordered
              ∙ cost_same p (λ a. unsigned_abs (number_of t den a)) (numbers_of point) same;
        }

  -- that there is no solution is shown
  shows_empty : (limit steps : ℕ) (mult : List (ℕ × ℤ)) → IsStuckWith t chosen limit steps mult → ShowsEmpty (free_program_of pool bounds) mult
  shows_empty limit steps mult is =
      let r = is.row in
      let broken = is.stuck.leaving.broken in
      record {
        positive = subst ArePositive (sym is.multipliers) (all_positive chosen (empty_multiplier t r) (λ i h. omega (arith, linear)));
        value = subst (λ m. pos 0 <ℤ dual_value (free_program_of pool bounds) 1 m) (sym (ap sizes is.multipliers ∙ sizes_are chosen (empty_multiplier t r)))
            (subst (λ (w : ℕ). pos 0 <ℤ dual_value (free_program_of pool bounds) 1 (paired chosen (λ i. unsigned_abs ((row t r).entry (w + i))))) (sym follows.width)
            (worth_something town pool.rows chosen lo hi ordered t follows r broken.there (right_some t r broken) (stuck_row t r follows.sound broken dual is.stuck.none)));
      }

-- what an answer shows
pub shows : (pool : RowPool) (chosen : List ℕ) (bounds : Bounds) (t : System) (limit : ℕ) (lp : Lp) → AreBounds pool.town bounds → Follows (relaxed pool chosen bounds) t → IsDualFeasible t → HasCosts (costs_of pool.town) t → EndsAt t chosen limit lp → Shows pool bounds lp
shows pool chosen bounds t limit (Optimal point mult table taken) are follows dual costs ends =
    (is_point pool chosen bounds are t follows dual costs point mult ends.0 ends.2, is_optimum pool chosen bounds are t follows dual costs point mult ends.0 ends.2)
shows pool chosen bounds t limit (Empty mult taken) are follows dual costs ends = shows_empty pool chosen bounds are t follows dual limit (length taken) mult ends
shows pool chosen bounds t limit (Wide taken) are follows dual costs ends = tt
shows pool chosen bounds t limit (Pivots taken) are follows dual costs ends = tt

-- ---- a run from the start

module _ (pool : RowPool) (chosen : List ℕ) (bounds : Bounds) (s : System) (start : s ≡ relaxed pool chosen bounds) (steps : List (ℕ × ℕ)) (t : System) (run : IsRunFrom s steps t) (limit : ℕ) (lp : Lp) (took : steps_of lp ≡ steps) where
  pub run_within : length steps ≤ limit → IsRunWithin (relaxed pool chosen bounds) limit (steps_of lp)
  run_within within = subst (IsRunWithin (relaxed pool chosen bounds) limit) (sym took)
      (record { run = subst (λ u. IsRun u steps) start run.run; within = within })

  end_is : t ≡ after_steps (relaxed pool chosen bounds) (steps_of lp)
  end_is = run.after ∙ ap (λ u. after_steps u steps) start ∙ ap (after_steps (relaxed pool chosen bounds)) (sym took)

  pub ends_so : EndsAt t chosen limit lp → EndsAt (after_steps (relaxed pool chosen bounds) (steps_of lp)) chosen limit lp
  ends_so ends = subst (λ u. EndsAt u chosen limit lp) end_is ends

  pub shows_so : AreBounds pool.town bounds → HasCosts (costs_of pool.town) s → EndsAt t chosen limit lp → Shows pool bounds lp
  shows_so are costs ends =
      shows pool chosen bounds t limit lp are (subst (λ u. Follows u t) start run.follows) run.dual (run.follows.costs (costs_of pool.town) costs) ends
