-- What the relaxation over all rows and the box of a node shows of the node.
use Rattle.std.proofs.Common.{◌≡◌, ℕ, zero, suc, ◌*◌, ◌^◌, ◌<◌, ◌≤◌, Bool, true, false, ℤ, pos, ◌≤ℤ◌, unsigned_abs, List, [], ◌∷◌, length, get_or, AllPairs, Contains, ap, refl, sym, ◌∙◌, subst, arith, mul-le-mul}
use Rattle.std.specs.declared.alloc.AllocError.{AllocError}
use Rattle.std.specs.Prelude.{slice_index, slice_index_or, nat_lt, IfOk, Result, Ok, Err}
use Rattle.std.specs.List.{All, list_all, range_with_len}
use Rattle.std.proofs.Math.ListN.{get_or-map}
use Rattle.std.proofs.lemmas.Bool.{lt-ltb, and_from}
use Rattle.std.proofs.lemmas.List.{length-map}
use Rattle.std.proofs.lemmas.List.Elements.{Contains-get_or}
use Rattle.std.proofs.lemmas.List.Folds.{list_all-map}
use Rattle.std.proofs.lemmas.List.FromFn.{length-range_with_len, get_or-range_with_len}
use Rattle.wrp_sums.specs.Sums.{numbers_below}
use Rattle.wrp_sums.specs.Duality as duality
use Rattle.wrp_sums.proofs.Integers.{casts}
use Rattle.wrp_sums.proofs.FirstNumbers.{below_of_inside}
use Rattle.wrp_sums.proofs.SumsOver.{inside_head, inside_tail}
use Rattle.wrp_town.specs.Arcs.{is_legal}
use Rattle.wrp_town.proofs.TownLaws.{few_demands}
use Rattle.wrp_rules.proofs.LegalArcs.{inside_legal}
use Rattle.wrp_rules.specs.Nodes as nodes
use Rattle.wrp_rules.specs.Nodes.{Node, Standing}
use Rattle.wrp_laws.specs.Points.{MeetsOver, IsPointOf}
use Rattle.wrp_rows.specs.declared.point.Bounds.{Bounds}
use Rattle.wrp_rows.specs.declared.point.Point.{Point}
use Rattle.wrp_rows.specs.Pools.{RowPool, SparseRow, sparse_of, HasRowsOf}
use Rattle.wrp_rows.specs.Points.{IsPoint, AreBounds, AreBoundsOf}
use Rattle.wrp_rows.specs.Tables.{name_rows}
use Rattle.wrp_tableau.specs.Systems.{System}
use Rattle.wrp_lp.specs.declared.lp.Lp.{Lp}
use Rattle.wrp_lp.specs.declared.lp.Lp.TheVariants as lps
use Rattle.wrp_lp.specs.Programs.{IsOptimum, sizes}
use Rattle.wrp_lp.specs.Reading.{multipliers_of, optimal_multiplier}
use Rattle.wrp_lp.specs.Answers.{program_of, EndsAt, Shows}
use Rattle.wrp_lp.proofs.Readings.{get_or-mapped, length-mapped}
use Rattle.wrp_lp.proofs.Stands.{node_solution}
use Rattle.wrp_odd.specs.Points.{HasNumbers, denominator_of, numbers_of}
use Rattle.wrp_tableau.specs.declared.tableau.Tableau.{Tableau}
use Rattle.wrp_box.specs.Relaxing.{all_rows, IsRelaxed, IsPointIn, ShowsNode}

-- ---- all rows

all_inside : {X : Type 0} (p : X → Bool) (xs : List X) → ((x : X) → Contains xs x → p x ≡ true) → list_all p xs ≡ true
all_inside p [] passes = refl
all_inside p (x ∷ xs) passes =
    and_from (p x) (list_all p xs) (passes x (inside_head x xs)) (all_inside p xs (λ y inside. passes y (inside_tail x xs y inside)))

-- within a list no default counts
pub get_or_any : {X : Type 0} (xs : List X) (i : ℕ) (d e : X) → i < length xs → get_or xs i d ≡ get_or xs i e
get_or_any (x ∷ xs) zero d e below = refl
get_or_any (x ∷ xs) (suc i) d e below = get_or_any xs i d e (omega arith)
get_or_any [] i d e below = absurd (omega arith)

pub ascending_range : (n : ℕ) → AllPairs (λ i j. i < j) (range_with_len 0 n)
ascending_range n i j d less below =
    let short : j < n = omega (arith, length-range_with_len 0 n, below) in
    omega (arith, get_or-range_with_len 0 n i d (omega arith), get_or-range_with_len 0 n j d short, less)

pub below_range : (n : ℕ) → All (λ i. i < n) (range_with_len 0 n)
below_range n k d below =
    let short : k < n = omega (arith, length-range_with_len 0 n, below) in
    omega (arith, get_or-range_with_len 0 n k d short)

module _ (n : ℕ) (f : ℕ → ℤ) where
  abbrev all_sizes : List (ℕ × ℕ)
  all_sizes = sizes (multipliers_of (range_with_len 0 n) f)

  count_is : length (range_with_len 0 n) ≡ n
  count_is = length-range_with_len 0 n

  long_sizes : length all_sizes ≡ n
  long_sizes =
      omega (
        arith,
        length-map {B = ℕ × ℕ} (multipliers_of (range_with_len 0 n) f) (λ q. (q.0, unsigned_abs q.1)),
        length-mapped {X = ℕ × ℤ} (λ i. (slice_index (range_with_len 0 n) i, f i)) (length (range_with_len 0 n)),
        count_is,
      )

  -- each number has its pair
  size_at : (i : ℕ) (d : ℕ × ℤ) → i < n → get_or all_sizes i (d.0, unsigned_abs d.1) ≡ (i, unsigned_abs (f i))
  size_at i d below =
      let listed : i < length (range_with_len 0 n) = omega (arith, count_is, below) in
      let at : slice_index (range_with_len 0 n) i ≡ i = omega (arith, get_or-range_with_len 0 n i 0 below) in
      get_or-map (λ q. (q.0, unsigned_abs q.1)) (multipliers_of (range_with_len 0 n) f) i d
      ∙ ap (λ q. (q.0, unsigned_abs q.1)) (get_or-mapped (λ j. (slice_index (range_with_len 0 n) j, f j)) (length (range_with_len 0 n)) i d listed)
      ∙ ap (λ (j : ℕ). (j, unsigned_abs (f i))) at

  pub pair_inside : (i : ℕ) → i < n → Contains all_sizes (i, unsigned_abs (f i))
  pair_inside i below =
      subst (λ (q : ℕ × ℕ). Contains all_sizes q) (size_at i (0, pos 0) below)
      (Contains-get_or all_sizes i (0, unsigned_abs (pos 0)) (omega (arith, long_sizes, below)))

  -- and names a row
  pub sizes_named : (rows : List SparseRow) → n ≡ length rows → name_rows rows all_sizes ≡ true
  sizes_named rows is =
      list_all-map (λ (q : ℕ × ℕ). nat_lt q.0 (length rows)) (λ (q : ℕ × ℤ). (q.0, unsigned_abs q.1)) (multipliers_of (range_with_len 0 n) f)
      ∙ list_all-map (λ (q : ℕ × ℤ). nat_lt q.0 (length rows)) (λ (i : ℕ). (slice_index (range_with_len 0 n) i, f i)) (numbers_below (length (range_with_len 0 n)))
      ∙ all_inside (λ i. nat_lt (slice_index (range_with_len 0 n) i) (length rows)) (numbers_below (length (range_with_len 0 n)))
      (λ i inside.
      let below : i < n = omega (arith, below_of_inside (length (range_with_len 0 n)) i inside, count_is) in
      lt-ltb (slice_index (range_with_len 0 n) i) (length rows) (omega (arith, get_or-range_with_len 0 n i 0 below, is, below)))

-- ---- the point

module _ (s : Standing) (node : Node) (pool : RowPool) (bounds : Bounds) (has : HasRowsOf s pool) (are : AreBoundsOf pool.town node bounds) (within : AreBounds pool.town bounds) where
  row_count : length pool.rows ≡ length s.rows
  row_count = ap length has.rows ∙ length-map s.rows (sparse_of pool.town)

  module _ (point : Point) (f : ℕ → ℤ) (is : IsPoint pool.town point) (optimum : IsOptimum (program_of pool bounds) point (multipliers_of (all_rows pool) f)) where
    abbrev x : ℕ → ℕ
    x = numbers_of point

    abbrev den : ℕ
    den = denominator_of point

    solved : duality.IsSolution (nodes.program pool.town s.rows node) den (sizes (multipliers_of (all_rows pool) f)) x
    solved =
        node_solution s node pool bounds has are (sizes (multipliers_of (all_rows pool) f))
        (sizes_named (length pool.rows) f pool.rows refl) den x optimum.solution

    meets_all : All (MeetsOver pool.town den x) s.rows
    meets_all i d below =
        let there : i < length pool.rows = omega (arith, row_count, below) in
        subst (MeetsOver pool.town den x) (get_or_any s.rows i (record { coef = λ arc. pos 0; right_side = pos 0 }) d below)
        (solved.meets (i, unsigned_abs (f i)) (pair_inside (length pool.rows) f i there))

    positive : 0 < den
    positive = omega (arith, casts, is.positive)

    pub of_node : IsPointOf pool.town s.rows node den x
    of_node = record {
      positive = positive;
      at_least = λ arc legal. solved.at_least arc (inside_legal pool.town arc legal);
      at_most = λ arc legal. solved.at_most arc (inside_legal pool.town arc legal);
      meets = meets_all;
    }

    high : (arc : ℕ) → x arc ≤ 2 ^ 72
    high arc = by (is_legal pool.town arc) refl
      where
        by : (t : Bool) → is_legal pool.town arc ≡ t → x arc ≤ 2 ^ 72
        by false off = omega (arith, ap unsigned_abs (is.illegal arc off))
        by true legal =
            let most : node.hi arc ≤ 4000 = omega (arith, sym (are.hi arc legal), within.low arc, few_demands pool.town) in
            let low : den ≤ 2 ^ 60 = omega (arith, casts, is.positive, is.low) in
            let product : node.hi arc * den ≤ 4000 * 2 ^ 60 = mul-le-mul most low in
            let at : x arc ≤ node.hi arc * den = of_node.at_most arc legal in
            omega (arith, at, product)

    pub has_numbers : HasNumbers point
    has_numbers i d below =
        let z = get_or point.at i d in
        let same : z ≡ slice_index_or point.at i (pos 0) = get_or_any point.at i d (pos 0) below in
        let low : pos 0 ≤ℤ z = optimum.not_negative i d below in
        (low, omega (arith, casts, low, ap unsigned_abs same, high i))

    pub point_in : IsPointIn pool.town s node point
    point_in = record { is = is; numbers = has_numbers; of_node = of_node }

-- what an answer shows of the node
pub shows_node : (s : Standing) (node : Node) (pool : RowPool) (bounds : Bounds) (system : System) (limit : ℕ) (lp : Lp) → HasRowsOf s pool → AreBoundsOf pool.town node bounds → AreBounds pool.town bounds → EndsAt system (all_rows pool) limit lp → Shows pool bounds lp → ShowsNode pool.town s node lp
shows_node s node pool bounds system limit (lps.Optimal point mult table taken) has are within ends shows =
    let f = optimal_multiplier system (denominator_of point) in
    point_in s node pool bounds has are within point f shows.0
    (subst (IsOptimum (program_of pool bounds) point) ends.2.multipliers shows.1)
shows_node s node pool bounds system limit (lps.Empty mult taken) has are within ends shows = record {}
shows_node s node pool bounds system limit (lps.Wide taken) has are within ends shows = record {}
shows_node s node pool bounds system limit (lps.Pivots taken) has are within ends shows = record {}

pub result_shows : (s : Standing) (node : Node) (pool : RowPool) (bounds : Bounds) (limit : ℕ) (chosen : List ℕ) (after : Lp → System) (result : Result Lp AllocError) → chosen ≡ all_rows pool → HasRowsOf s pool → AreBoundsOf pool.town node bounds → AreBounds pool.town bounds → IfOk result (λ lp. EndsAt (after lp) chosen limit lp) → IfOk result (Shows pool bounds) → IfOk result (ShowsNode pool.town s node)
result_shows s node pool bounds limit chosen after (Ok lp) all has are within ends shows =
    shows_node s node pool bounds (after lp) limit lp has are within (subst (λ (rows : List ℕ). EndsAt (after lp) rows limit lp) all ends) shows
result_shows s node pool bounds limit chosen after (Err fault) all has are within ends shows = record {}

-- ---- the multipliers ascend

ascending_mult : (n : ℕ) (f : ℕ → ℤ) → AllPairs (λ p q. p.0 < q.0) (multipliers_of (range_with_len 0 n) f)
ascending_mult n f i j d less below =
    let pair : ℕ → ℕ × ℤ = λ k. (slice_index (range_with_len 0 n) k, f k) in
    let long = length-range_with_len 0 n in
    let short : j < n = omega (arith, long, below, length-mapped {X = ℕ × ℤ} pair (length (range_with_len 0 n))) in
    let at_i : (get_or (multipliers_of (range_with_len 0 n) f) i d).0 ≡ i =
    ap (λ (q : ℕ × ℤ). q.0) (get_or-mapped pair (length (range_with_len 0 n)) i d (omega (arith, long))) ∙ omega (arith, get_or-range_with_len 0 n i 0 (omega arith)) in
    let at_j : (get_or (multipliers_of (range_with_len 0 n) f) j d).0 ≡ j =
    ap (λ (q : ℕ × ℤ). q.0) (get_or-mapped pair (length (range_with_len 0 n)) j d (omega (arith, long))) ∙ omega (arith, get_or-range_with_len 0 n j 0 short) in
    omega arith

pub optimal_ascends : (pool : RowPool) (pivots : ℕ) (point : Point) (mult : List (ℕ × ℤ)) (table : Tableau) (taken : List (ℕ × ℕ)) (lp : Lp) → lp ≡ lps.Optimal point mult table taken → (bounds : Bounds) → IsRelaxed pool bounds pivots lp → AllPairs (λ p q. p.0 < q.0) mult
optimal_ascends pool pivots point mult table taken lp is bounds relaxed =
    let ends = subst (λ (a : Lp). IsRelaxed pool bounds pivots a) is relaxed in
    subst (λ (m : List (ℕ × ℤ)). AllPairs (λ p q. p.0 < q.0) m) (sym ends.end.2.multipliers)
    (ascending_mult (length pool.rows) _)

pub empty_ascends : (pool : RowPool) (pivots : ℕ) (mult : List (ℕ × ℤ)) (taken : List (ℕ × ℕ)) (lp : Lp) → lp ≡ lps.Empty mult taken → (bounds : Bounds) → IsRelaxed pool bounds pivots lp → AllPairs (λ p q. p.0 < q.0) mult
empty_ascends pool pivots mult taken lp is bounds relaxed =
    let ends = subst (λ (a : Lp). IsRelaxed pool bounds pivots a) is relaxed in
    subst (λ (m : List (ℕ × ℤ)). AllPairs (λ p q. p.0 < q.0) m) (sym ends.end.multipliers)
    (ascending_mult (length pool.rows) _)

-- ---- the point of an optimum is one of the town

pub optimal_point : (pool : RowPool) (pivots : ℕ) (point : Point) (mult : List (ℕ × ℤ)) (table : Tableau) (taken : List (ℕ × ℕ)) (lp : Lp) → lp ≡ lps.Optimal point mult table taken → (bounds : Bounds) → IsRelaxed pool bounds pivots lp → IsPoint pool.town point
optimal_point pool pivots point mult table taken lp is bounds relaxed =
    (subst (λ (a : Lp). IsRelaxed pool bounds pivots a) is relaxed).shows.0
