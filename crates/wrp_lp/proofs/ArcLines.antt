-- The lines of a relaxation, and sums over the legal arcs.
use Rattle.std.proofs.Common.{◌≡◌, ℕ, zero, suc, ◌+◌, ◌<◌, ◌==◌, Bool, true, false, cond, ℤ, pos, negsuc, ◌-ℤ◌, ◌*ℤ◌, neg_ℤ, List, [], ◌∷◌, ◌++◌, map, length, get_or, All, Contains, ap, refl, sym, ◌∙◌, arith, subst, eq-eqb, Option, None, Some, unwrap_or, is_some}
use Rattle.std.specs.List.{range_with_len, flat_map}
use Rattle.std.proofs.lemmas.Bool.{ne_eqb}
use Rattle.std.proofs.lemmas.List.{length-map, length-append, get_or-map, get_or-append-add, get_or_append_left}
use Rattle.std.proofs.lemmas.List.FromFn.{length-map-range_with_len, get_or-map-range_with_len}
use Rattle.std.proofs.lemmas.List.Elements.{All-append, All-map, All-nil, All-cons, All-contains, Contains-append_right}
use Rattle.wrp_sums.specs.Sums.{sum_over, numbers_below, coef_at}
use Rattle.wrp_sums.proofs.Integers.{linear, zero_times, one-*ℤ, neg_ℤ-*ℤ, *ℤ-neg_ℤ}
use Rattle.wrp_sums.proofs.SumsOver.{sum_over-same, sum_over-ext, sum_over-filter, sum_over_only, inside_head, inside_tail, for_tail}
use Rattle.wrp_sums.proofs.FirstNumbers.{below_of_inside, passes_of_inside}
use Rattle.wrp_town.specs.declared.town.Town.{Town}
use Rattle.wrp_town.specs.Arcs.{arcs, is_legal, legal_arcs, cost_of, cost_or_zero}
use Rattle.wrp_town.proofs.TownLaws.{legal_below}
use Rattle.wrp_town.proofs.Lists.{range_with_len-more}
use Rattle.wrp_rules.proofs.LegalArcs.{inside_legal}
use Rattle.wrp_rows.specs.Pools.{SparseRow, sparse_at}
use Rattle.wrp_tableau.specs.declared.line.Line.{Line}
use Rattle.wrp_tableau.specs.Solutions.{cost_at}
use Rattle.wrp_lp.specs.Relaxed.{width, arc_coef, row_line, arc_line, lo_line, hi_line, bound_lines, row_lines, lines_of, costs_of}
use Rattle.wrp_simplex.specs.Lines.{no_line, line_at, line_sum}
use Rattle.wrp_lp.proofs.Slacks.{surplus, once_below}

-- ---- sums over the arcs

pub range_numbers : (n : ℕ) → range_with_len 0 n ≡ numbers_below n
range_numbers zero = refl
range_numbers (suc n) =
    ap (range_with_len 0) (more n) ∙ range_with_len-more 0 n n (omega arith) ∙ ap (λ (xs : List ℕ). xs ++ n ∷ []) (range_numbers n)
  where
    more : (k : ℕ) → suc k ≡ k + 1
    more k = omega arith

-- a sum of the entries of a list that f makes
mapped_sum : (f x : ℕ → ℤ) (n : ℕ) → line_sum n (map f (range_with_len 0 n)) x ≡ sum_over (λ a. f a *ℤ x a) (range_with_len 0 n)
unfolding line_sum
mapped_sum f x n =
    sum_over-same (λ j. get_or (map f (range_with_len 0 n)) j (pos 0) *ℤ x j) (λ a. f a *ℤ x a) (numbers_below n)
    (λ j inside. ap (λ (z : ℤ). z *ℤ x j) (get_or-map-range_with_len f 0 n j j (pos 0) (below_of_inside n j inside) (omega arith)))
    ∙ ap (sum_over (λ a. f a *ℤ x a)) (sym (range_numbers n))

chosen_product : (t : Bool) (c x : ℤ) → cond t c (pos 0) *ℤ x ≡ cond t (c *ℤ x) (pos 0)
chosen_product true c x = refl
chosen_product false c x = zero_times x

-- and of those that are 0 where the arc is illegal
legal_sum : (town : Town) (f x : ℕ → ℤ) → line_sum (width town) (map (λ a. cond (is_legal town a) (f a) (pos 0)) (arcs town)) x ≡ sum_over (λ a. f a *ℤ x a) (legal_arcs town)
legal_sum town f x =
    mapped_sum (λ a. cond (is_legal town a) (f a) (pos 0)) x (width town)
    ∙ sum_over-ext (λ a. cond (is_legal town a) (f a) (pos 0) *ℤ x a) (λ a. cond (is_legal town a) (f a *ℤ x a) (pos 0)) (λ a. chosen_product (is_legal town a) (f a) (x a)) (arcs town)
    ∙ sym (sum_over-filter (λ a. f a *ℤ x a) (is_legal town) (arcs town))

pub row_sum_is : (town : Town) (row : SparseRow) (x : ℕ → ℤ) → line_sum (width town) (row_line town row).coefs x ≡ sum_over (λ a. coef_at row.terms a *ℤ x a) (legal_arcs town)
unfolding row_line
row_sum_is town row x = legal_sum town (coef_at row.terms) x

zero_where_none : (cost : Option ℕ) (x : ℤ) → pos (unwrap_or cost 0) *ℤ x ≡ cond (is_some cost) (pos (unwrap_or cost 0) *ℤ x) (pos 0)
zero_where_none None x = zero_times x
zero_where_none (Some c) x = refl

pub costs_sum_is : (town : Town) (x : ℕ → ℤ) → cost_at (costs_of town) x ≡ sum_over (λ a. pos (cost_or_zero town a) *ℤ x a) (legal_arcs town)
unfolding costs_of line_sum
costs_sum_is town x =
    let cost = λ (a : ℕ). pos (cost_or_zero town a) in
    ap (λ (n : ℕ). line_sum n (costs_of town) x) (length-map-range_with_len cost 0 (width town))
    ∙ mapped_sum cost x (width town)
    ∙ sum_over-ext (λ a. cost a *ℤ x a) (λ a. cond (is_legal town a) (cost a *ℤ x a) (pos 0)) (λ a. zero_where_none (cost_of town a) (x a)) (arcs town)
    ∙ sym (sum_over-filter (λ a. cost a *ℤ x a) (is_legal town) (arcs town))

-- the coefficient of one legal arc alone
pub arc_sum_is : (town : Town) (arc : ℕ) (coef rhs : ℤ) (x : ℕ → ℤ) → is_legal town arc ≡ true → line_sum (width town) (arc_line town arc coef rhs).coefs x ≡ coef *ℤ x arc
unfolding arc_line
arc_sum_is town arc coef rhs x legal =
    mapped_sum (λ a. cond (a == arc) coef (pos 0)) x (width town)
    ∙ ap (sum_over (λ a. cond (a == arc) coef (pos 0) *ℤ x a)) (range_numbers (width town))
    ∙ sum_over_only (λ a. cond (a == arc) coef (pos 0) *ℤ x a) arc (numbers_below (width town)) (once_below (width town) arc (legal_below town arc legal))
    (λ a inside differs. rw (ne_eqb a arc differs) (zero_times (x a)))
    ∙ rw (eq-eqb arc arc refl) refl

-- by how much numbers over d more than meet the two lines of an arc
pub lo_surplus : (town : Town) (lo : ℕ → ℕ) (arc : ℕ) (d : ℤ) (x : ℕ → ℤ) → is_legal town arc ≡ true → surplus (width town) (lo_line town lo arc) d x ≡ x arc -ℤ d *ℤ pos (lo arc)
unfolding arc_line
lo_surplus town lo arc d x legal = omega (arith, linear, arc_sum_is town arc (pos 1) (pos (lo arc)) x legal, one-*ℤ (x arc))

pub hi_surplus : (town : Town) (hi : ℕ → ℕ) (arc : ℕ) (d : ℤ) (x : ℕ → ℤ) → is_legal town arc ≡ true → surplus (width town) (hi_line town hi arc) d x ≡ d *ℤ pos (hi arc) -ℤ x arc
unfolding arc_line
hi_surplus town hi arc d x legal =
    omega (arith, linear, arc_sum_is town arc (negsuc 0) (neg_ℤ (pos (hi arc))) x legal, neg_ℤ-*ℤ (pos 1) (x arc), one-*ℤ (x arc), *ℤ-neg_ℤ d (pos (hi arc)))

-- ---- the lines themselves

abbrev IsAsLong : Town → Line → Type 0
IsAsLong town line = length line.coefs ≡ width town

row_long : (town : Town) (row : SparseRow) → IsAsLong town (row_line town row)
unfolding row_line
row_long town row = length-map-range_with_len (arc_coef town row) 0 (width town)

arc_long : (town : Town) (arc : ℕ) (coef rhs : ℤ) → IsAsLong town (arc_line town arc coef rhs)
unfolding arc_line
arc_long town arc coef rhs = length-map-range_with_len (λ a. cond (a == arc) coef (pos 0)) 0 (width town)

-- what holds of the two lines of each legal arc holds of the lines of the bounds
all_pairs : (P : Line → Type 0) (f g : ℕ → Line) (xs : List ℕ) → ((arc : ℕ) → Contains xs arc → P (f arc) × P (g arc)) → All P (flat_map (λ arc. f arc ∷ g arc ∷ []) xs)
all_pairs P f g [] each = All-nil P
all_pairs P f g (x ∷ xs) each =
    let first = each x (inside_head x xs) in
    All-cons P (f x) (g x ∷ flat_map (λ arc. f arc ∷ g arc ∷ []) xs) first.0
    (All-cons P (g x) (flat_map (λ arc. f arc ∷ g arc ∷ []) xs) first.1 (all_pairs P f g xs (for_tail (λ arc. P (f arc) × P (g arc)) x xs each)))

pub all_bound_lines : (P : Line → Type 0) (town : Town) (lo hi : ℕ → ℕ) → ((arc : ℕ) → is_legal town arc ≡ true → P (lo_line town lo arc) × P (hi_line town hi arc)) → All P (bound_lines town lo hi)
unfolding bound_lines
all_bound_lines P town lo hi each = all_pairs P (lo_line town lo) (hi_line town hi) (legal_arcs town) (λ arc inside. each arc (passes_of_inside (is_legal town) (arcs town) arc inside))

-- and each of the two is one of them
pairs_inside : (f g : ℕ → Line) (xs : List ℕ) (arc : ℕ) → Contains xs arc → Contains (flat_map (λ a. f a ∷ g a ∷ []) xs) (f arc) × Contains (flat_map (λ a. f a ∷ g a ∷ []) xs) (g arc)
pairs_inside f g [] arc inside = absurd (omega (arith, inside.1))
pairs_inside f g (x ∷ xs) arc (zero, below, is) =
    let rest = flat_map (λ a. f a ∷ g a ∷ []) xs in (
      subst (λ a. Contains (f x ∷ g x ∷ rest) (f a)) is (inside_head (f x) (g x ∷ rest)),
      subst (λ a. Contains (f x ∷ g x ∷ rest) (g a)) is (inside_tail (f x) (g x ∷ rest) (g x) (inside_head (g x) rest)),
    )
pairs_inside f g (x ∷ xs) arc (suc k, below, is) =
    let rest = flat_map (λ a. f a ∷ g a ∷ []) xs in
    let there = pairs_inside f g xs arc (k, omega arith, is) in (
      inside_tail (f x) (g x ∷ rest) (f arc) (inside_tail (g x) rest (f arc) there.0),
      inside_tail (f x) (g x ∷ rest) (g arc) (inside_tail (g x) rest (g arc) there.1),
    )

pub bounds_inside : (town : Town) (lo hi : ℕ → ℕ) (arc : ℕ) → is_legal town arc ≡ true → Contains (bound_lines town lo hi) (lo_line town lo arc) × Contains (bound_lines town lo hi) (hi_line town hi arc)
unfolding bound_lines
bounds_inside town lo hi arc legal = pairs_inside (lo_line town lo) (hi_line town hi) (legal_arcs town) arc (inside_legal town arc legal)

pub length-row_lines : (town : Town) (rows : List SparseRow) (chosen : List ℕ) → length (row_lines town rows chosen) ≡ length chosen
unfolding row_lines
length-row_lines town rows chosen = length-map chosen (λ i. row_line town (sparse_at rows i))

pub row_line_at : (town : Town) (rows : List SparseRow) (chosen : List ℕ) (i : ℕ) → i < length chosen → line_at (row_lines town rows chosen) i ≡ row_line town (sparse_at rows (get_or chosen i 0))
unfolding row_lines
row_line_at town rows chosen i h = get_or-map (λ i. row_line town (sparse_at rows i)) chosen i 0 no_line h

module _ (town : Town) (rows : List SparseRow) (chosen : List ℕ) (lo hi : ℕ → ℕ) where
  all_rows_long : (xs : List ℕ) → All (IsAsLong town) (map (λ i. row_line town (sparse_at rows i)) xs)
  all_rows_long xs = All-map (IsAsLong town) (λ i. row_line town (sparse_at rows i)) xs (λ i d below. row_long town (sparse_at rows (get_or xs i d)))

  rows_long : All (IsAsLong town) (row_lines town rows chosen)
  unfolding row_lines
  rows_long = all_rows_long chosen

  pub lines_long : All (λ line. length line.coefs ≡ width town) (lines_of town rows chosen lo hi)
  lines_long =
      All-append (IsAsLong town) (row_lines town rows chosen) (bound_lines town lo hi) rows_long
      (all_bound_lines (IsAsLong town) town lo hi (λ arc legal. (arc_long town arc (pos 1) (pos (lo arc)), arc_long town arc (negsuc 0) (neg_ℤ (pos (hi arc))))))

  pub length-lines_of : length (lines_of town rows chosen lo hi) ≡ length chosen + length (bound_lines town lo hi)
  length-lines_of = length-append (row_lines town rows chosen) (bound_lines town lo hi) ∙ ap (λ (n : ℕ). n + length (bound_lines town lo hi)) (length-row_lines town rows chosen)

  -- the first lines are those of the chosen rows, the others those of the bounds
  pub line_at-row : (i : ℕ) → i < length chosen → line_at (lines_of town rows chosen lo hi) i ≡ row_line town (sparse_at rows (get_or chosen i 0))
  line_at-row i h =
      get_or_append_left (row_lines town rows chosen) (bound_lines town lo hi) no_line i (rw (length-row_lines town rows chosen) h) ∙ row_line_at town rows chosen i h

  pub line_at-bound : (i : ℕ) → line_at (lines_of town rows chosen lo hi) (length chosen + i) ≡ line_at (bound_lines town lo hi) i
  line_at-bound i =
      ap (λ (n : ℕ). line_at (lines_of town rows chosen lo hi) (n + i)) (sym (length-row_lines town rows chosen))
      ∙ get_or-append-add (row_lines town rows chosen) (bound_lines town lo hi) i no_line

  -- what holds of every line holds of the two of a legal arc
  pub at_bounds : (P : Line → Type 0) → All P (lines_of town rows chosen lo hi) → (arc : ℕ) → is_legal town arc ≡ true → P (lo_line town lo arc) × P (hi_line town hi arc)
  at_bounds P all arc legal =
      let inside = bounds_inside town lo hi arc legal in
      let first = row_lines town rows chosen in
      let bounds = bound_lines town lo hi in (
        All-contains P (first ++ bounds) (lo_line town lo arc) all (Contains-append_right first bounds (lo_line town lo arc) inside.0),
        All-contains P (first ++ bounds) (hi_line town hi arc) all (Contains-append_right first bounds (hi_line town hi arc) inside.1),
      )
