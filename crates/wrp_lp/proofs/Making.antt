-- Steps of the loops that build the lines of a relaxation.
use Rattle.std.proofs.Common.{◌≡◌, ◌≢◌, ℕ, ◌+◌, ◌<◌, ◌≤◌, ◌^◌, ◌==◌, Bool, true, false, cond, unsigned_abs, ℤ, pos, List, [], ◌∷◌, ◌++◌, map, set, filter, length, get_or, take, replicate, All, ap, refl, sym, ◌∙◌, arith, inl, inr, eq-eqb}
use Rattle.std.specs.List.{range_with_len, flat_map}
use Rattle.std.proofs.lemmas.Bool.{ne_eqb, cases_eq}
use Rattle.std.proofs.lemmas.List.{same_lists, length-set, length-take, get_or-take, get_or-set_same, get_or-set_other, get_or-replicate, length-replicate, get_or_default}
use Rattle.std.proofs.lemmas.List.FromFn.{length-map-range_with_len, get_or-map-range_with_len}
use Rattle.std.proofs.lemmas.List.Elements.{All-map}
use Rattle.wrp_sums.specs.Sums.{coef_at}
use Rattle.wrp_sums.proofs.Integers.{linear}
use Rattle.wrp_sums.proofs.SparseRows.{coef_at_more, size_of_coef_at}
use Rattle.wrp_town.specs.declared.town.Town.{Town}
use Rattle.wrp_town.specs.Arcs.{arcs, is_legal, cost_or_zero}
use Rattle.wrp_town.proofs.TownLaws.{cost_or_zero-at_most}
use Rattle.wrp_rules.specs.Rows.{most_coefficient}
use Rattle.wrp_rows.specs.Pools.{SparseRow, sparse_at}
use Rattle.wrp_rows.proofs.Searched.{coef_missed}
use Rattle.wrp_rows.specs.Sizes.{most_right_side, AreSmallTerms}
use Rattle.wrp_tableau.specs.declared.line.Line.{Line}
use Rattle.wrp_tableau.specs.Starts.{IsLine}
use Rattle.wrp_lp.specs.Relaxed.{width, arc_coef, row_line, arc_line, lo_line, hi_line, bound_lines, row_lines, costs_of}
use Rattle.wrp_lp.specs.Building.{coefs_of, lines_at}

-- ---- lists that a function makes of the first numbers

abbrev made : (ℕ → ℤ) → ℕ → List ℤ
made f n = map f (range_with_len 0 n)

made_same : (f g : ℕ → ℤ) (n : ℕ) → ((a : ℕ) → f a ≡ g a) → made f n ≡ made g n
made_same f g n same = same_lists (made f n) (made g n) (length-map-range_with_len f 0 n ∙ sym (length-map-range_with_len g 0 n))
    (λ k d h.
    let below : k < n = rw (length-map-range_with_len f 0 n) at h in
    get_or-map-range_with_len f 0 n k k d below (omega arith) ∙ same k ∙ sym (get_or-map-range_with_len g 0 n k k d below (omega arith)))

-- one item written
made_set : (f g : ℕ → ℤ) (n i : ℕ) (v : ℤ) → i < n → v ≡ g i → ((a : ℕ) → a ≢ i → f a ≡ g a) → set (made f n) i v ≡ made g n
made_set f g n i v below here others =
    let old = made f n in
    let long : length old ≡ n = length-map-range_with_len f 0 n in
    same_lists (set old i v) (made g n) (length-set old i v ∙ long ∙ sym (length-map-range_with_len g 0 n))
    (λ k d h.
    let inside : k < n = let e = length-set old i v in omega arith in
    let new : get_or (made g n) k d ≡ g k = get_or-map-range_with_len g 0 n k k d inside (omega arith) in
    elim (cases_eq k i) [
      | inl same ↦ ap (λ (j : ℕ). get_or (set old i v) j d) same ∙ get_or-set_same old i v d (omega arith) ∙ here ∙ ap g (sym same) ∙ sym new
      | inr differs ↦ get_or-set_other old i k v d differs ∙ get_or-map-range_with_len f 0 n k k d inside (omega arith) ∙ others k differs ∙ sym new
    ])

zeros_made : (n : ℕ) → replicate n (pos 0) ≡ made (λ a. pos 0) n
zeros_made n = same_lists (replicate n (pos 0)) (made (λ a. pos 0) n) (length-replicate n (pos 0) ∙ sym (length-map-range_with_len (λ a. pos 0) 0 n))
    (λ k d h.
    let below : k < n = rw (length-replicate n (pos 0)) at h in
    get_or-replicate n k (pos 0) d below ∙ sym (get_or-map-range_with_len (λ a. pos 0) 0 n k k d below (omega arith)))

-- ---- the line of an arc

pub arc_line_is : (town : Town) (arc : ℕ) (coef rhs : ℤ) (coefs : List ℤ) (side : ℤ) → arc < width town → coefs ≡ set (replicate (width town) (pos 0)) arc coef → side ≡ rhs → record { coefs = coefs; rhs = side } ≡ arc_line town arc coef rhs
unfolding arc_line
arc_line_is town arc coef rhs coefs side below is same =
    let all : coefs ≡ map (λ a. cond (a == arc) coef (pos 0)) (arcs town) =
    is
    ∙ ap (λ (xs : List ℤ). set xs arc coef) (zeros_made (width town))
    ∙ made_set (λ a. pos 0) (λ a. cond (a == arc) coef (pos 0)) (width town) arc coef below (ap (λ t. cond t coef (pos 0)) (sym (eq-eqb arc arc refl)))
    (λ a differs. ap (λ t. cond t coef (pos 0)) (sym (ne_eqb a arc differs))) in
    ap (λ (xs : List ℤ). record { coefs = xs; rhs = side }) all ∙ ap (λ (z : ℤ). record { coefs = map (λ a. cond (a == arc) coef (pos 0)) (arcs town); rhs = z }) same

size_of_choice : (t : Bool) (z : ℤ) (m : ℕ) → unsigned_abs z ≤ m → unsigned_abs (cond t z (pos 0)) ≤ m
size_of_choice true z m h = h
size_of_choice false z m h = omega arith

pub arc_fits : (town : Town) (arc : ℕ) (coef rhs : ℤ) → unsigned_abs coef ≤ 2 ^ 60 → unsigned_abs rhs ≤ 2 ^ 60 → IsLine (width town) (arc_line town arc coef rhs)
unfolding arc_line
arc_fits town arc coef rhs coef_small rhs_small = record {
  count = length-map-range_with_len (λ a. cond (a == arc) coef (pos 0)) 0 (width town);
  coefs_small = All-map (λ z. unsigned_abs z ≤ 2 ^ 60) (λ a. cond (a == arc) coef (pos 0)) (arcs town) (λ i d h. size_of_choice (get_or (arcs town) i d == arc) coef (2 ^ 60) coef_small);
  rhs_small = rhs_small;
}

-- ---- the line of a row

pub row_fits : (town : Town) (row : SparseRow) → AreSmallTerms (width town) row.terms → unsigned_abs row.right_side ≤ most_right_side → IsLine (width town) (row_line town row)
unfolding row_line
row_fits town row small side = record {
  count = length-map-range_with_len (arc_coef town row) 0 (width town);
  coefs_small = All-map (λ z. unsigned_abs z ≤ 2 ^ 60) (arc_coef town row) (arcs town)
      (λ i d h. size_of_choice (is_legal town (get_or (arcs town) i d)) (coef_at row.terms (get_or (arcs town) i d)) (2 ^ 60)
      (let s = size_of_coef_at row.terms most_coefficient (get_or (arcs town) i d) small.ascending small.small in omega arith));
  rhs_small = omega arith;
}

pub row_line_is : (town : Town) (row : SparseRow) (terms : List (ℕ × ℤ)) (coefs : List ℤ) (side : ℤ) → terms ≡ row.terms → coefs ≡ coefs_of town terms → side ≡ row.right_side → record { coefs = coefs; rhs = side } ≡ row_line town row
unfolding row_line
row_line_is town row terms coefs side terms_are is same =
    ap (λ (xs : List ℤ). record { coefs = xs; rhs = side }) (is ∙ ap (coefs_of town) terms_are)
    ∙ ap (λ (z : ℤ). record { coefs = coefs_of town row.terms; rhs = z }) same

module _ (town : Town) (terms : List (ℕ × ℤ)) (k : ℕ) (small : AreSmallTerms (width town) terms) (below : k < length terms) where
  abbrev d : ℕ × ℤ
  d = (0, pos 0)

  abbrev term : ℕ × ℤ
  term = get_or terms k d

  abbrev at : ℕ → ℕ → ℤ
  at n a = cond (is_legal town a) (coef_at (take n terms) a) (pos 0)

  other : (a : ℕ) → a ≢ term.0 → coef_at (take k terms) a ≡ coef_at (take (k + 1) terms) a
  other a differs =
      omega (arith, linear, coef_at_more terms a k d below, ap (λ t. cond t term.1 (pos 0)) (ne_eqb term.0 a (λ same. differs (sym same))))

  none_before : coef_at (take k terms) term.0 ≡ pos 0
  none_before = coef_missed (take k terms) term.0
      (λ i e inside same.
      let few = length-take k terms in
      let less : i < k = omega arith in
      let first : get_or (take k terms) i e ≡ get_or terms i e = get_or-take k terms i e less in
      let up : (get_or terms i e).0 < (get_or terms k e).0 = small.ascending i k e less below in
      let default : get_or terms k e ≡ term = get_or_default terms k e d below in
      absurd (omega (arith, ap (λ (q : ℕ × ℤ). q.0) first, ap (λ (q : ℕ × ℤ). q.0) default)))

  here : coef_at (take (k + 1) terms) term.0 ≡ term.1
  here = omega (arith, linear, coef_at_more terms term.0 k d below, none_before, ap (λ t. cond t term.1 (pos 0)) (eq-eqb term.0 term.0 refl))

  inside : term.0 < width town
  inside = small.within k d below

  -- the term of a legal arc is written
  pub coefs_set : is_legal town term.0 ≡ true → set (coefs_of town (take k terms)) term.0 term.1 ≡ coefs_of town (take (k + 1) terms)
  coefs_set legal = made_set (at k) (at (k + 1)) (width town) term.0 term.1 inside
      (sym here ∙ ap (λ t. cond t (coef_at (take (k + 1) terms) term.0) (pos 0)) (sym legal))
      (λ a differs. ap (λ z. cond (is_legal town a) z (pos 0)) (other a differs))

  -- that of an illegal one isn't
  pub coefs_skip : is_legal town term.0 ≡ false → coefs_of town (take k terms) ≡ coefs_of town (take (k + 1) terms)
  coefs_skip illegal = made_same (at k) (at (k + 1)) (width town)
      (λ a. elim (cases_eq a term.0) [
        | inl same ↦ ap (λ t. cond t (coef_at (take k terms) a) (pos 0)) (ap (is_legal town) same ∙ illegal)
            ∙ ap (λ t. cond t (coef_at (take (k + 1) terms) a) (pos 0)) (sym (ap (is_legal town) same ∙ illegal))
        | inr differs ↦ ap (λ z. cond (is_legal town a) z (pos 0)) (other a differs)
      ])

no_choice : (t : Bool) → pos 0 ≡ cond t (pos 0) (pos 0)
no_choice true = refl
no_choice false = refl

pub coefs_start : (town : Town) → replicate (width town) (pos 0) ≡ coefs_of town []
coefs_start town = zeros_made (width town) ∙ made_same (λ a. pos 0) (λ a. cond (is_legal town a) (pos 0) (pos 0)) (width town) (λ a. no_choice (is_legal town a))

-- ---- the lines of the bounds

chosen_pairs : (p : ℕ → Bool) (f : ℕ → List Line) (xs : List ℕ) → flat_map (λ a. cond (p a) (f a) []) xs ≡ flat_map f (filter p xs)
chosen_pairs p f [] = refl
chosen_pairs p f (x ∷ xs) = by (chosen_pairs p f xs) (p x)
  where
    by : flat_map (λ a. cond (p a) (f a) []) xs ≡ flat_map f (filter p xs) → (t : Bool) → cond t (f x) [] ++ flat_map (λ a. cond (p a) (f a) []) xs ≡ flat_map f (cond t (x ∷ filter p xs) (filter p xs))
    by rest true = ap (λ (ys : List Line). f x ++ ys) rest
    by rest false = rest

pub bound_lines_are : (town : Town) (lo hi : ℕ → ℕ) → flat_map (λ arc. lines_at town (lo arc) (hi arc) arc) (arcs town) ≡ bound_lines town lo hi
unfolding bound_lines
bound_lines_are town lo hi = chosen_pairs (is_legal town) (λ arc. lo_line town lo arc ∷ hi_line town hi arc ∷ []) (arcs town)

-- ---- the costs

pub costs_small : (town : Town) → All (λ z. unsigned_abs z ≤ 2 ^ 60) (costs_of town)
unfolding costs_of
costs_small town = All-map (λ z. unsigned_abs z ≤ 2 ^ 60) (λ arc. pos (cost_or_zero town arc)) (arcs town)
    (λ i d h. let small = cost_or_zero-at_most town (get_or (arcs town) i d) in omega arith)

pub costs_are : (town : Town) (costs : List ℤ) (n : ℕ) → n ≡ width town → costs ≡ map (λ arc. pos (cost_or_zero town arc)) (range_with_len 0 n) → costs ≡ costs_of town
unfolding costs_of
costs_are town costs n all is = is ∙ ap (λ (m : ℕ). map (λ arc. pos (cost_or_zero town arc)) (range_with_len 0 m)) all

-- ---- the lines of the rows

pub row_lines_are : (town : Town) (rows : List SparseRow) (chosen : List ℕ) (lines : List Line) → lines ≡ map (λ i. row_line town (sparse_at rows i)) chosen → lines ≡ row_lines town rows chosen
unfolding row_lines
row_lines_are town rows chosen lines is = is
