-- The rows of the Round form, as they are listed street after street.
use Rattle.std.proofs.Common.{◌≡◌, ℕ, ◌+◌, ◌-◌, ◌*◌, ◌<◌, ◌≤◌, Bool, true, false, cond, ◌&&◌, ◌||◌, not, List, [], ◌∷◌, ◌++◌, map, filter, drop, length, get_or, ap, refl, sym, ◌∙◌, arith, append_assoc}
use Rattle.std.specs.List.{enumerate_from, range_with_len}
use Rattle.wrp_town.specs.declared.street.Need.{Need}
use Rattle.wrp_town.specs.declared.street.Need.TheVariants.{No, Either, Forward, Backward, Both}
use Rattle.wrp_town.specs.declared.street.Street.{Street}
use Rattle.wrp_town.specs.declared.town.Town.{Town}
use Rattle.wrp_town.specs.Arcs.{tail_of, head_of}
use Rattle.wrp_town.specs.Streets.{demands_at, demands_from}
use Rattle.wrp_town.proofs.Lists.{range_with_len-more}
use Rattle.wrp_town.proofs.DemandLaws.{demands_from-drop_read}
use Rattle.wrp_laws.proofs.Crossings.{over_both_ways}
use Rattle.wrp_rules.specs.Sets.{is_in, crosses, arc_at}
use Rattle.wrp_rows.specs.Marks.{is_marked, AreMarks}
use Rattle.wrp_round.specs.OddForms.{crossing_rows}

-- the marks tell what crosses
pub crosses_by_marks : (town : Town) (set : List ℕ) (marks : List Bool) (arc : ℕ) → AreMarks set marks
    → ((is_marked marks (tail_of town arc) && not (is_marked marks (head_of town arc))) || (not (is_marked marks (tail_of town arc)) && is_marked marks (head_of town arc))) ≡ crosses town set arc
crosses_by_marks town set marks arc are = rw (are (tail_of town arc), are (head_of town arc)) refl

module _ (town : Town) (set : List ℕ) where
  -- the demand goes first, where its street crosses
  one_row : (first : ℕ) (d : List ℕ) (ds : List (List ℕ)) (t : Bool) → crosses town set (arc_at d) ≡ t → crossing_rows town set first (d ∷ ds) ≡ cond t (first ∷ []) [] ++ crossing_rows town set (first + 1) ds
  one_row first d ds true e = ap (λ (b : Bool). map (λ (p : ℕ × List ℕ). p.0) (cond b ((first, d) ∷ filter (λ p. crosses town set (arc_at p.1)) (enumerate_from (first + 1) ds)) (filter (λ p. crosses town set (arc_at p.1)) (enumerate_from (first + 1) ds)))) e
  one_row first d ds false e = ap (λ (b : Bool). map (λ (p : ℕ × List ℕ). p.0) (cond b ((first, d) ∷ filter (λ p. crosses town set (arc_at p.1)) (enumerate_from (first + 1) ds)) (filter (λ p. crosses town set (arc_at p.1)) (enumerate_from (first + 1) ds)))) e

  start : (first : ℕ) (ds : List (List ℕ)) → crossing_rows town set first ds ≡ crossing_rows town set (first + 0) ds
  start first ds = let e : first ≡ first + 0 = omega arith in ap (λ (n : ℕ). crossing_rows town set n ds) e

  -- the demands of one street
  street_rows : (t : Bool) (i : ℕ) (need : Need) (first : ℕ) (ds : List (List ℕ)) → crosses town set (2 * i) ≡ t
      → crossing_rows town set first (demands_at i need ++ ds) ≡ cond t (range_with_len first (length (demands_at i need))) [] ++ crossing_rows town set (first + length (demands_at i need)) ds
  street_rows true i No first ds e = start first ds
  street_rows false i No first ds e = start first ds
  street_rows true i Either first ds e = one_row first (2 * i ∷ (2 * i + 1) ∷ []) ds true e
  street_rows false i Either first ds e = one_row first (2 * i ∷ (2 * i + 1) ∷ []) ds false e
  street_rows true i Forward first ds e = one_row first (2 * i ∷ []) ds true e
  street_rows false i Forward first ds e = one_row first (2 * i ∷ []) ds false e
  street_rows true i Backward first ds e = one_row first ((2 * i + 1) ∷ []) ds true (sym (over_both_ways town (is_in set) i) ∙ e)
  street_rows false i Backward first ds e = one_row first ((2 * i + 1) ∷ []) ds false (sym (over_both_ways town (is_in set) i) ∙ e)
  street_rows true i Both first ds e =
      let next : first + 1 + 1 ≡ first + 2 = omega arith in
      one_row first (2 * i ∷ []) (((2 * i + 1) ∷ []) ∷ ds) true e
      ∙ ap (λ (xs : List ℕ). first ∷ xs) (one_row (first + 1) ((2 * i + 1) ∷ []) ds true (sym (over_both_ways town (is_in set) i) ∙ e)
      ∙ ap (λ (n : ℕ). (first + 1) ∷ crossing_rows town set n ds) next)
  street_rows false i Both first ds e =
      let next : first + 1 + 1 ≡ first + 2 = omega arith in
      one_row first (2 * i ∷ []) (((2 * i + 1) ∷ []) ∷ ds) false e
      ∙ one_row (first + 1) ((2 * i + 1) ∷ []) ds false (sym (over_both_ways town (is_in set) i) ∙ e)
      ∙ ap (λ (n : ℕ). crossing_rows town set n ds) next

  -- the step of a loop over the streets
  pub streets_more : (items : List Street) (i first : ℕ) (street : Street) (t : Bool) (rows grown whole : List ℕ) → items ≡ town.streets → i < length items → street ≡ get_or items i street
      → crosses town set (2 * i) ≡ t → grown ≡ rows ++ cond t (range_with_len first (length (demands_at i street.need))) []
      → rows ++ crossing_rows town set first (demands_from i (drop i town.streets)) ≡ whole
      → grown ++ crossing_rows town set (first + length (demands_at i street.need)) (demands_from (i + 1) (drop (i + 1) town.streets)) ≡ whole
  streets_more items i first street t rows grown whole same below is e more so_far =
      ap (λ (xs : List ℕ). xs ++ crossing_rows town set (first + length (demands_at i street.need)) (demands_from (i + 1) (drop (i + 1) town.streets))) more
      ∙ append_assoc rows (cond t (range_with_len first (length (demands_at i street.need))) []) (crossing_rows town set (first + length (demands_at i street.need)) (demands_from (i + 1) (drop (i + 1) town.streets)))
      ∙ ap (λ (xs : List ℕ). rows ++ xs) (sym (street_rows t i street.need first (demands_from (i + 1) (drop (i + 1) town.streets)) e))
      ∙ ap (λ (ds : List (List ℕ)). rows ++ crossing_rows town set first ds) (sym (demands_from-drop_read town.streets items i street same below is))
      ∙ so_far

  pub streets_counted : (items : List Street) (i first count : ℕ) (street : Street) (t : Bool) (rows grown whole : List ℕ) → items ≡ town.streets → i < length items → street ≡ get_or items i street
      → count ≡ length (demands_at i street.need) → crosses town set (2 * i) ≡ t → grown ≡ rows ++ cond t (range_with_len first count) []
      → rows ++ crossing_rows town set first (demands_from i (drop i town.streets)) ≡ whole
      → grown ++ crossing_rows town set (first + count) (demands_from (i + 1) (drop (i + 1) town.streets)) ≡ whole
  streets_counted items i first count street t rows grown whole same below is counted e more so_far =
      ap (λ (n : ℕ). grown ++ crossing_rows town set (first + n) (demands_from (i + 1) (drop (i + 1) town.streets))) counted
      ∙ streets_more items i first street t rows grown whole same below is e (more ∙ ap (λ (n : ℕ). rows ++ cond t (range_with_len first n) []) counted) so_far

-- one number more
pub numbers_more : (old rows new : List ℕ) (first number : ℕ) → first ≤ number → rows ≡ old ++ range_with_len first (number - first) → new ≡ rows ++ number ∷ [] → new ≡ old ++ range_with_len first (number + 1 - first)
numbers_more old rows new first number low so_far more =
    let next : number - first + 1 ≡ number + 1 - first = omega arith in
    more
    ∙ ap (λ (xs : List ℕ). xs ++ number ∷ []) so_far
    ∙ append_assoc old (range_with_len first (number - first)) (number ∷ [])
    ∙ ap (λ (xs : List ℕ). old ++ xs) (sym (range_with_len-more first (number - first) number (omega arith)))
    ∙ ap (λ (n : ℕ). old ++ range_with_len first n) next
