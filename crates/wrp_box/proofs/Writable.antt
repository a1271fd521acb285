-- Records of multipliers in their ranges, and of points, may be written.
use Rattle.std.proofs.Common.{◌≡◌, ℕ, ◌*◌, ◌-◌, ◌^◌, ◌<◌, ◌≤◌, ◌==◌, Bool, true, false, not, cond, ◌&&◌, nat_le, nat_lt, pos, unsigned_abs, List, [], ◌∷◌, ◌++◌, map, length, inl, inr, arith, refl, ap, ◌∙◌}
use Rattle.std.specs.Prelude.{codes}
use Rattle.std.specs.Fmt.{decimal}
use Rattle.std.specs.List.{filter, flat_map, list_all, range_with_len}
use Rattle.std.proofs.lemmas.Bool.{and_from, and_parts, lt-ltb, le-leb, leb-true, eqb-false, cases_lt}
use Rattle.std.proofs.lemmas.List.{length-append, length-map, get_or_past}
use Rattle.std.proofs.lemmas.List.FromFn.{length-range_with_len}
use Rattle.std.proofs.lemmas.List.Sums.{length-filter, count_by-le-length}
use Rattle.wrp_sums.proofs.Integers.{casts}
use Rattle.wrp_town.specs.declared.town.Town.{Town}
use Rattle.wrp_town.proofs.TownLaws.{few_streets}
use Rattle.wrp_rules.specs.declared.record.Record.TheVariants as records
use Rattle.wrp_rules.specs.Lines.{pair_text}
use Rattle.wrp_rules.specs.Ranges.{is_ascending, is_from_one, are_pairs, most_multipliers}
use Rattle.wrp_writer.specs.Limits.{is_writable}
use Rattle.wrp_writer.proofs.Counts.{few-digits}
use Rattle.wrp_webs.proofs.MinOdd.{passing_ascends}
use Rattle.wrp_rows.specs.declared.point.Point.{Point}
use Rattle.wrp_rows.specs.Points.{IsPoint}
use Rattle.wrp_bound.specs.declared.mult.Mult.{Mult}
use Rattle.wrp_bound.specs.Mults.{most_denominator, most_multiplier, IsInRanges}
use Rattle.wrp_odd.specs.Points.{HasNumbers, denominator_of, numbers_of, most_number}
use Rattle.wrp_box.specs.Points.{pairs_of}

pair_short : (first second : ℕ) → first < 2 ^ 128 → second < 2 ^ 128 → length (pair_text (first, second)) ≤ 79
pair_short first second small low =
    omega (
      arith,
      length-append (decimal first ++ codes ":") (decimal second),
      length-append (decimal first) (codes ":"),
      few-digits first small,
      few-digits second low,
    )

-- the parts of pairs, a space before each
abbrev spaced : List (ℕ × ℕ) → List ℕ
spaced pairs = flat_map (λ part. codes " " ++ part) (map pair_text pairs)

pairs_short : (most : ℕ) (pairs : List (ℕ × ℕ)) → most < 2 ^ 128 → is_ascending (2 ^ 32 - 1) (map (λ q. q.0) pairs) ≡ true → list_all (λ q. is_from_one most q.1) pairs ≡ true → length (spaced pairs) ≤ length pairs * 80
pairs_short most [] fits ascending ranged = omega arith
pairs_short most ((first, second) ∷ pairs) fits ascending ranged =
    let both = and_parts (nat_le first (2 ^ 32 - 1) && list_all (nat_lt first) (map (λ q. q.0) pairs)) (is_ascending (2 ^ 32 - 1) (map (λ q. q.0) pairs)) ascending in
    let low = and_parts (nat_le first (2 ^ 32 - 1)) (list_all (nat_lt first) (map (λ q. q.0) pairs)) both.0 in
    let range = and_parts (is_from_one most second) (list_all (λ (q : ℕ × ℕ). is_from_one most q.1) pairs) ranged in
    let small = (and_parts (nat_le 1 second) (nat_le second most) range.0).1 in
    omega (
      arith,
      length-append (codes " " ++ pair_text (first, second)) (spaced pairs),
      length-append (codes " ") (pair_text (first, second)),
      pair_short first second (omega (arith, leb-true first (2 ^ 32 - 1) low.0)) (omega (arith, fits, leb-true second most small)),
      pairs_short most pairs fits both.1 range.1,
    )

module _ (node : ℕ) (small : node < 2 ^ 63) (m : Mult) (ranges : IsInRanges m) where
  few : (are_pairs most_multiplier m.mult ≡ true) × (nat_le (length m.mult) most_multipliers ≡ true)
  few = and_parts (are_pairs most_multiplier m.mult) (nat_le (length m.mult) most_multipliers) ranges.mult

  within : length (spaced m.mult) ≤ 4096 * 80
  within =
      let pairs = and_parts (is_ascending (2 ^ 32 - 1) (map (λ q. q.0) m.mult)) (list_all (λ (q : ℕ × ℕ). is_from_one most_multiplier q.1) m.mult) few.0 in
      omega (arith, pairs_short most_multiplier m.mult (omega arith) pairs.0 pairs.1, leb-true (length m.mult) most_multipliers few.1)

  pub empty_written : is_writable (records.Empty node m.mult) ≡ true
  empty_written =
      and_from _ _
      (and_from _ _ (and_from _ _ (lt-ltb node (2 ^ 63) small) refl) ranges.mult)
      (le-leb _ (2 ^ 28) (omega (
        arith,
        length-append (codes " " ++ decimal node) (spaced m.mult),
        length-append (codes " ") (decimal node),
        few-digits node (omega (arith, small)),
        within,
      )))

  pub bound_written : is_writable (records.Bound node m.den m.mult) ≡ true
  bound_written =
      let den = and_parts (nat_le 1 m.den) (nat_le m.den most_denominator) ranges.den in
      and_from _ _
      (and_from _ _ (and_from _ _ (lt-ltb node (2 ^ 63) small) (and_from _ _ ranges.den refl)) ranges.mult)
      (le-leb _ (2 ^ 28) (omega (
        arith,
        length-append (codes " " ++ decimal node) ((codes " " ++ decimal m.den) ++ spaced m.mult),
        length-append (codes " ") (decimal node),
        length-append (codes " " ++ decimal m.den) (spaced m.mult),
        length-append (codes " ") (decimal m.den),
        few-digits node (omega (arith, small)),
        few-digits m.den (omega (arith, leb-true m.den most_denominator den.1)),
        within,
      )))

-- ---- the record of a point

abbrev is_some : ℕ × ℕ → Bool
is_some q = not (q.1 == 0)

module _ (x : ℕ → ℕ) where
  abbrev pair : ℕ → ℕ × ℕ
  pair arc = (arc, x arc)

  abbrev kept : List ℕ → List (ℕ × ℕ)
  kept arcs = filter is_some (map pair arcs)

  first_kept : (arc : ℕ) (pairs : List (ℕ × ℕ)) (arcs : List ℕ) (t : Bool) → map (λ q. q.0) pairs ≡ arcs → map (λ q. q.0) (cond t (pair arc ∷ pairs) pairs) ≡ cond t (arc ∷ arcs) arcs
  first_kept arc pairs arcs true same = ap (λ (ns : List ℕ). arc ∷ ns) same
  first_kept arc pairs arcs false same = same

  -- the arcs of the pairs are those whose number isn't 0
  arcs_kept : (arcs : List ℕ) → map (λ q. q.0) (kept arcs) ≡ filter (λ arc. not (x arc == 0)) arcs
  arcs_kept [] = refl
  arcs_kept (arc ∷ arcs) = first_kept arc (kept arcs) (filter (λ a. not (x a == 0)) arcs) (not (x arc == 0)) (arcs_kept arcs)

  module _ (low : (arc : ℕ) → x arc ≤ most_number) where
    first_ranged : (arc : ℕ) (pairs : List (ℕ × ℕ)) (t : Bool) → (x arc == 0) ≡ t → list_all (λ q. is_from_one most_number q.1) pairs ≡ true → list_all (λ q. is_from_one most_number q.1) (cond (not t) (pair arc ∷ pairs) pairs) ≡ true
    first_ranged arc pairs true none others = others
    first_ranged arc pairs false some others =
        and_from (is_from_one most_number (x arc)) (list_all (λ q. is_from_one most_number q.1) pairs)
        (and_from (nat_le 1 (x arc)) (nat_le (x arc) most_number) (le-leb 1 (x arc) (omega (arith, eqb-false (x arc) 0 some))) (le-leb (x arc) most_number (low arc))) others

    all_ranged : (arcs : List ℕ) → list_all (λ q. is_from_one most_number q.1) (kept arcs) ≡ true
    all_ranged [] = refl
    all_ranged (arc ∷ arcs) = first_ranged arc (kept arcs) (x arc == 0) refl (all_ranged arcs)

module _ (town : Town) (point : Point) (is : IsPoint town point) (numbers : HasNumbers point) where
  abbrev x_of : ℕ → ℕ
  x_of = numbers_of point

  low_number : (arc : ℕ) → x_of arc ≤ most_number
  low_number arc = elim (cases_lt arc (length point.at)) [
    | inl inside ↦
        let both = numbers arc (pos 0) inside in
        omega (arith, casts, both.0, both.1)
    | inr past ↦ omega (arith, ap unsigned_abs (get_or_past point.at arc (pos 0) past))
  ]

  few_arcs : length point.at ≤ 8000
  few_arcs = omega (arith, is.long, few_streets town)

  few_pairs : length (pairs_of point) ≤ 8000
  few_pairs =
      omega (
        arith,
        length-filter is_some (map (pair x_of) (range_with_len 0 (length point.at))),
        count_by-le-length is_some (map (pair x_of) (range_with_len 0 (length point.at))),
        length-map (range_with_len 0 (length point.at)) (pair x_of),
        length-range_with_len 0 (length point.at),
        few_arcs,
      )

  pairs_ascend : is_ascending (2 ^ 32 - 1) (map (λ q. q.0) (pairs_of point)) ≡ true
  pairs_ascend =
      ap (is_ascending (2 ^ 32 - 1)) (arcs_kept x_of (range_with_len 0 (length point.at)))
      ∙ passing_ascends (λ arc. not (x_of arc == 0)) 0 (length point.at) (2 ^ 32 - 1) (omega (arith, few_arcs))

  pairs_ranged : list_all (λ q. is_from_one most_number q.1) (pairs_of point) ≡ true
  pairs_ranged = all_ranged x_of low_number (range_with_len 0 (length point.at))

  -- the record of a point may be written
  pub point_written : (node : ℕ) → node < 2 ^ 63 → is_writable (records.Point node (denominator_of point) (pairs_of point)) ≡ true
  point_written node small =
      let den = denominator_of point in
      let low : den ≤ 2 ^ 60 = omega (arith, casts, is.positive, is.low) in
      let positive : 1 ≤ den = omega (arith, casts, is.positive) in
      and_from _ _
      (and_from _ _ (and_from _ _ (lt-ltb node (2 ^ 63) small) (and_from _ _ (and_from _ _ (le-leb 1 den positive) (le-leb den (2 ^ 60) low)) refl)) (and_from _ _ pairs_ascend pairs_ranged))
      (le-leb _ (2 ^ 28) (omega (
        arith,
        length-append (codes " " ++ decimal node) ((codes " " ++ decimal den) ++ spaced (pairs_of point)),
        length-append (codes " ") (decimal node),
        length-append (codes " " ++ decimal den) (spaced (pairs_of point)),
        length-append (codes " ") (decimal den),
        few-digits node (omega (arith, small)),
        few-digits den (omega (arith, low)),
        pairs_short most_number (pairs_of point) (omega arith) pairs_ascend pairs_ranged,
        few_pairs,
      )))
