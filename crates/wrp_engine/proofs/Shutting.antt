-- Records that close a node may be written, and where the only point breaks a row, one may follow.
use Rattle.std.proofs.Common.{◌≡◌, ℕ, ◌*◌, ◌-◌, ◌^◌, ◌<◌, ◌≤◌, true, nat_lt, List, [], ◌∷◌, ◌++◌, map, length, None, refl, arith}
use Rattle.std.specs.Prelude.{codes}
use Rattle.std.specs.Fmt.{decimal}
use Rattle.std.specs.List.{All, flat_map}
use Rattle.std.proofs.lemmas.Bool.{and_from, and_parts, lt-ltb, le-leb, ltb-true}
use Rattle.std.proofs.lemmas.Fmt.{length-decimal-le}
use Rattle.std.proofs.lemmas.List.{length-append, length-map}
use Rattle.std.proofs.lemmas.List.Concat.{length-flat_map}
use Rattle.std.proofs.lemmas.List.Elements.{All-weaker, All-map, All-cons}
use Rattle.std.proofs.lemmas.List.Sums.{sum_by-le}
use Rattle.wrp_town.specs.declared.town.Town.{Town}
use Rattle.wrp_town.proofs.Lists.{list_all-at}
use Rattle.wrp_town.proofs.TownLaws.{few_junctions, few_streets}
use Rattle.wrp_rules.specs.declared.record.Record.TheVariants.{Bound, Empty, Apart}
use Rattle.wrp_rules.specs.Lines.{pair_text}
use Rattle.wrp_rules.specs.Ranges.{is_set}
use Rattle.wrp_rules.specs.Rules.{all_below, streets_are_there, junctions_are_there}
use Rattle.wrp_writer.specs.Limits.{is_writable}
use Rattle.wrp_odd.proofs.Records.{set_short}
use Rattle.wrp_progress.specs.Progress.{HasNoLabels}
use Rattle.wrp_progress.proofs.Branching.{empty_follows}
use Rattle.wrp_keep.specs.Keeps.{KeepState, broken_by}
use Rattle.wrp_box.specs.Points.{alone}
use Rattle.wrp_engine.specs.Searches.{IsOpenAt, now}
use Rattle.wrp_engine.specs.Closing.{EmptiesNode}

number_short : (n : ℕ) → n < 2 ^ 63 → length (decimal n) ≤ 19
number_short n small = length-decimal-le 19 n (omega arith) (omega (arith, small)) (omega (arith, small))

-- numbers with a space before each
numbers_short : (numbers : List ℕ) → All (λ n. n < 2 ^ 63) numbers → length (flat_map (λ part. codes " " ++ part) (map decimal numbers)) ≤ length numbers * 20
numbers_short numbers small =
    let spaced : All (λ part. length (codes " " ++ part) ≤ 20) (map decimal numbers) =
    All-map (λ part. length (codes " " ++ part) ≤ 20) decimal numbers
    (All-weaker (λ n. n < 2 ^ 63) (λ n. length (codes " " ++ decimal n) ≤ 20) (λ n low. omega (arith, length-append (codes " ") (decimal n), number_short n low)) numbers small) in
    omega (
      arith,
      length-flat_map (λ part. codes " " ++ part) (map decimal numbers),
      sum_by-le (λ part. length (codes " " ++ part)) 20 (map decimal numbers) spaced,
      length-map numbers decimal,
    )

pair_short : (first second : ℕ) → first < 2 ^ 63 → second < 2 ^ 63 → length (pair_text (first, second)) ≤ 39
pair_short first second small low =
    omega (
      arith,
      length-append (decimal first ++ codes ":") (decimal second),
      length-append (decimal first) (codes ":"),
      number_short first small,
      number_short second low,
    )

pub empty_writable : (node row : ℕ) → node < 2 ^ 63 → row < 2 ^ 32 → is_writable (Empty node (alone row)) ≡ true
empty_writable node row small narrow =
    and_from _ _
    (and_from _ _ (and_from _ _ (lt-ltb node (2 ^ 63) small) refl)
    (and_from _ _ (and_from _ _ (and_from _ _ (and_from _ _ (le-leb row (2 ^ 32 - 1) (omega (arith, narrow))) refl) refl) refl) refl))
    (le-leb _ (2 ^ 28) (omega (
      arith,
      length-append (codes " " ++ decimal node) ((codes " " ++ pair_text (row, 1)) ++ []),
      length-append (codes " ") (decimal node),
      length-append (codes " " ++ pair_text (row, 1)) [],
      length-append (codes " ") (pair_text (row, 1)),
      number_short node small,
      pair_short row 1 (omega (arith, narrow)) (omega arith),
    )))

pub empty_next : (keep : KeepState) (node row : ℕ) → node < 2 ^ 63 → EmptiesNode keep node row → HasNoLabels keep.records → IsOpenAt keep node → broken_by (Empty node (alone row)) keep ≡ None
empty_next keep node row small empties unlabelled opened =
    empty_follows keep.town keep.records unlabelled node (alone row) (empty_writable node row small empties.small) opened
    (and_from _ _ (lt-ltb row (length (now keep).rows) empties.there) refl) empties.value

pub bound_writable : (node : ℕ) → node < 2 ^ 63 → is_writable (Bound node 1 []) ≡ true
bound_writable node small =
    and_from _ _
    (and_from _ _ (and_from _ _ (lt-ltb node (2 ^ 63) small) refl) refl)
    (le-leb _ (2 ^ 28) (omega (arith, numbers_short (node ∷ 1 ∷ []) (All-cons (λ n. n < 2 ^ 63) node (1 ∷ []) small (All-cons (λ n. n < 2 ^ 63) 1 [] (omega arith) (λ k d none. absurd (omega arith)))))))

module _ (town : Town) (node r1 r2 : ℕ) (set : List ℕ) (small : node < 2 ^ 63) (streets : streets_are_there town (r1 ∷ r2 ∷ []) ≡ true) (inside : junctions_are_there town set ≡ true) (ascends : is_set set ≡ true) where
  first_small : r1 < 4000
  first_small = omega (arith, few_streets town, ltb-true r1 (length town.streets) (and_parts (nat_lt r1 (length town.streets)) (all_below (length town.streets) (r2 ∷ [])) streets).0)

  second_small : r2 < 4000
  second_small =
      omega (
        arith,
        few_streets town,
        ltb-true r2 (length town.streets) (and_parts (nat_lt r2 (length town.streets)) true (and_parts (nat_lt r1 (length town.streets)) (all_below (length town.streets) (r2 ∷ [])) streets).1).0,
      )

  all_small : All (λ n. n < 2 ^ 63) (node ∷ r1 ∷ r2 ∷ set)
  all_small =
      All-cons (λ n. n < 2 ^ 63) node (r1 ∷ r2 ∷ set) small
      (All-cons (λ n. n < 2 ^ 63) r1 (r2 ∷ set) (omega (arith, first_small))
      (All-cons (λ n. n < 2 ^ 63) r2 set (omega (arith, second_small))
      (λ k d below. omega (arith, few_junctions town, ltb-true _ (length town.junctions) (list_all-at (λ j. nat_lt j (length town.junctions)) set k d inside below)))))

  pub apart_writable : is_writable (Apart node r1 r2 set) ≡ true
  apart_writable =
      and_from _ _
      (and_from _ _ (and_from _ _ (lt-ltb node (2 ^ 63) small) (and_from _ _ (lt-ltb r1 (2 ^ 32) (omega (arith, first_small))) (and_from _ _ (lt-ltb r2 (2 ^ 32) (omega (arith, second_small))) refl))) ascends)
      (le-leb _ (2 ^ 28) (omega (arith, numbers_short (node ∷ r1 ∷ r2 ∷ set) all_small, set_short (length town.junctions) set ascends inside, few_junctions town)))
