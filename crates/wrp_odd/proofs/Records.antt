-- Odd records: that they may be written, and that they keep their rules.
use Rattle.std.proofs.Common.{◌≡◌, ℕ, suc, ◌+◌, ◌-◌, ◌*◌, ◌^◌, ◌%◌, ◌<◌, ◌≤◌, Bool, true, false, not, ◌==◌, ◌&&◌, nat_lt, nat_le, List, [], ◌∷◌, ◌++◌, length, map, Option, None, Some, refl, arith, length-append}
use Rattle.std.specs.Prelude.{codes, if◌then◌else◌}
use Rattle.std.specs.Fmt.{decimal}
use Rattle.std.specs.List.{flat_map, list_all}
use Rattle.std.proofs.lemmas.Bool.{and_from, and_parts, ltb-true, le-leb, leb-true, false≢true}
use Rattle.wrp_town.specs.declared.town.Town.{Town}
use Rattle.wrp_town.proofs.TownLaws.{few_junctions}
use Rattle.wrp_rules.specs.declared.record.Record.TheVariants.{Odd}
use Rattle.wrp_rules.specs.declared.rule.Rule.{Rule}
use Rattle.wrp_rules.specs.declared.rule.Rule.TheVariants as rules
use Rattle.wrp_rules.specs.Nodes.{Standing}
use Rattle.wrp_rules.specs.Rules.{all_below}
use Rattle.wrp_rules.specs.Ranges.{is_ascending, is_set}
use Rattle.wrp_rules.specs.Sets.{crossing_demands}
use Rattle.wrp_rules.specs.Lines.{line_of}
use Rattle.wrp_writer.specs.Limits.{is_writable}
use Rattle.wrp_writer.proofs.Counts.{few-digits}
use Rattle.wrp_rows.specs.declared.point.Point.{Point}
use Rattle.wrp_webs.specs.TownWebs.{IsBrokenOdd}
use Rattle.wrp_odd.specs.Points.{denominator_of, numbers_of}
use Rattle.wrp_odd.specs.Cuts.{IsValidCut}
use Rattle.wrp_odd.specs.Found.{IsBrokenOddCut}

-- numbers that ascend from low on, below n, are at most so many
ascending_short : (most n low : ℕ) (xs : List ℕ) → low ≤ n → is_ascending most xs ≡ true → all_below n xs ≡ true → list_all (λ x. nat_le low x) xs ≡ true → length xs + low ≤ n
ascending_short most n low [] fits ascends below above = omega arith
ascending_short most n low (x ∷ xs) fits ascends below above =
    let two = and_parts (nat_le x most && list_all (nat_lt x) xs) (is_ascending most xs) ascends in
    let here = and_parts (nat_lt x n) (all_below n xs) below in
    let under = ltb-true x n here.0 in
    let from = leb-true low x (and_parts (nat_le low x) (list_all (λ y. nat_le low y) xs) above).0 in
    omega (arith, ascending_short most n (suc x) xs (omega arith) two.1 here.1 (and_parts (nat_le x most) (list_all (nat_lt x) xs) two.0).1)

from_zero : (xs : List ℕ) → list_all (λ x. nat_le 0 x) xs ≡ true
from_zero [] = refl
from_zero (x ∷ xs) = and_from (nat_le 0 x) (list_all (λ y. nat_le 0 y) xs) (le-leb 0 x (omega arith)) (from_zero xs)

-- a set of junctions has at most all of them
pub set_short : (n : ℕ) (set : List ℕ) → is_set set ≡ true → all_below n set ≡ true → length set ≤ n
set_short n set is below = omega (arith, ascending_short (2 ^ 32 - 1) n 0 set (omega arith) is below (from_zero set))

-- the parts of a set, each with a space before it
parts_short : (n : ℕ) (xs : List ℕ) → n < 2 ^ 128 → all_below n xs ≡ true → length (flat_map (λ part. codes " " ++ part) (map decimal xs)) ≤ 40 * length xs
parts_short n [] few below = omega arith
parts_short n (x ∷ xs) few below =
    let two = and_parts (nat_lt x n) (all_below n xs) below in
    omega (
      arith,
      length-append (codes " " ++ decimal x) (flat_map (λ part. codes " " ++ part) (map decimal xs)),
      length-append (codes " ") (decimal x),
      few-digits x (omega (arith, ltb-true x n two.0)),
      parts_short n xs few two.1,
    )

pub odd_writable : (town : Town) (set : List ℕ) → is_set set ≡ true → all_below (length town.junctions) set ≡ true → is_writable (Odd set) ≡ true
odd_writable town set is below =
    and_from (true && is_set set) (nat_le (length (line_of (Odd set))) (2 ^ 28)) is
    (le-leb (length (line_of (Odd set))) (2 ^ 28) (omega (arith, few_junctions town, set_short (length town.junctions) set is below, parts_short (length town.junctions) set (omega (arith, few_junctions town)) below)))

both_kept : (a b : Bool) → a ≡ true → b ≡ true → ◌≡◌ {A = Option Rule} (if a then (if b then None else Some rules.Even) else Some rules.Range) None
both_kept true true p q = refl
both_kept true false p q = absurd (false≢true q)
both_kept false b p q = absurd (false≢true p)

pub odd_valid : (town : Town) (s : Standing) (set : List ℕ) → is_set set ≡ true → all_below (length town.junctions) set ≡ true → not (crossing_demands town set % 2 == 0) ≡ true → IsValidCut town s (Odd set)
odd_valid town s set is below odd = record {
  writable = odd_writable town set is below;
  kept = both_kept (all_below (length town.junctions) set) (not (crossing_demands town set % 2 == 0)) below odd;
}

pub odd_cut : (town : Town) (point : Point) (set : List ℕ) → IsBrokenOdd town (denominator_of point) (numbers_of point) set → IsBrokenOddCut town point (Odd set)
odd_cut town point set broken = record { set = set; odd = refl; valid = λ s. odd_valid town s set broken.is_set broken.below broken.odd; broken = broken.broken }
