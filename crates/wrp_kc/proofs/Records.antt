-- The records of candidates: they are valid where enough demands join the ends, and else not.
use Rattle.std.proofs.Common.{◌≡◌, ℕ, ◌*◌, ◌^◌, ◌%◌, ◌<◌, ◌≤◌, Bool, true, false, ◌&&◌, ◌==◌, nat_lt, nat_le, List, ◌∷◌, ◌++◌, length, map, Option, Some, None, ap, refl, arith, length-append}
use Rattle.std.specs.Prelude.{codes, if◌then◌else◌}
use Rattle.std.specs.Fmt.{decimal}
use Rattle.std.specs.List.{All, flat_map, list_all}
use Rattle.std.proofs.lemmas.Bool.{and_from, and_parts, leb-true, eqb-true, lt-ltb, le-leb, false≢true}
use Rattle.std.proofs.lemmas.List.Concat.{length-flat_map}
use Rattle.std.proofs.lemmas.List.Elements.{All-cons, All-weaker}
use Rattle.std.proofs.lemmas.List.Folds.{flat_map-map}
use Rattle.std.proofs.lemmas.List.Sums.{sum_by-le, AllPass-from_list_all, list_all-from_AllPass}
use Rattle.wrp_town.specs.declared.town.Town.{Town}
use Rattle.wrp_town.proofs.TownLaws.{few_junctions}
use Rattle.wrp_rules.specs.declared.record.Record.TheVariants.{Kc}
use Rattle.wrp_rules.specs.declared.rule.Rule.{Rule}
use Rattle.wrp_rules.specs.declared.rule.Rule.TheVariants as rules
use Rattle.wrp_rules.specs.Lines.{line_of}
use Rattle.wrp_rules.specs.Contents.{has_number_rules}
use Rattle.wrp_rules.specs.Nodes.{Standing, start}
use Rattle.wrp_rules.specs.Ranges.{is_index}
use Rattle.wrp_rules.specs.Rows.{inner_sets_hold, streets_keep_sets, joining_demands, is_chain}
use Rattle.wrp_rules.specs.Rules.{is_partition}
use Rattle.wrp_parts.specs.RequiredParts.{AreParts, part_at}
use Rattle.wrp_writer.specs.Limits.{is_writable}
use Rattle.wrp_writer.proofs.Counts.{few-digits}
use Rattle.wrp_odd.specs.Cuts.{IsValidCut}
use Rattle.wrp_kc.specs.Candidates.{sets_for, candidate}
use Rattle.wrp_kc.proofs.ChainSets.{sets_long, sets_low, parted, chained}

both_kept : (a b : Bool) → a ≡ true → b ≡ true → ◌≡◌ {A = Option Rule} (if a then (if b then None else Some rules.Chain) else Some rules.Range) None
both_kept true true p q = refl
both_kept true false p q = absurd (false≢true q)
both_kept false b p q = absurd (false≢true p)

both_were : (a b : Bool) → ◌≡◌ {A = Option Rule} (if a then (if b then None else Some rules.Chain) else Some rules.Range) None → (a ≡ true) × (b ≡ true)
both_were true true kept = (refl, refl)
both_were true false kept = cc
both_were false b kept = cc

-- what a valid Kc record says of its sets
pub record IsJoined (town : Town) (k : ℕ) (of : List ℕ) : Type 0 where
  pub three : 3 ≤ k
  pub even : joining_demands town k of % 2 ≡ 0
  pub two : 2 ≤ joining_demands town k of

pub joined_of : (town : Town) (k : ℕ) (of : List ℕ) → IsValidCut town (start town) (Kc k of) → IsJoined town k of
joined_of town k of valid =
    let both = both_were (is_partition town k of) (is_chain town k of) valid.kept in
    let first = and_parts ((length of == length town.junctions) && nat_le 3 k) (list_all (λ i. nat_le i k) of) both.0 in
    let long = and_parts (length of == length town.junctions) (nat_le 3 k) first.0 in
    let joining = joining_demands town k of in
    let a = and_parts (inner_sets_hold town k of && (joining % 2 == 0) && nat_le 2 joining) (streets_keep_sets town k of) both.1 in
    let b = and_parts (inner_sets_hold town k of && (joining % 2 == 0)) (nat_le 2 joining) a.0 in
    let c = and_parts (inner_sets_hold town k of) (joining % 2 == 0) b.0 in
    record { three = leb-true 3 k long.1; even = eqb-true (joining % 2) 0 c.1; two = leb-true 2 joining b.1 }

-- small numbers, each with a space before it
numbers_short : (xs : List ℕ) → All (λ n. n < 2 ^ 32) xs → length (flat_map (λ part. codes " " ++ part) (map decimal xs)) ≤ 40 * length xs
numbers_short xs small =
    let each : All (λ n. length (codes " " ++ decimal n) ≤ 40) xs = All-weaker (λ n. n < 2 ^ 32) (λ n. length (codes " " ++ decimal n) ≤ 40) (λ n low. omega (arith, length-append (codes " ") (decimal n), few-digits n (omega (arith, low)))) xs small in
    omega (
      arith,
      ap length (flat_map-map (λ part. codes " " ++ part) decimal xs),
      length-flat_map (λ n. codes " " ++ decimal n) xs,
      sum_by-le (λ n. length (codes " " ++ decimal n)) 40 xs each,
    )

module _ (town : Town) (count : ℕ) (of : List (Option ℕ)) (parts : AreParts town count of) (own u : ℕ) (has : part_at of u ≡ Some own) (few : count < 2 ^ 32) where
  abbrev sets : List ℕ
  sets = sets_for town count of own u

  small : All (λ n. n < 2 ^ 32) sets
  small = All-weaker (λ i. nat_le i count ≡ true) (λ n. n < 2 ^ 32) (λ i low. omega (arith, leb-true i count low, few)) sets (AllPass-from_list_all (λ i. nat_le i count) sets (sets_low town count of parts own u has))

  indexes : list_all is_index sets ≡ true
  indexes = list_all-from_AllPass is_index sets (All-weaker (λ n. n < 2 ^ 32) (λ n. is_index n ≡ true) (λ n low. lt-ltb n (2 ^ 32) low) sets small)

  writable : is_writable (Kc count sets) ≡ true
  writable =
      and_from (has_number_rules (Kc count sets)) (nat_le (length (line_of (Kc count sets))) (2 ^ 28))
      (and_from (nat_lt count (2 ^ 32) && true) (list_all is_index sets) (and_from (nat_lt count (2 ^ 32)) true (lt-ltb count (2 ^ 32) few) refl) indexes)
      (le-leb (length (line_of (Kc count sets))) (2 ^ 28)
      (omega (arith, numbers_short (count ∷ sets) (All-cons (λ n. n < 2 ^ 32) count sets few small), sets_long town count of parts own u has, few_junctions town)))

  pub candidate_valid : IsJoined town count sets → (s : Standing) → IsValidCut town s (candidate town count of own u)
  candidate_valid joined s = record {
    writable = writable;
    kept = both_kept (is_partition town count sets) (is_chain town count sets) (parted town count of parts own u has joined.three) (chained town count of parts own u has joined.three joined.even joined.two);
  }
