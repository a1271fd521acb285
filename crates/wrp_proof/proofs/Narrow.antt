-- The multipliers of a record that keeps the number rules are below 2 ^ 64.
use Rattle.std.proofs.Common.{arith, ◌≡◌, ℕ, ◌-◌, ◌<◌, ◌^◌, true, nat_lt, nat_le, List, [], ◌∷◌, map, length, refl}
use Rattle.std.proofs.lemmas.Bool.{and_parts, and_from, leb-true, lt-ltb}
use Rattle.std.specs.List.{list_all}
use Rattle.wrp_rules.specs.declared.record.Record.{Record}
use Rattle.wrp_rules.specs.declared.record.Record.TheVariants.{Round, Bound, Empty}
use Rattle.wrp_rules.specs.Ranges.{is_from_one, is_ascending, are_pairs, are_multipliers, are_in_ranges}
use Rattle.wrp_rules.specs.declared.layout.Range.TheVariants.{Count, FromOne}
use Rattle.wrp_rules.specs.Contents.{has_number_rules}
use Rattle.wrp_proof.specs.Views.{are_narrow, has_narrow_multipliers}

below : (most : ℕ) (pairs : List (ℕ × ℕ)) → most < 2 ^ 64 → list_all (λ q. is_from_one most q.1) pairs ≡ true → are_narrow pairs ≡ true
below most [] small h = refl
below most (pair ∷ pairs) small h =
    let both = and_parts (is_from_one most pair.1) (list_all (λ q. is_from_one most q.1) pairs) h in
    and_from (nat_lt pair.1 (2 ^ 64)) (are_narrow pairs)
    (lt-ltb pair.1 (2 ^ 64) (omega (arith, leb-true pair.1 most (and_parts (nat_le 1 pair.1) (nat_le pair.1 most) both.0).1))) (below most pairs small both.1)

narrow : (most : ℕ) (mult : List (ℕ × ℕ)) → most < 2 ^ 64 → are_multipliers most mult ≡ true → are_narrow mult ≡ true
narrow most mult small h = below most mult small (and_parts (is_ascending (2 ^ 32 - 1) (map (λ q. q.0) mult)) (list_all (λ q. is_from_one most q.1) mult) (and_parts (are_pairs most mult) (nat_le (length mult) 4096) h).0).1

pub narrow-multipliers : (item : Record) → has_number_rules item ≡ true → has_narrow_multipliers item ≡ true
narrow-multipliers (Round divisor mult) h = narrow (2 ^ 40) mult (omega arith) (and_parts (are_in_ranges (FromOne (2 ^ 20) ∷ []) (divisor ∷ [])) (are_multipliers (2 ^ 40) mult) h).1
narrow-multipliers (Bound node den mult) h = narrow (2 ^ 60) mult (omega arith) (and_parts (are_in_ranges (Count ∷ FromOne (2 ^ 40) ∷ []) (node ∷ den ∷ [])) (are_multipliers (2 ^ 60) mult) h).1
narrow-multipliers (Empty node mult) h = narrow (2 ^ 60) mult (omega arith) (and_parts (are_in_ranges (Count ∷ []) (node ∷ [])) (are_multipliers (2 ^ 60) mult) h).1
narrow-multipliers _ h = refl
