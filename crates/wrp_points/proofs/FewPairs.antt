-- Ascending numbers below a limit are at most as many.
use Rattle.std.proofs.Common.{◌≡◌, ℕ, suc, ◌+◌, ◌-◌, ◌*◌, ◌^◌, ◌<◌, ◌≤◌, true, ◌&&◌, nat_lt, nat_le, List, [], ◌∷◌, map, length, arith}
use Rattle.std.specs.List.{All, list_all}
use Rattle.std.proofs.lemmas.Bool.{and_parts, ltb-true, leb-true}
use Rattle.std.proofs.lemmas.List.{length-map}
use Rattle.std.proofs.lemmas.List.Elements.{All-weaker, All-map}
use Rattle.std.proofs.lemmas.List.Sums.{AllPass-from_list_all}
use Rattle.wrp_town.specs.declared.town.Town.{Town}
use Rattle.wrp_town.specs.Arcs.{is_legal}
use Rattle.wrp_town.proofs.TownLaws.{legal_below, few_streets}
use Rattle.wrp_rules.specs.declared.record.Record.TheVariants.{Point}
use Rattle.wrp_rules.specs.Ranges.{is_ascending, is_from_one, are_pairs}
use Rattle.wrp_rules.specs.Contents.{has_number_rules}
use Rattle.wrp_points.specs.Points.{AreNumbers, AreLegal}

-- behind a number
few_behind : (most limit x : ℕ) (xs : List ℕ) → list_all (nat_lt x) xs ≡ true → is_ascending most xs ≡ true → x < limit → All (λ y. y < limit) xs → x + length xs < limit
few_behind most limit x [] above ascending inside below = omega arith
few_behind most limit x (y ∷ ys) above ascending inside below =
    let last = and_parts (nat_le y most && list_all (nat_lt y) ys) (is_ascending most ys) ascending in
    let next = and_parts (nat_le y most) (list_all (nat_lt y) ys) last.0 in
    let less : x < y = ltb-true x y (and_parts (nat_lt x y) (list_all (nat_lt x) ys) above).0 in
    omega (arith, few_behind most limit y ys next.1 last.1 (below 0 y (omega arith)) (λ k d under. below (suc k) d (omega arith)))

pub few_ascending : (most limit : ℕ) (xs : List ℕ) → is_ascending most xs ≡ true → All (λ x. x < limit) xs → length xs ≤ limit
few_ascending most limit [] ascending below = omega arith
few_ascending most limit (x ∷ xs) ascending below =
    let last = and_parts (nat_le x most && list_all (nat_lt x) xs) (is_ascending most xs) ascending in
    let next = and_parts (nat_le x most) (list_all (nat_lt x) xs) last.0 in
    omega (arith, few_behind most limit x xs next.1 last.1 (below 0 x (omega arith)) (λ k d under. below (suc k) d (omega arith)))

-- what the number rules say of a point
pub point_denominator : (node den : ℕ) (numbers : List (ℕ × ℕ)) → has_number_rules (Point node den numbers) ≡ true → is_from_one (2 ^ 60) den ≡ true
point_denominator node den numbers rule = (and_parts _ _ (and_parts _ _ (and_parts _ _ rule).0).1).0

point_pairs : (node den : ℕ) (numbers : List (ℕ × ℕ)) → has_number_rules (Point node den numbers) ≡ true → are_pairs (2 ^ 72) numbers ≡ true
point_pairs node den numbers rule = (and_parts _ _ rule).1

-- few small numbers of arcs
pub point_numbers : (town : Town) (node den : ℕ) (numbers : List (ℕ × ℕ)) → has_number_rules (Point node den numbers) ≡ true → AreLegal town numbers → AreNumbers (2 * length town.streets) numbers
point_numbers town node den numbers rule legal =
    let pairs = and_parts (is_ascending (2 ^ 32 - 1) (map (λ q. q.0) numbers)) (list_all (λ q. is_from_one (2 ^ 72) q.1) numbers) (point_pairs node den numbers rule) in
    let inside : All (λ (q : ℕ × ℕ). q.0 < 2 * length town.streets) numbers =
    All-weaker (λ (q : ℕ × ℕ). is_legal town q.0 ≡ true) (λ (q : ℕ × ℕ). q.0 < 2 * length town.streets) (λ q is. legal_below town q.0 is) numbers (AllPass-from_list_all (λ (q : ℕ × ℕ). is_legal town q.0) numbers legal) in
    let few = few_ascending (2 ^ 32 - 1) (2 * length town.streets) (map (λ q. q.0) numbers) pairs.0 (All-map (λ x. x < 2 * length town.streets) (λ (q : ℕ × ℕ). q.0) numbers inside) in
    record {
      inside = inside;
      small = All-weaker (λ (q : ℕ × ℕ). is_from_one (2 ^ 72) q.1 ≡ true) (λ (q : ℕ × ℕ). q.1 ≤ 2 ^ 72) (λ q is. leb-true q.1 (2 ^ 72) (and_parts _ _ is).1) numbers (AllPass-from_list_all (λ (q : ℕ × ℕ). is_from_one (2 ^ 72) q.1) numbers pairs.1);
      few = omega (arith, few_streets town, length-map numbers (λ (q : ℕ × ℕ). q.0));
    }
