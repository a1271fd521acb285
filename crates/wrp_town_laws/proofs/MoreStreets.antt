-- More streets between the junctions of a town make a town.
use Rattle.std.proofs.Common.{◌≡◌, ℕ, ◌+◌, ◌≤◌, max, true, ◌&&◌, List, [], ◌∷◌, ◌++◌, length, ap, refl, sym, ◌∙◌, subst, arith, eq-eqb}
use Rattle.std.specs.Prelude.{nat_lt, nat_le}
use Rattle.std.specs.List.{list_all}
use Rattle.std.proofs.lemmas.Bool.{and_parts, and_from, eqb-true, ltb-true, le-leb}
use Rattle.std.proofs.lemmas.List.Folds.{list_all-append}
use Rattle.wrp_town.specs.declared.street.Street.{Street}
use Rattle.wrp_town.specs.Limits.{street_limit, demand_limit}
use Rattle.wrp_town.specs.Streets.{IsTown, demands_from, ends_of, come_in_order, is_street}

pub ends_of-append : (xs ys : List Street) → ends_of (xs ++ ys) ≡ ends_of xs ++ ends_of ys
ends_of-append [] ys = refl
ends_of-append (x ∷ xs) ys = ap (λ ends. x.from ∷ x.to ∷ ends) (ends_of-append xs ys)

-- numbers that come in order end with all n seen, so others go on from n
pub order_goes_on : (n seen : ℕ) (js more : List ℕ) → come_in_order n seen js ≡ true → come_in_order n n more ≡ true → come_in_order n seen (js ++ more) ≡ true
order_goes_on n seen [] more is rest = subst (λ s. come_in_order n s more ≡ true) (sym (eqb-true seen n is)) rest
order_goes_on n seen (j ∷ js) more is rest =
    let parts = and_parts (nat_le j seen) (come_in_order n (max seen (j + 1)) js) is in
    and_from (nat_le j seen) _ parts.0 (order_goes_on n (max seen (j + 1)) js more parts.1 rest)

-- where all are seen, any more are in order
pub all_seen : (n : ℕ) (streets : List Street) → list_all (is_street n) streets ≡ true → come_in_order n n (ends_of streets) ≡ true
all_seen n [] sound = eq-eqb n n refl
all_seen n (street ∷ streets) sound =
    let parts = and_parts (is_street n street) (list_all (is_street n) streets) sound in
    let to_part = and_parts _ (nat_lt street.to n) parts.0 in
    let from_part = and_parts _ (nat_lt street.from n) to_part.0 in
    let to = ltb-true street.to n to_part.1 in
    let from = ltb-true street.from n from_part.1 in
    let first : max n (street.from + 1) ≡ n = omega arith in
    let second : max n (street.to + 1) ≡ n = omega arith in
    and_from (nat_le street.from n) _ (le-leb street.from n (omega arith))
    (subst (λ s. (nat_le street.to s && come_in_order n (max s (street.to + 1)) (ends_of streets)) ≡ true) (sym first)
    (and_from (nat_le street.to n) _ (le-leb street.to n (omega arith)) (subst (λ s. come_in_order n s (ends_of streets) ≡ true) (sym second) (all_seen n streets parts.1))))

-- more streets between the junctions of a town
pub more_streets : (junctions : List (List ℕ)) (streets more : List Street) → IsTown junctions streets → list_all (is_street (length junctions)) more ≡ true
    → length (streets ++ more) ≤ street_limit → length (demands_from 0 (streets ++ more)) ≤ demand_limit → IsTown junctions (streets ++ more)
more_streets junctions streets more town sound few few_demands = record {
  few_junctions = town.few_junctions;
  few_streets = few;
  few_demands = few_demands;
  named = town.named;
  different = town.different;
  sound = list_all-append (is_street (length junctions)) streets more ∙ and_from _ _ town.sound sound;
  in_order = subst (λ ends. come_in_order (length junctions) 0 ends ≡ true) (sym (ends_of-append streets more))
      (order_goes_on (length junctions) 0 (ends_of streets) (ends_of more) town.in_order (all_seen (length junctions) more sound));
}
