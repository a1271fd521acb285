-- A set that was found, as the list that a record holds; and degrees by flags.
use Rattle.std.proofs.Common.{◌≡◌, ℕ, zero, suc, ◌%◌, ◌<◌, Bool, true, false, cond, List, filter, Contains, ap, refl, sym, ◌∙◌, inl, inr, ◌⊎◌, arith, eq-eqb}
use Rattle.std.specs.Prelude.{nat_eq}
use Rattle.std.specs.List.{range_with_len}
use Rattle.std.proofs.lemmas.Bool.{cases_Bool, true≢false, false_from_ne_true}
use Rattle.wrp_sums.specs.Sums.{numbers_below}
use Rattle.wrp_sums.proofs.FirstNumbers.{inside_filter, passes_of_inside, inside_numbers_below}
use Rattle.wrp_town.proofs.Members.{any_from_member}
use Rattle.wrp_town.proofs.ServiceLaws.{member_from_has_arc}
use Rattle.wrp_rules.specs.Sets.{is_in}
use Rattle.wrp_webs.specs.Webs.{sum_below, Web, differ, cut, degrees, IsWeb}
use Rattle.wrp_webs.proofs.SumsBelow.{same_sum}
use Rattle.wrp_webs.proofs.LegalSums.{range_numbers}

inside_is_in : (xs : List ℕ) (j : ℕ) → Contains xs j → is_in xs j ≡ true
inside_is_in xs j inside = any_from_member (nat_eq j) xs j inside (eq-eqb j j refl)

-- the junctions that pass a test, as a list, hold exactly those
pub listed_is : (u : ℕ → Bool) (n j : ℕ) → j < n → is_in (filter u (range_with_len 0 n)) j ≡ u j
listed_is u n j below = ap (λ (xs : List ℕ). is_in (filter u xs) j) (range_numbers n) ∙ by (cases_Bool (u j))
  where
    by : (u j ≡ true) ⊎ (u j ≡ false) → is_in (filter u (numbers_below n)) j ≡ u j
    by (inl has) = inside_is_in (filter u (numbers_below n)) j (inside_filter u (numbers_below n) j (inside_numbers_below n j below) has) ∙ sym has
    by (inr none) =
        false_from_ne_true (is_in (filter u (numbers_below n)) j) (λ there. true≢false (sym (passes_of_inside u (numbers_below n) j (member_from_has_arc (filter u (numbers_below n)) j there)) ∙ none))
        ∙ sym none

-- sets with the same junctions weigh the same
pub same_cut : (web : Web) (t u : ℕ → Bool) → IsWeb web → ((j : ℕ) → j < web.junctions → t j ≡ u j) → cut web t ≡ cut web u
same_cut web t u is same =
    same_sum (λ l. cond (differ (t (web.one l)) (t (web.two l))) (web.weight l) 0) (λ l. cond (differ (u (web.one l)) (u (web.two l))) (web.weight l) 0) web.links
    (λ l below. ap (λ (b : Bool). cond (differ b (t (web.two l))) (web.weight l) 0) (same (web.one l) (is.one_below l below)) ∙ ap (λ (b : Bool). cond (differ (u (web.one l)) b) (web.weight l) 0) (same (web.two l) (is.two_below l below)))

-- degrees may be told by their parity alone
flags_sum : (set : ℕ → Bool) (f : ℕ → ℕ) (n : ℕ) → sum_below (λ j. cond (set j) (f j) 0) n % 2 ≡ sum_below (λ j. cond (set j) (f j % 2) 0) n % 2
flags_sum set f zero = refl
flags_sum set f (suc n) = omega (arith, flags_sum set f n, one (set n))
  where
    one : (b : Bool) → cond b (f n) 0 % 2 ≡ cond b (f n % 2) 0 % 2
    one true = omega arith
    one false = refl

pub odd_by_flags : (web : Web) (set : ℕ → Bool) → degrees web set % 2 ≡ sum_below (λ j. cond (set j) (web.degree j % 2) 0) web.junctions % 2
odd_by_flags web set = flags_sum set web.degree web.junctions
