-- The odd rows of a town at a point that meets the service rows.
use Rattle.std.proofs.Common.{◌≡◌, ℕ, zero, suc, ◌+◌, ◌-◌, ◌*◌, ◌/◌, ◌%◌, ◌<◌, ◌≤◌, Bool, true, false, cond, ◌||◌, ◌==◌, ℤ, pos, ◌*ℤ◌, ◌≤ℤ◌, List, [], ◌∷◌, length, count_by, Contains, Option, Some, ap, refl, sym, ◌∙◌, subst, inl, inr, ◌⊎◌, arith, eq-eqb, slice_get}
use Rattle.std.specs.Prelude.{◌↔◌}
use Rattle.std.specs.Option.{option_map_or}
use Rattle.std.proofs.lemmas.Bool.{cases_eq, ne_eqb, false_from_ne_true}
use Rattle.std.proofs.lemmas.List.Elements.{Contains-append_cases}
use Rattle.wrp_sums.proofs.Integers.{linear, ≤-from_pos, pos-≤ℤ}
use Rattle.wrp_town.specs.declared.street.Need.{Need}
use Rattle.wrp_town.specs.declared.street.Need.TheVariants.{No, Either, Forward, Backward, Both}
use Rattle.wrp_town.specs.declared.street.Street.{Street}
use Rattle.wrp_town.specs.declared.town.Town.{Town}
use Rattle.wrp_town.specs.Streets.{demands_at, demands_from}
use Rattle.wrp_town.specs.Arcs.{demands, has_arc}
use Rattle.wrp_town.proofs.Members.{inside_head, inside_tail, inside_none}
use Rattle.wrp_town.proofs.ServiceLaws.{member_from_has_arc, demand_arc_street}
use Rattle.wrp_town.proofs.TownLaws.{tail_of-below, head_of-below, slice_get_inside}
use Rattle.wrp_rules.specs.Rows.{odd_row, service_row}
use Rattle.wrp_rules.specs.Sets.{is_in, crosses, crossing_demands}
use Rattle.wrp_laws.specs.Meets.{sum_of_counts}
use Rattle.wrp_laws.specs.Points.{MeetsOver}
use Rattle.wrp_laws.proofs.Thinning.{count_cons}
use Rattle.wrp_laws.proofs.Crossings.{over_both_ways, demand_there}
use Rattle.wrp_webs.specs.Webs.{sum_below, cut, degrees, IsWeb}
use Rattle.wrp_webs.specs.TownWebs.{IsOnLegal, MeetsServices, demand_count, spare, town_web}
use Rattle.wrp_webs.proofs.SumsBelow.{same_sum, sum_of_sums, scaled_sum, sum_single}
use Rattle.wrp_webs.proofs.Pairs.{sum_pairs}
use Rattle.wrp_webs.proofs.LegalSums.{ones_sum}
use Rattle.wrp_webs.proofs.Demands.{count_by_streets, degrees_are_crossings, over}

-- ---- the web of a town

never : (town : Town) (ds : List (List ℕ)) → count_by (over town (λ j. true)) ds ≡ 0
never town [] = refl
never town (d ∷ ds) = omega (arith, count_cons (over town (λ j. true)) d ds, never town ds)

pub town_is_web : (town : Town) (e : ℕ) (x : ℕ → ℕ) → IsWeb (town_web town e x)
town_is_web town e x = record {
  one_below = λ s below. tail_of-below town (2 * s) (omega arith);
  two_below = λ s below. head_of-below town (2 * s) (omega arith);
  even = degrees_are_crossings town e x (λ j. true) ∙ ap (λ (n : ℕ). n % 2) (never town (demands town));
}

-- ---- service

index_below : {X : Type 0} (xs : List X) (i : ℕ) (x : X) → slice_get xs i ≡ Some x → i < length xs
index_below [] i x is = absurd (cc)
index_below (y ∷ xs) zero x is = omega arith
index_below (y ∷ xs) (suc i) x is = let rest = index_below xs i x is in omega arith

only_term : (f : ℕ → ℕ) (k n : ℕ) → k < n → ((i : ℕ) → (i ≡ k → ⊥) → f i ≡ 0) → sum_below f n ≡ f k
only_term f k n below none =
    same_sum f (λ i. cond (k == i) (f i) 0) n (λ i less. by i (cases_eq k i)) ∙ sum_single f k n below
  where
    by : (i : ℕ) → (k ≡ i) ⊎ (k ≡ i → ⊥) → f i ≡ cond (k == i) (f i) 0
    by i (inl same) = sym (ap (λ (b : Bool). cond b (f i) 0) (eq-eqb k i same))
    by i (inr differs) = none i (λ e. differs (sym e)) ∙ sym (ap (λ (b : Bool). cond b (f i) 0) (ne_eqb k i differs))

-- each demand is one of a street
street_of_demand : (s : ℕ) (streets : List Street) (d : List ℕ) → Contains (demands_from s streets) d → (i : ℕ) × (street : Street) × (slice_get streets i ≡ Some street) × (Contains (demands_at (s + i) street.need) d)
street_of_demand s [] d inside = absurd (inside_none d inside)
street_of_demand s (street ∷ streets) d inside =
    elim (Contains-append_cases (demands_at s street.need) (demands_from (s + 1) streets) d inside) [
      | inl here ↦ (zero, street, refl, subst (λ (k : ℕ). Contains (demands_at k street.need) d) (omega arith) here)
      | inr there ↦ (
          let rest = street_of_demand (s + 1) streets d there in
          (suc rest.0, rest.1, rest.2, subst (λ (k : ℕ). Contains (demands_at k rest.1.need) d) (omega arith) rest.3)
          )
    ]

module _ (town : Town) (e : ℕ) (x : ℕ → ℕ) (on : IsOnLegal town x) where
  -- the numbers of a street's arcs that a demand holds
  abbrev held : List ℕ → ℕ → ℕ
  held d s = cond (has_arc d (2 * s)) (x (2 * s)) 0 + cond (has_arc d (2 * s + 1)) (x (2 * s + 1)) 0

  not_held : (s : ℕ) (need : Need) (d : List ℕ) (i : ℕ) → Contains (demands_at s need) d → (i ≡ s → ⊥) → held d i ≡ 0
  not_held s need d i inside differs =
      omega (
        arith,
        ap (λ (b : Bool). cond b (x (2 * i)) 0) (false_from_ne_true (has_arc d (2 * i)) (λ has. differs (even (demand_arc_street s need d (2 * i) inside (member_from_has_arc d (2 * i) has))))),
        ap (λ (b : Bool). cond b (x (2 * i + 1)) 0) (false_from_ne_true (has_arc d (2 * i + 1)) (λ has. differs (odd (demand_arc_street s need d (2 * i + 1) inside (member_from_has_arc d (2 * i + 1) has))))),
      )
    where
      even : (2 * i) / 2 ≡ s → i ≡ s
      even h = omega arith

      odd : (2 * i + 1) / 2 ≡ s → i ≡ s
      odd h = omega arith

  -- a service row is met where the arcs of the demand have enough
  service_held : (s : ℕ) (need : Need) (d : List ℕ) → s < length town.streets → Contains (demands_at s need) d → MeetsOver town e x (service_row d) → e ≤ held d s
  service_held s need d below inside met =
      let sum : sum_of_counts town x (service_row d).coef ≡ pos (held d s) =
      ones_sum town x (has_arc d) on
      ∙ ap pos (sum_pairs (λ a. cond (has_arc d a) (x a) 0) (length town.streets) ∙ only_term (held d) s (length town.streets) below (λ i differs. not_held s need d i inside differs)) in
      let product : pos (e * 1) ≡ pos e *ℤ pos 1 = refl in
      let reach : e * 1 ≤ held d s = ≤-from_pos (e * 1) (held d s) (omega (arith, linear)) in
      omega arith

  -- and only there
  service_met : (s : ℕ) (need : Need) (d : List ℕ) → s < length town.streets → Contains (demands_at s need) d → e ≤ held d s → MeetsOver town e x (service_row d)
  service_met s need d below inside most =
      let sum : sum_of_counts town x (service_row d).coef ≡ pos (held d s) =
      ones_sum town x (has_arc d) on
      ∙ ap pos (sum_pairs (λ a. cond (has_arc d a) (x a) 0) (length town.streets) ∙ only_term (held d) s (length town.streets) below (λ i differs. not_held s need d i inside differs)) in
      let one : e * 1 ≡ e = omega arith in
      let reach : pos (e * 1) ≤ℤ pos (held d s) = pos-≤ℤ (e * 1) (held d s) (omega arith) in
      subst (λ (z : ℤ). pos (e * 1) ≤ℤ z) (sym sum) reach

  -- so the service rows are met where the arcs of each demand have enough
  pub services_met : ((s : ℕ) (street : Street) (d : List ℕ) → slice_get town.streets s ≡ Some street → Contains (demands_at s street.need) d → e ≤ held d s) → MeetsServices town e x
  services_met enough_each = λ d inside.
      let of = street_of_demand 0 town.streets d inside in
      let at = subst (λ (k : ℕ). Contains (demands_at k of.1.need) d) (omega arith) of.3 in
      service_met of.0 of.1.need d (index_below town.streets of.0 of.1 of.2) at (enough_each of.0 of.1 d of.2 at)

  self_held : (a : ℕ) → has_arc (a ∷ []) a ≡ true
  self_held a = by (a == a) (eq-eqb a a refl)
    where
      by : (b : Bool) → b ≡ true → (b || false) ≡ true
      by true e = refl
      by false e = e

  other_held : (a b : ℕ) → (b ≡ a → ⊥) → has_arc (a ∷ []) b ≡ false
  other_held a b differs = by (b == a) (ne_eqb b a differs)
    where
      by : (t : Bool) → t ≡ false → (t || false) ≡ false
      by true h = h
      by false h = refl

  held_most : (d : List ℕ) (s : ℕ) → held d s ≤ x (2 * s) + x (2 * s + 1)
  held_most d s = by (has_arc d (2 * s)) (has_arc d (2 * s + 1))
    where
      by : (a b : Bool) → cond a (x (2 * s)) 0 + cond b (x (2 * s + 1)) 0 ≤ x (2 * s) + x (2 * s + 1)
      by true true = omega arith
      by true false = omega arith
      by false true = omega arith
      by false false = omega arith

  enough_at : (s : ℕ) (need : Need) → s < length town.streets → ((d : List ℕ) → Contains (demands_at s need) d → MeetsOver town e x (service_row d)) → e * length (demands_at s need) ≤ x (2 * s) + x (2 * s + 1)
  enough_at s No below met = omega arith
  enough_at s Either below met =
      omega (arith, service_held s Either (2 * s ∷ (2 * s + 1) ∷ []) below (inside_head (2 * s ∷ (2 * s + 1) ∷ []) []) (met (2 * s ∷ (2 * s + 1) ∷ []) (inside_head (2 * s ∷ (2 * s + 1) ∷ []) [])), held_most (2 * s ∷ (2 * s + 1) ∷ []) s)
  enough_at s Forward below met =
      omega (arith, service_held s Forward (2 * s ∷ []) below (inside_head (2 * s ∷ []) []) (met (2 * s ∷ []) (inside_head (2 * s ∷ []) [])), held_most (2 * s ∷ []) s)
  enough_at s Backward below met =
      omega (arith, service_held s Backward ((2 * s + 1) ∷ []) below (inside_head ((2 * s + 1) ∷ []) []) (met ((2 * s + 1) ∷ []) (inside_head ((2 * s + 1) ∷ []) [])), held_most ((2 * s + 1) ∷ []) s)
  enough_at s Both below met =
      omega (
        arith,
        service_held s Both (2 * s ∷ []) below (inside_head (2 * s ∷ []) (((2 * s + 1) ∷ []) ∷ [])) (met (2 * s ∷ []) (inside_head (2 * s ∷ []) (((2 * s + 1) ∷ []) ∷ []))),
        service_held s Both ((2 * s + 1) ∷ []) below (inside_tail (2 * s ∷ []) (((2 * s + 1) ∷ []) ∷ []) ((2 * s + 1) ∷ []) (inside_head ((2 * s + 1) ∷ []) []))
            (met ((2 * s + 1) ∷ []) (inside_tail (2 * s ∷ []) (((2 * s + 1) ∷ []) ∷ []) ((2 * s + 1) ∷ []) (inside_head ((2 * s + 1) ∷ []) []))),
        ap (λ (b : Bool). cond b (x (2 * s)) 0) (other_held (2 * s + 1) (2 * s) (λ h. absurd (omega arith))),
        ap (λ (b : Bool). cond b (x (2 * s + 1)) 0) (other_held (2 * s) (2 * s + 1) (λ h. absurd (omega arith))),
        ap (λ (b : Bool). cond b (x (2 * s)) 0) (self_held (2 * s)),
        ap (λ (b : Bool). cond b (x (2 * s + 1)) 0) (self_held (2 * s + 1)),
      )

  -- a street has at least what its demands need
  pub enough : MeetsServices town e x → (s : ℕ) → s < length town.streets → e * demand_count town s ≤ x (2 * s) + x (2 * s + 1)
  enough met s below = by (slice_get_inside town.streets s below)
    where
      by : (street : Street) × (slice_get town.streets s ≡ Some street) → e * demand_count town s ≤ x (2 * s) + x (2 * s + 1)
      by (street, is) =
          let start : s ≡ 0 + s = omega arith in
          subst (λ (found : Option Street). e * option_map_or (λ (st : Street). length (demands_at s st.need)) found 0 ≤ x (2 * s) + x (2 * s + 1)) (sym is)
          (enough_at s street.need below (λ d inside. met d (demand_there 0 s town.streets street d is (subst (λ (k : ℕ). Contains (demands_at k street.need) d) start inside))))

  -- ---- odd rows

  spare_term : (b : Bool) (p q n k : ℕ) → e * k ≤ p + q → cond b p 0 + cond b q 0 ≡ cond b (p + q - e * k) 0 + e * cond b k 0
  spare_term true p q n k h = omega arith
  spare_term false p q n k h = omega arith

  -- what crosses a set is its weight, and the denominator for each demand that crosses
  pub crossing_sum : MeetsServices town e x → (set : List ℕ) → sum_of_counts town x (odd_row town set).coef ≡ pos (cut (town_web town e x) (is_in set) + e * crossing_demands town set)
  crossing_sum met set =
      ones_sum town x (crosses town set) on
      ∙ ap pos
      (sum_pairs (λ a. cond (crosses town set a) (x a) 0) (length town.streets)
      ∙ same_sum (λ s. cond (crosses town set (2 * s)) (x (2 * s)) 0 + cond (crosses town set (2 * s + 1)) (x (2 * s + 1)) 0)
      (λ s. cond (crosses town set (2 * s)) (spare town e x s) 0 + e * cond (crosses town set (2 * s)) (demand_count town s) 0) (length town.streets)
      (λ s below. ap (λ (b : Bool). cond (crosses town set (2 * s)) (x (2 * s)) 0 + cond b (x (2 * s + 1)) 0) (sym (alike s))
      ∙ spare_term (crosses town set (2 * s)) (x (2 * s)) (x (2 * s + 1)) 0 (demand_count town s) (enough met s below))
      ∙ sum_of_sums (λ s. cond (crosses town set (2 * s)) (spare town e x s) 0) (λ s. e * cond (crosses town set (2 * s)) (demand_count town s) 0) (length town.streets)
      ∙ ap (λ (n : ℕ). cut (town_web town e x) (is_in set) + n)
      (scaled_sum e (λ s. cond (crosses town set (2 * s)) (demand_count town s) 0) (length town.streets) ∙ ap (λ (n : ℕ). e * n) (sym (count_by_streets (crosses town set) alike town))))
    where
      alike : (s : ℕ) → crosses town set (2 * s) ≡ crosses town set (2 * s + 1)
      alike s = over_both_ways town (is_in set) s

  -- the odd row of a set is met exactly where the set weighs at least the denominator
  pub odd_row_met : MeetsServices town e x → (set : List ℕ) → MeetsOver town e x (odd_row town set) ↔ (e ≤ cut (town_web town e x) (is_in set))
  odd_row_met met set = ((λ row. forth row), (λ heavy. back heavy))
    where
      side : pos e *ℤ pos (crossing_demands town set + 1) ≡ pos (e * crossing_demands town set + e)
      side = ap pos (omega arith)

      forth : MeetsOver town e x (odd_row town set) → e ≤ cut (town_web town e x) (is_in set)
      forth row =
          let reach : e * crossing_demands town set + e ≤ cut (town_web town e x) (is_in set) + e * crossing_demands town set =
          ≤-from_pos _ _ (omega (arith, linear, side, crossing_sum met set, row)) in
          omega arith

      back : e ≤ cut (town_web town e x) (is_in set) → MeetsOver town e x (odd_row town set)
      back heavy = omega (arith, linear, side, crossing_sum met set, pos-≤ℤ (e * crossing_demands town set + e) (cut (town_web town e x) (is_in set) + e * crossing_demands town set) (omega arith))

-- the demands that cross a set are odd in number exactly where the set is odd
pub crossing_is_odd : (town : Town) (e : ℕ) (x : ℕ → ℕ) (set : List ℕ) → degrees (town_web town e x) (is_in set) % 2 ≡ crossing_demands town set % 2
crossing_is_odd town e x set = degrees_are_crossings town e x (is_in set)
