-- The odd row of a set, by the streets that cross it.
use Rattle.std.proofs.Common.{◌≡◌, ℕ, ◌+◌, ◌*◌, ◌%◌, ◌<◌, ◌≤◌, Bool, true, false, cond, not, ◌==◌, nat_lt, pos, List, length, ap, refl, sym, ◌∙◌, inl, inr, arith}
use Rattle.std.specs.Prelude.{◌↔◌}
use Rattle.std.proofs.lemmas.Bool.{and_from, and_parts, ltb-true, lt-ltb, cases_lt}
use Rattle.wrp_sums.proofs.Integers.{linear, ≤-from_pos, pos-≤ℤ}
use Rattle.wrp_town.specs.declared.town.Town.{Town}
use Rattle.wrp_town.specs.Arcs.{tail_of, head_of}
use Rattle.wrp_town.proofs.TownLaws.{tail_of-below, head_of-below}
use Rattle.wrp_rules.specs.Rows.{odd_row}
use Rattle.wrp_rules.specs.Sets.{is_in, crosses, crossing_demands}
use Rattle.wrp_laws.specs.Meets.{sum_of_counts}
use Rattle.wrp_laws.specs.Points.{MeetsOver}
use Rattle.wrp_laws.proofs.Crossings.{over_both_ways}
use Rattle.wrp_webs.specs.Webs.{differ}
use Rattle.wrp_webs.specs.TownWebs.{IsOnLegal, demand_count}
use Rattle.wrp_webs.proofs.SumsBelow.{same_sum}
use Rattle.wrp_webs.proofs.Pairs.{sum_pairs}
use Rattle.wrp_webs.proofs.LegalSums.{ones_sum}
use Rattle.wrp_webs.proofs.Demands.{count_by_streets}
use Rattle.wrp_odd.specs.declared.tally.Tally.{Tally}
use Rattle.wrp_odd.specs.Crossing.{crosses_at, crossing_sum, crossing_count, is_broken}

both_or_none : (b : Bool) (p q : ℕ) → cond b p 0 + cond b q 0 ≡ cond b (p + q) 0
both_or_none true p q = refl
both_or_none false p q = refl

pub count_is : (town : Town) (set : List ℕ) → crossing_demands town set ≡ crossing_count town (is_in set) (length town.streets)
count_is town set = count_by_streets (crosses town set) (over_both_ways town (is_in set)) town

module _ (town : Town) (x : ℕ → ℕ) where
  pub sum_is : IsOnLegal town x → (set : List ℕ) → sum_of_counts town x (odd_row town set).coef ≡ pos (crossing_sum town x (is_in set) (length town.streets))
  sum_is on set =
      ones_sum town x (crosses town set) on
      ∙ ap pos
      (sum_pairs (λ a. cond (crosses town set a) (x a) 0) (length town.streets)
      ∙ same_sum (λ s. cond (crosses town set (2 * s)) (x (2 * s)) 0 + cond (crosses town set (2 * s + 1)) (x (2 * s + 1)) 0)
      (λ s. cond (crosses town set (2 * s)) (x (2 * s) + x (2 * s + 1)) 0) (length town.streets)
      (λ s below. ap (λ (b : Bool). cond (crosses town set (2 * s)) (x (2 * s)) 0 + cond b (x (2 * s + 1)) 0) (sym (over_both_ways town (is_in set) s)) ∙ both_or_none (crosses town set (2 * s)) (x (2 * s)) (x (2 * s + 1))))

  -- the row is met where the numbers that cross reach one more than the demands that do, over e
  pub row_met : (e : ℕ) → IsOnLegal town x → (set : List ℕ) → MeetsOver town e x (odd_row town set) ↔ (e * (crossing_demands town set + 1) ≤ crossing_sum town x (is_in set) (length town.streets))
  row_met e on set = ((λ row. ≤-from_pos _ _ (omega (arith, linear, sum_is on set, row))), (λ enough. omega (arith, linear, sum_is on set, pos-≤ℤ (e * (crossing_demands town set + 1)) (crossing_sum town x (is_in set) (length town.streets)) enough)))

  module _ (set : List ℕ) (u : ℕ → Bool) (same : (i : ℕ) → i < length town.junctions → is_in set i ≡ u i) where
    crosses_same : (s : ℕ) → s < length town.streets → crosses_at town (is_in set) s ≡ crosses_at town u s
    crosses_same s below =
        ap (λ (b : Bool). differ b (is_in set (head_of town (2 * s)))) (same (tail_of town (2 * s)) (tail_of-below town (2 * s) (omega arith)))
        ∙ ap (differ (u (tail_of town (2 * s)))) (same (head_of town (2 * s)) (head_of-below town (2 * s) (omega arith)))

    pub sum_same : crossing_sum town x (is_in set) (length town.streets) ≡ crossing_sum town x u (length town.streets)
    sum_same =
        same_sum (λ s. cond (crosses_at town (is_in set) s) (x (2 * s) + x (2 * s + 1)) 0) (λ s. cond (crosses_at town u s) (x (2 * s) + x (2 * s + 1)) 0) (length town.streets)
        (λ s below. ap (λ (b : Bool). cond b (x (2 * s) + x (2 * s + 1)) 0) (crosses_same s below))

    pub count_same : crossing_count town (is_in set) (length town.streets) ≡ crossing_count town u (length town.streets)
    count_same =
        same_sum (λ s. cond (crosses_at town (is_in set) s) (demand_count town s) 0) (λ s. cond (crosses_at town u s) (demand_count town s) 0) (length town.streets)
        (λ s below. ap (λ (b : Bool). cond b (demand_count town s) 0) (crosses_same s below))

    -- the tally of the junctions that pass tells whether the set's k is odd and its row broken
    module _ (e : ℕ) (on : IsOnLegal town x) (tally : Tally) (sum : tally.sum ≡ crossing_sum town x u (length town.streets)) (demands : tally.demands ≡ crossing_count town u (length town.streets)) where
      count_tally : tally.demands ≡ crossing_demands town set
      count_tally = demands ∙ sym count_same ∙ sym (count_is town set)

      sum_tally : tally.sum ≡ crossing_sum town x (is_in set) (length town.streets)
      sum_tally = sum ∙ sym sum_same

      less : tally.sum < e * (tally.demands + 1) → MeetsOver town e x (odd_row town set) → ⊥
      less light row =
          let enough = (row_met e on set).0 row in
          let same_side : e * (tally.demands + 1) ≡ e * (crossing_demands town set + 1) = ap (λ (k : ℕ). e * (k + 1)) count_tally in
          absurd (omega (arith, sum_tally))

      pub tells_odd : is_broken e tally ≡ true → not (crossing_demands town set % 2 == 0) ≡ true
      tells_odd is = sym (ap (λ (k : ℕ). not (k % 2 == 0)) count_tally) ∙ (and_parts (not (tally.demands % 2 == 0)) (nat_lt tally.sum (e * (tally.demands + 1))) is).0

      pub tells_broken : is_broken e tally ≡ true → MeetsOver town e x (odd_row town set) → ⊥
      tells_broken is = less (ltb-true tally.sum (e * (tally.demands + 1)) (and_parts (not (tally.demands % 2 == 0)) (nat_lt tally.sum (e * (tally.demands + 1))) is).1)

      pub told : not (crossing_demands town set % 2 == 0) ≡ true → (MeetsOver town e x (odd_row town set) → ⊥) → is_broken e tally ≡ true
      told odd broken =
          and_from (not (tally.demands % 2 == 0)) (nat_lt tally.sum (e * (tally.demands + 1))) (ap (λ (k : ℕ). not (k % 2 == 0)) count_tally ∙ odd)
          (elim (cases_lt tally.sum (e * (tally.demands + 1))) [
            | inl light ↦ lt-ltb tally.sum (e * (tally.demands + 1)) light
            | inr heavy ↦ (let same_side : e * (tally.demands + 1) ≡ e * (crossing_demands town set + 1) = ap (λ (k : ℕ). e * (k + 1)) count_tally in absurd (broken ((row_met e on set).1 (omega (arith, sum_tally)))))
          ])
