-- The row of a chain of sets, by the streets.
use Rattle.std.proofs.Common.{◌≡◌, ℕ, zero, suc, ◌+◌, ◌-◌, ◌*◌, ◌≤◌, Bool, true, false, cond, ◌&&◌, ◌||◌, ◌==◌, ℤ, pos, ◌*ℤ◌, List, length, filter, slice_index, ap, refl, sym, ◌∙◌, arith, eq-eqb}
use native.Mathlib.Nat.{mul-add}
use Rattle.std.specs.Prelude.{◌↔◌}
use Rattle.std.specs.Int.{abs_diff}
use Rattle.std.proofs.lemmas.Bool.{eqb-true}
use Rattle.wrp_sums.specs.Sums.{sum_over, numbers_below}
use Rattle.wrp_sums.proofs.Integers.{linear, ≤-from_pos, pos-≤ℤ}
use Rattle.wrp_sums.proofs.FirstNumbers.{sum_passing_more}
use Rattle.wrp_town.specs.declared.town.Town.{Town}
use Rattle.wrp_town.specs.Arcs.{is_legal, legal_arcs}
use Rattle.wrp_rules.specs.Rows.{joins_ends, joining_demands, chain_distance, kc_row}
use Rattle.wrp_rules.proofs.TwoWays.{both_ways_same}
use Rattle.wrp_laws.specs.Points.{MeetsOver}
use Rattle.wrp_webs.specs.Webs.{sum_below}
use Rattle.wrp_webs.specs.TownWebs.{IsOnLegal}
use Rattle.wrp_webs.proofs.Demands.{count_by_streets}
use Rattle.wrp_webs.proofs.LegalSums.{range_numbers}
use Rattle.wrp_webs.proofs.Pairs.{sum_pairs}
use Rattle.wrp_webs.proofs.SumsBelow.{same_sum}
use Rattle.wrp_kc.specs.Chains.{are_ends, distance, weighed_sum, joining_count}

sum_passing : (f : ℕ → ℤ) (g : ℕ → ℕ) (p : ℕ → Bool) (n : ℕ) → ((i : ℕ) → cond (p i) (f i) (pos 0) ≡ pos (g i)) → sum_over f (filter p (numbers_below n)) ≡ pos (sum_below g n)
sum_passing f g p zero same = refl
sum_passing f g p (suc n) same =
    let next : suc n ≡ n + 1 = omega arith in
    ap (λ (k : ℕ). sum_over f (filter p (numbers_below k))) next ∙ sum_passing_more f p n ∙ omega (arith, linear, sum_passing f g p n same, same n)

one_term : (legal : Bool) (c x : ℕ) → (legal ≡ false → x ≡ 0) → cond legal (pos c *ℤ pos x) (pos 0) ≡ pos (c * x)
one_term true c x none = refl
one_term false c x none = ap pos (sym (ap (λ (n : ℕ). c * n) (none refl) ∙ omega arith))

turned_ends : (p q r t : Bool) → ((p && q) || (r && t)) ≡ ((t && r) || (q && p))
turned_ends true true true true = refl
turned_ends true true true false = refl
turned_ends true true false true = refl
turned_ends true true false false = refl
turned_ends true false true true = refl
turned_ends true false true false = refl
turned_ends true false false true = refl
turned_ends true false false false = refl
turned_ends false true true true = refl
turned_ends false true true false = refl
turned_ends false true false true = refl
turned_ends false true false false = refl
turned_ends false false true true = refl
turned_ends false false true false = refl
turned_ends false false false true = refl
turned_ends false false false false = refl

ends_turned : (k a b : ℕ) → are_ends k a b ≡ are_ends k b a
ends_turned k a b = turned_ends (a == 0) (b == k) (a == k) (b == 0)

distance_turned : (k a b : ℕ) → distance k a b ≡ distance k b a
distance_turned k a b = ap (λ (t : Bool). cond t (k - 2) (abs_diff a b)) (ends_turned k a b) ∙ ap (λ (n : ℕ). cond (are_ends k b a) (k - 2) n) (omega arith)

module _ (town : Town) (x : ℕ → ℕ) (k : ℕ) (of : List ℕ) where
  ends_both : (s : ℕ) → joins_ends town k of (2 * s) ≡ joins_ends town k of (2 * s + 1)
  ends_both s = both_ways_same town (λ u v. are_ends k (slice_index of u) (slice_index of v)) (λ u v. ends_turned k (slice_index of u) (slice_index of v)) s

  distance_both : (s : ℕ) → chain_distance town k of (2 * s + 1) ≡ chain_distance town k of (2 * s)
  distance_both s =
      let d = chain_distance town k of (2 * s) in
      eqb-true (chain_distance town k of (2 * s + 1)) d
      (sym (both_ways_same town (λ u v. distance k (slice_index of u) (slice_index of v) == d) (λ u v. ap (λ (n : ℕ). n == d) (distance_turned k (slice_index of u) (slice_index of v))) s) ∙ eq-eqb d d refl)

  pub joining_is : joining_demands town k of ≡ joining_count town k of (length town.streets)
  joining_is = count_by_streets (joins_ends town k of) ends_both town

  shared : (c a b : ℕ) → c * a + c * b ≡ c * (a + b)
  shared c a b = sym (mul-add c a b)

  pub sum_is : IsOnLegal town x → sum_over (λ arc. pos (chain_distance town k of arc) *ℤ pos (x arc)) (legal_arcs town) ≡ pos (weighed_sum town x k of (length town.streets))
  sum_is on =
      ap (λ (xs : List ℕ). sum_over (λ arc. pos (chain_distance town k of arc) *ℤ pos (x arc)) (filter (is_legal town) xs)) (range_numbers (2 * length town.streets))
      ∙ sum_passing (λ arc. pos (chain_distance town k of arc) *ℤ pos (x arc)) (λ a. chain_distance town k of a * x a) (is_legal town) (2 * length town.streets) (λ a. one_term (is_legal town a) (chain_distance town k of a) (x a) (on a))
      ∙ ap pos
      (sum_pairs (λ a. chain_distance town k of a * x a) (length town.streets)
      ∙ same_sum (λ s. chain_distance town k of (2 * s) * x (2 * s) + chain_distance town k of (2 * s + 1) * x (2 * s + 1)) (λ s. chain_distance town k of (2 * s) * (x (2 * s) + x (2 * s + 1))) (length town.streets)
      (λ s below. ap (λ (c : ℕ). chain_distance town k of (2 * s) * x (2 * s) + c * x (2 * s + 1)) (distance_both s) ∙ shared (chain_distance town k of (2 * s)) (x (2 * s)) (x (2 * s + 1))))

  pub row_met : IsOnLegal town x → (e : ℕ) → MeetsOver town e x (kc_row town k of) ↔ (e * (2 * (k - 1) + (k - 2) * joining_count town k of (length town.streets)) ≤ weighed_sum town x k of (length town.streets))
  row_met on e = ((λ met. forth met), (λ enough. back enough))
    where
      same : e * (2 * (k - 1) + (k - 2) * joining_demands town k of) ≡ e * (2 * (k - 1) + (k - 2) * joining_count town k of (length town.streets))
      same = ap (λ (n : ℕ). e * (2 * (k - 1) + (k - 2) * n)) joining_is

      forth : MeetsOver town e x (kc_row town k of) → e * (2 * (k - 1) + (k - 2) * joining_count town k of (length town.streets)) ≤ weighed_sum town x k of (length town.streets)
      forth met = omega (arith, same, ≤-from_pos (e * (2 * (k - 1) + (k - 2) * joining_demands town k of)) (weighed_sum town x k of (length town.streets)) (omega (arith, linear, sum_is on, met)))

      back : e * (2 * (k - 1) + (k - 2) * joining_count town k of (length town.streets)) ≤ weighed_sum town x k of (length town.streets) → MeetsOver town e x (kc_row town k of)
      back enough = omega (arith, linear, sum_is on, pos-≤ℤ (e * (2 * (k - 1) + (k - 2) * joining_demands town k of)) (weighed_sum town x k of (length town.streets)) (omega (arith, same)))
