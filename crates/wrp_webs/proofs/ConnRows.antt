-- Connectivity rows at a balanced point.
use Rattle.std.proofs.Common.{◌≡◌, ℕ, ◌*◌, ◌<◌, ◌≤◌, Bool, true, false, cond, ◌&&◌, not, ◌==◌, ℤ, pos, ◌+ℤ◌, ◌-ℤ◌, ◌*ℤ◌, List, length, ap, refl, sym, ◌∙◌, inl, inr, ◌⊎◌, arith}
use Rattle.std.specs.Prelude.{◌↔◌}
use Rattle.std.proofs.lemmas.Bool.{cases_Bool, true≢false}
use Rattle.std.proofs.lemmas.Int.{ints}
use Rattle.wrp_sums.specs.Sums.{sum_over}
use Rattle.wrp_sums.proofs.Integers.{linear, ≤-from_pos, pos-≤ℤ}
use Rattle.wrp_sums.proofs.SumsOver.{sum_over-+ℤ, sum_over-ext}
use Rattle.wrp_town.specs.declared.town.Town.{Town}
use Rattle.wrp_town.specs.Arcs.{tail_of, head_of, legal_arcs}
use Rattle.wrp_town.proofs.TownLaws.{tail_of-below, head_of-below}
use Rattle.wrp_rules.specs.Rows.{one_if, conn_row, balance_row}
use Rattle.wrp_rules.specs.Sets.{is_in, leaves}
use Rattle.wrp_laws.specs.Meets.{sum_of_counts}
use Rattle.wrp_laws.specs.Points.{MeetsOver}
use Rattle.wrp_webs.specs.Nets.{sum_at_end, entering}
use Rattle.wrp_webs.specs.Webs.{outside}
use Rattle.wrp_webs.specs.TownWebs.{IsOnLegal, IsBalanced, out_of_set, IsLeastOut}
use Rattle.wrp_webs.proofs.SumsBelow.{same_sum}
use Rattle.wrp_webs.proofs.Nets.{leaving_and_entering}
use Rattle.wrp_webs.proofs.LegalSums.{ones_sum}

one_balanced : (t h : Bool) (n : ℕ) → (one_if t -ℤ one_if h) *ℤ pos n +ℤ one_if h *ℤ pos n ≡ one_if t *ℤ pos n
one_balanced true true n = omega (arith, ints)
one_balanced true false n = omega (arith, ints)
one_balanced false true n = omega (arith, ints)
one_balanced false false n = omega (arith, ints)

one_turned : (a b : Bool) → (not a && not (not b)) ≡ (not a && b)
one_turned true true = refl
one_turned true false = refl
one_turned false true = refl
one_turned false false = refl

module _ (town : Town) (x : ℕ → ℕ) where
  junction_balanced : IsOnLegal town x → (j : ℕ) → sum_of_counts town x (balance_row town j).coef ≡ pos 0 → sum_at_end (2 * length town.streets) (tail_of town) x j ≡ sum_at_end (2 * length town.streets) (head_of town) x j
  junction_balanced on j balanced = same_pos (sum_at_end (2 * length town.streets) (tail_of town) x j) (sum_at_end (2 * length town.streets) (head_of town) x j) (
      sym (ones_sum town x (λ a. tail_of town a == j) on)
      ∙ sym (sum_over-ext (λ a. (one_if (tail_of town a == j) -ℤ one_if (head_of town a == j)) *ℤ pos (x a) +ℤ one_if (head_of town a == j) *ℤ pos (x a)) (λ a. one_if (tail_of town a == j) *ℤ pos (x a))
      (λ a. one_balanced (tail_of town a == j) (head_of town a == j) (x a)) (legal_arcs town))
      ∙ sum_over-+ℤ (λ a. (one_if (tail_of town a == j) -ℤ one_if (head_of town a == j)) *ℤ pos (x a)) (λ a. one_if (head_of town a == j) *ℤ pos (x a)) (legal_arcs town)
      ∙ ap (λ (z : ℤ). z +ℤ sum_over (λ a. one_if (head_of town a == j) *ℤ pos (x a)) (legal_arcs town)) balanced
      ∙ ap (λ (z : ℤ). pos 0 +ℤ z) (ones_sum town x (λ a. head_of town a == j) on)
      )
    where
      same_pos : (m n : ℕ) → pos m ≡ pos 0 +ℤ pos n → m ≡ n
      same_pos m n e = omega (arith, ≤-from_pos m n (omega (arith, linear, e)), ≤-from_pos n m (omega (arith, linear, e)))

  -- at a balanced point what leaves a set enters it
  pub leaving_is_entering : IsOnLegal town x → IsBalanced town x → (set : ℕ → Bool) → out_of_set town x set ≡ entering (2 * length town.streets) (tail_of town) (head_of town) x set
  leaving_is_entering on balanced set =
      omega (
        arith,
        same_sum (λ j. cond (set j) (sum_at_end (2 * length town.streets) (tail_of town) x j) 0) (λ j. cond (set j) (sum_at_end (2 * length town.streets) (head_of town) x j) 0) (length town.junctions)
            (λ j below. ap (λ (n : ℕ). cond (set j) n 0) (junction_balanced on j (balanced j below))),
        leaving_and_entering (length town.junctions) (2 * length town.streets) (tail_of town) (head_of town) x (λ a below. tail_of-below town a below) (λ a below. head_of-below town a below) set,
      )

  -- so as much leaves what is outside
  pub leaving_outside : IsOnLegal town x → IsBalanced town x → (set : ℕ → Bool) → out_of_set town x (outside set) ≡ out_of_set town x set
  leaving_outside on balanced set =
      same_sum (λ a. cond (not (set (tail_of town a)) && not (not (set (head_of town a)))) (x a) 0) (λ a. cond (not (set (tail_of town a)) && set (head_of town a)) (x a) 0) (2 * length town.streets)
      (λ a below. ap (λ (b : Bool). cond b (x a) 0) (one_turned (set (tail_of town a)) (set (head_of town a))))
      ∙ sym (leaving_is_entering on balanced set)

  -- the connectivity row of a set is met exactly where at least the denominator leaves it
  pub conn_row_met : (e : ℕ) → IsOnLegal town x → (set : List ℕ) → MeetsOver town e x (conn_row town set) ↔ (e ≤ out_of_set town x (is_in set))
  conn_row_met e on set = ((λ row. forth row), (λ enough. back enough))
    where
      sum : sum_of_counts town x (conn_row town set).coef ≡ pos (out_of_set town x (is_in set))
      sum = ones_sum town x (leaves town set) on

      side : pos e *ℤ pos 1 ≡ pos e
      side = ap pos (omega arith)

      forth : MeetsOver town e x (conn_row town set) → e ≤ out_of_set town x (is_in set)
      forth row = ≤-from_pos _ _ (omega (arith, linear, side, sum, row))

      back : e ≤ out_of_set town x (is_in set) → MeetsOver town e x (conn_row town set)
      back enough = omega (arith, linear, side, sum, pos-≤ℤ e (out_of_set town x (is_in set)) enough)

  -- least cuts from one node to each other one decide all sets that have nodes on both sides
  pub one_node_suffices : (e : ℕ) (at : ℕ → ℕ) (node : ℕ → Bool) (s : ℕ) → IsOnLegal town x → IsBalanced town x
      → ((t : ℕ) → node t ≡ true → (t ≡ s → ⊥) → (found : ℕ → Bool) × (IsLeastOut town x at s t found) × (e ≤ out_of_set town x found))
      → (set : ℕ → Bool) (u v : ℕ) → ((j : ℕ) → j < length town.junctions → set (at j) ≡ set j) → node u ≡ true → node v ≡ true → set u ≡ true → set v ≡ false → e ≤ out_of_set town x set
  one_node_suffices e at node s on balanced each set u v keeps first second holds out = by (cases_Bool (set s))
    where
      apart : (one other : ℕ) → set one ≡ true → set other ≡ false → one ≡ other → ⊥
      apart one other has none same = true≢false (sym has ∙ ap set same ∙ none)

      by : (set s ≡ true) ⊎ (set s ≡ false) → e ≤ out_of_set town x set
      by (inl has) =
          let found = each v second (λ same. apart s v has out (sym same)) in omega (arith, found.2, found.1.least set keeps has out)
      by (inr none) =
          let found = each u first (apart u s holds none) in
          omega (arith, found.2, found.1.least (outside set) (λ j below. ap not (keeps j below)) (ap not none) (ap not holds), leaving_outside on balanced set)
