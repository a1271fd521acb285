-- The value of multipliers over a box that holds one point.
use Rattle.std.proofs.Common.{◌≡◌, ℕ, ◌*◌, ◌≤◌, Bool, true, false, cond, ℤ, pos, ◌+ℤ◌, ◌-ℤ◌, ◌*ℤ◌, neg_ℤ, ◌≤ℤ◌, int_lt, List, [], ◌∷◌, Contains, Some, ap, refl, sym, ◌∙◌, arith}
use Rattle.std.proofs.lemmas.Bool.{false_from_ne_true}
use Rattle.std.proofs.lemmas.Int.{ints}
use Rattle.wrp_sums.specs.Rounding.{ceil_div}
use Rattle.wrp_sums.specs.Duality.{Program, least_term, reduced_cost, least_cost, dual_value, row_sum, cost_sum}
use Rattle.wrp_sums.proofs.Integers.{linear, tests, neg_ℤ-*ℤ, one-*ℤ}
use Rattle.wrp_sums.proofs.SumsOver.{sum_over-+ℤ, sum_over-same, sum_over-all_zero, sum_over-pos}
use Rattle.wrp_sums.proofs.RoundedUp.{IsCeilDiv_is}
use Rattle.wrp_sums.proofs.FirstNumbers.{passes_of_inside}
use Rattle.wrp_town.specs.declared.town.Town.{Town}
use Rattle.wrp_town.specs.Arcs.{is_legal, arcs, legal_arcs, cost_or_zero}
use Rattle.wrp_rules.specs.Rows.{Row, row_at}
use Rattle.wrp_rules.specs.Nodes.{Node, program, free_program, bound_value, empty_value, is_below}
use Rattle.wrp_laws.specs.Points.{MeetsOver}
use Rattle.wrp_progress.specs.Progress.{IsOnePoint, use_cost}

module _ (p : Program) (x : ℕ → ℕ) (lo : (a : ℕ) → Contains p.arcs a → p.lo a ≡ x a) (hi : (a : ℕ) → Contains p.arcs a → p.hi a ≡ x a) where
  least_at : (z : ℤ) (a : ℕ) → Contains p.arcs a → least_term z (p.lo a) (p.hi a) ≡ z *ℤ pos (x a)
  least_at z a inside = by (int_lt z (pos 0))
    where
      by : (t : Bool) → z *ℤ pos (cond t (p.hi a) (p.lo a)) ≡ z *ℤ pos (x a)
      by true = ap (λ (n : ℕ). z *ℤ pos n) (hi a inside)
      by false = ap (λ (n : ℕ). z *ℤ pos n) (lo a inside)

  -- no multipliers: the cost of the point
  pub bare_value : dual_value p 1 [] ≡ cost_sum p x
  bare_value =
      omega (
        arith,
        linear,
        sum_over-same (λ a. least_cost p 1 [] a) (λ a. pos (p.cost a * x a)) p.arcs
            (λ a inside. omega (arith, linear, ints, least_at (reduced_cost p 1 [] a) a inside)),
      )

  -- one row without costs: by how much the point breaks it
  pub row_value : (i : ℕ) → ((a : ℕ) → p.cost a ≡ 0) → dual_value p 1 ((i, 1) ∷ []) ≡ p.right_side i -ℤ row_sum p i x
  row_value i free =
      let mult : List (ℕ × ℕ) = (i, 1) ∷ [] in
      omega (
        arith,
        linear,
        one-*ℤ (p.right_side i),
        sum_over-+ℤ (λ a. p.coef i a *ℤ pos (x a)) (λ a. least_cost p 1 mult a) p.arcs,
        sum_over-all_zero (λ a. p.coef i a *ℤ pos (x a) +ℤ least_cost p 1 mult a) p.arcs (λ a inside. cancels a inside),
      )
    where
      reduced : (a : ℕ) → reduced_cost p 1 ((i, 1) ∷ []) a ≡ neg_ℤ (p.coef i a)
      reduced a = omega (arith, linear, one-*ℤ (p.coef i a), free a)

      cancels : (a : ℕ) → Contains p.arcs a → (p.coef i a *ℤ pos (x a) +ℤ least_cost p 1 ((i, 1) ∷ []) a) ≡ pos 0
      cancels a inside =
          omega (
            arith,
            linear,
            least_at (reduced_cost p 1 ((i, 1) ∷ []) a) a inside,
            ap (λ (z : ℤ). z *ℤ pos (x a)) (reduced a),
            neg_ℤ-*ℤ (p.coef i a) (pos (x a)),
          )

-- nothing is rounded up over 1
over_one : (z : ℤ) → ceil_div z 1 ≡ z
over_one z =
    sym (IsCeilDiv_is z 1 z (omega arith) (record {
      covers = omega (arith, linear, one-*ℤ z);
      least = λ r above. omega (arith, linear, one-*ℤ r, above);
    }))

module _ (town : Town) (rows : List Row) (node : Node) (x : ℕ → ℕ) (one : IsOnePoint town node x) where
  lo_here : (a : ℕ) → Contains (legal_arcs town) a → node.lo a ≡ x a
  lo_here a inside = one.lo a (passes_of_inside (is_legal town) (arcs town) a inside)

  hi_here : (a : ℕ) → Contains (legal_arcs town) a → node.hi a ≡ x a
  hi_here a inside = one.hi a (passes_of_inside (is_legal town) (arcs town) a inside)

  -- the bound of no multipliers is the cost of the point
  pub bare_bound : bound_value town rows node 1 [] ≡ pos (use_cost town x)
  bare_bound =
      over_one (dual_value (program town rows node) 1 [])
      ∙ bare_value (program town rows node) x lo_here hi_here
      ∙ sum_over-pos (λ a. cost_or_zero town a * x a) (legal_arcs town)

  -- which isn't below a tour that costs no more
  pub bare_high : (cost : ℕ) → cost ≤ use_cost town x → is_below (bound_value town rows node 1 []) (Some cost) ≡ false
  bare_high cost most =
      ap (λ (z : ℤ). int_lt z (pos cost)) bare_bound
      ∙ false_from_ne_true (int_lt (pos (use_cost town x)) (pos cost)) (λ below. omega (arith, linear, tests, below))

  -- where a row's multiplier alone leaves the box filled, the point meets the row
  pub row_met : (i : ℕ) → empty_value town rows node ((i, 1) ∷ []) ≤ℤ pos 0 → MeetsOver town 1 x (row_at rows i)
  row_met i low =
      let sum = row_sum (free_program town rows node) i x in
      omega (
        arith,
        linear,
        one-*ℤ (row_at rows i).right_side,
        row_value (free_program town rows node) x lo_here hi_here i (λ a. refl),
      )
