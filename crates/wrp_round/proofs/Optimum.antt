-- What an optimum says of its tableau and of its point.
use Rattle.std.proofs.Common.{◌≡◌, ℕ, ◌*◌, ◌^◌, ◌≤◌, true, false, ℤ, pos, ◌≤ℤ◌, unsigned_abs, List, [], ◌∷◌, length, get_or, Contains, ap, refl, ◌∙◌, ◌⊎◌, inl, inr, arith}
use Rattle.std.specs.Prelude.{slice_index}
use Rattle.std.proofs.lemmas.Bool.{cases_Bool}
use Rattle.std.proofs.lemmas.List.Elements.{All-from_get_or}
use Rattle.std.proofs.Math.Nat.{mul-le-mul}
use Rattle.wrp_sums.proofs.Integers.{sized}
use Rattle.wrp_sums.proofs.FirstNumbers.{inside_filter}
use Rattle.wrp_town.specs.Arcs.{arcs, is_legal, legal_arcs}
use Rattle.wrp_town.proofs.TownLaws.{legal_below, few_demands}
use Rattle.wrp_rows.specs.declared.point.Point.{Point}
use Rattle.wrp_rows.specs.declared.point.Bounds.{Bounds}
use Rattle.wrp_rows.specs.Pools.{RowPool}
use Rattle.wrp_rows.specs.Points.{IsPoint, AreBounds, most_denominator}
use Rattle.wrp_rows.proofs.Kept.{in_range}
use Rattle.wrp_tableau.specs.Systems.{System, pivoted}
use Rattle.wrp_simplex.specs.Steps.{after_steps}
use Rattle.wrp_lp.specs.declared.lp.Lp.{Lp}
use Rattle.wrp_lp.specs.declared.lp.Lp.TheVariants.{Optimal, Empty, Wide, Pivots}
use Rattle.wrp_lp.specs.Programs.{IsOptimum}
use Rattle.wrp_lp.specs.Answers.{relaxed, program_of}
use Rattle.wrp_odd.specs.Points.{HasNumbers, most_number}
use Rattle.wrp_round.specs.Optima.{point_of, system_of, IsOptimumOver}

-- ---- the width

width_pivoted : (s : System) (r c : ℕ) → (pivoted s r c).width ≡ s.width
unfolding pivoted
width_pivoted s r c = refl

width_after : (s : System) (steps : List (ℕ × ℕ)) → (after_steps s steps).width ≡ s.width
width_after s [] = refl
width_after s (step ∷ steps) = width_after (pivoted s step.0 step.1) steps ∙ width_pivoted s step.0 step.1

pub optimum_width : (pool : RowPool) (chosen : List ℕ) (lp : Lp) → IsOptimumOver pool chosen lp → (system_of lp).width ≡ 2 * length pool.town.streets
optimum_width pool chosen (Optimal point mult table taken) o =
    ap (λ (s : System). s.width) o.end.1 ∙ width_after (relaxed pool chosen o.bounds) taken
optimum_width pool chosen (Empty mult taken) o = absurd o.optimal
optimum_width pool chosen (Wide taken) o = absurd o.optimal
optimum_width pool chosen (Pivots taken) o = absurd o.optimal

pub optimum_point : (pool : RowPool) (chosen : List ℕ) (lp : Lp) → IsOptimumOver pool chosen lp → IsPoint pool.town (point_of lp)
optimum_point pool chosen (Optimal point mult table taken) o = o.shows.0
optimum_point pool chosen (Empty mult taken) o = absurd o.optimal
optimum_point pool chosen (Wide taken) o = absurd o.optimal
optimum_point pool chosen (Pivots taken) o = absurd o.optimal

-- ---- the numbers

pub low_den : (z : ℤ) → pos 1 ≤ℤ z → z ≤ℤ pos most_denominator → unsigned_abs z ≤ 2 ^ 60
low_den z some low = omega (arith, sized)

within : (z : ℤ) → pos 0 ≤ℤ z → unsigned_abs z ≤ 2 ^ 72 → (pos 0 ≤ℤ z) × (z ≤ℤ pos most_number)
within z above low = (above, omega (arith, sized))

module _ (pool : RowPool) (bounds : Bounds) (are : AreBounds pool.town bounds) (point : Point) (mult : List (ℕ × ℤ)) (is : IsPoint pool.town point) (best : IsOptimum (program_of pool bounds) point mult) where
  number_low : (arc : ℕ) → unsigned_abs (get_or point.at arc (pos 0)) ≤ 2 ^ 72
  number_low arc = by (cases_Bool (is_legal pool.town arc))
    where
      by : (is_legal pool.town arc ≡ true) ⊎ (is_legal pool.town arc ≡ false) → unsigned_abs (get_or point.at arc (pos 0)) ≤ 2 ^ 72
      by (inl legal) =
          let inside : Contains (legal_arcs pool.town) arc = inside_filter (is_legal pool.town) (arcs pool.town) arc (in_range (2 * length pool.town.streets) arc (legal_below pool.town arc legal)) legal in
          let most : slice_index bounds.hi arc ≤ 4000 = omega (arith, are.low arc, few_demands pool.town) in
          let den : unsigned_abs point.den ≤ 2 ^ 60 = low_den point.den is.positive is.low in
          omega (arith, best.solution.at_most arc inside, mul-le-mul most den)
      by (inr illegal) = let none : get_or point.at arc (pos 0) ≡ pos 0 = is.illegal arc illegal in omega (arith, sized, none)

  pub numbers_within : HasNumbers point
  numbers_within = All-from_get_or (λ z. (pos 0 ≤ℤ z) × (z ≤ℤ pos most_number)) point.at (pos 0)
      (λ arc below. within (get_or point.at arc (pos 0)) (best.not_negative arc (pos 0) below) (number_low arc))

pub optimum_numbers : (pool : RowPool) (chosen : List ℕ) (lp : Lp) → IsOptimumOver pool chosen lp → HasNumbers (point_of lp)
optimum_numbers pool chosen (Optimal point mult table taken) o = numbers_within pool o.bounds o.are_bounds point mult o.shows.0 o.shows.1
optimum_numbers pool chosen (Empty mult taken) o = absurd o.optimal
optimum_numbers pool chosen (Wide taken) o = absurd o.optimal
optimum_numbers pool chosen (Pivots taken) o = absurd o.optimal
