-- A whole point that costs an open node's bound isn't left: a tour that costs no more stands.
use Rattle.std.proofs.Common.{◌≡◌, ℕ, ◌*◌, ◌/◌, ◌%◌, ◌≤◌, Bool, true, false, not, ℤ, pos, negsuc, ◌*ℤ◌, ◌≤ℤ◌, unsigned_abs, length, Option, Some, ap, refl, sym, ◌∙◌, subst, inl, inr, arith}
use Rattle.std.specs.Prelude.{slice_index_or}
use Rattle.std.proofs.Math.Nat.{div-add-mod, mul_comm, div-le_of_le-mul, mul-le-mul_right}
use Rattle.std.proofs.lemmas.List.{get_or_past}
use Rattle.std.proofs.lemmas.Bool.{and_parts, cases_lt, cases_eq}
use Rattle.wrp_sums.specs.Sums.{sum_over}
use Rattle.wrp_sums.proofs.Integers.{linear, cancel_le}
use Rattle.wrp_sums.proofs.RoundedUp.{IsCeilDiv-ceil_div}
use Rattle.wrp_sums.proofs.SumsOver.{sum_over-pos}
use Rattle.wrp_town.specs.declared.town.Town.{Town}
use Rattle.wrp_town.specs.Arcs.{is_legal, legal_arcs, demands, cost_or_zero}
use Rattle.wrp_rules.specs.Nodes.{is_below}
use Rattle.wrp_rules.specs.Lists.{is_valid}
use Rattle.wrp_laws.specs.Points.{price}
use Rattle.wrp_rows.specs.declared.point.Point.{Point}
use Rattle.wrp_odd.specs.Points.{HasNumbers, denominator_of, numbers_of}
use Rattle.wrp_progress.specs.Progress.{use_cost}
use Rattle.wrp_progress.proofs.Keeping.{lt_told}
use Rattle.wrp_conn.specs.Conns.{IsConnected}
use Rattle.wrp_point_tour.specs.PointTours.{IsTimes, IsTourPoint}
use Rattle.wrp_box.specs.Relaxing.{IsPointIn}
use Rattle.wrp_box.specs.Branching.{IsPart}
use Rattle.wrp_keep.specs.Keeps.{KeepState}
use Rattle.wrp_engine.specs.Searches.{now, at_node, IsOpenAt}
use Rattle.wrp_engine.specs.Turns.{HasTourNear}
use Rattle.wrp_engine.proofs.FewUses.{few_uses}
use Rattle.wrp_engine.proofs.Relaxing.{serving}

-- no number of a legal arc is parted
abbrev pub HasNoPart : Town → Point → Type 0
HasNoPart town point = (arc : ℕ) → IsPart town (denominator_of point) (numbers_of point) arc → ⊥

signed : (z : ℤ) → pos 0 ≤ℤ z → z ≡ pos (unsigned_abs z)
signed (pos n) low = refl
signed (negsuc n) low = absurd (omega (arith, low))

number_is : (point : Point) → HasNumbers point → (arc : ℕ) → slice_index_or point.at arc (pos 0) ≡ pos (numbers_of point arc)
number_is point has arc = elim (cases_lt arc (length point.at)) [
  | inl below ↦ signed (slice_index_or point.at arc (pos 0)) (has arc (pos 0) below).0
  | inr past ↦ let none = get_or_past point.at arc (pos 0) past in none ∙ sym (ap (λ (z : ℤ). pos (unsigned_abs z)) none)
]

-- a whole number is its quotient times the denominator
times_quotient : (n den : ℕ) → n % den ≡ 0 → n ≡ (n / den) * den
times_quotient n den none = omega (arith, div-add-mod n den, mul_comm den (n / den), none)

module _ (keep : KeepState) (node : ℕ) (point : Point) (valid : is_valid keep.town keep.records ≡ true) (within : IsPointIn keep.town (now keep) (at_node keep node) point) where
  abbrev den : ℕ
  den = denominator_of point

  abbrev x : ℕ → ℕ
  x = numbers_of point

  module _ (whole : HasNoPart keep.town point) where
    legal_whole : (arc : ℕ) → is_legal keep.town arc ≡ true → x arc % den ≡ 0
    legal_whole arc legal = elim (cases_eq (x arc % den) 0) [
      | inl none ↦ none
      | inr part ↦ absurd (whole arc (record { legal = legal; part = part }))
    ]

    few_times : (arc : ℕ) → is_legal keep.town arc ≡ true → x arc / den ≤ length (demands keep.town)
    few_times arc legal =
        div-le_of_le-mul den
        (omega (
          arith,
          within.of_node.at_most arc legal,
          mul-le-mul_right den (few_uses keep.town keep.records valid node arc),
          mul_comm den (length (demands keep.town)),
        ))

    times : (arc : ℕ) (t : Bool) → is_legal keep.town arc ≡ t → (k : ℕ) × (k ≤ length (demands keep.town)) × IsTimes point arc k
    times arc true legal = (
      x arc / den,
      few_times arc legal,
      number_is point within.numbers arc ∙ ap pos (times_quotient (x arc) den (legal_whole arc legal)),
    )
    times arc false off = (0, omega arith, within.is.illegal arc off ∙ ap pos (omega arith))

    pub tour_point : IsConnected keep.town point → IsTourPoint keep.town point
    tour_point connected =
        let serves = serving keep.town keep.records (at_node keep node) point within in
        record { whole = λ arc. times arc (is_legal keep.town arc) refl; balanced = serves.balanced; services = serves.services; connected = connected }

  -- a tour that costs no more than the point costs no more than its price
  below_price : (upper : ℕ) → upper * den ≤ use_cost keep.town x → pos upper ≤ℤ price keep.town den x
  below_price upper low =
      let sum = sum_over (λ arc. pos (cost_or_zero keep.town arc * x arc)) (legal_arcs keep.town) in
      let product : pos (den * upper) ≡ pos den *ℤ pos upper = refl in
      cancel_le den (pos upper) (price keep.town den x) within.of_node.positive
      (omega (
        arith,
        linear,
        product,
        low,
        sum_over-pos (λ arc. cost_or_zero keep.town arc * x arc) (legal_arcs keep.town),
        (IsCeilDiv-ceil_div sum den within.of_node.positive).covers,
      ))

  pub not_whole : IsOpenAt keep node → HasTourNear keep point → IsConnected keep.town point → price keep.town den x ≡ (at_node keep node).bound → HasNoPart keep.town point → ⊥
  not_whole opened near connected costs whole =
      let (upper, stands, low) = near (tour_point whole connected) in
      let below : is_below (at_node keep node).bound (Some upper) ≡ true =
      subst (λ (u : Option ℕ). is_below (at_node keep node).bound u ≡ true) stands
      (and_parts (not (at_node keep node).is_closed) (is_below (at_node keep node).bound (now keep).upper) opened.told).1 in
      omega (arith, linear, lt_told (at_node keep node).bound (pos upper) below, below_price upper low, costs)
