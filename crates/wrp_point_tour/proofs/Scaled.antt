-- Numbers that are counts times a denominator: the rows that they meet, the counts meet.
use Rattle.std.proofs.Common.{◌≡◌, ℕ, ◌*◌, ◌<◌, ◌≤◌, ℤ, pos, ◌*ℤ◌, ◌≤ℤ◌, List, [], ◌∷◌, ◌++◌, length, get_or, unsigned_abs, ap, sym, ◌∙◌, subst, inl, inr, arith, mul-le-mul_left}
use Rattle.std.specs.Prelude.{slice_index}
use Rattle.std.proofs.lemmas.Bool.{cases_lt}
use Rattle.std.proofs.lemmas.List.{get_or_past, get_or_append_left, get_or_push, length_push}
use Rattle.std.proofs.Math.Nat.{mul_comm}
use Rattle.wrp_sums.proofs.Integers.{linear, *ℤ_left_comm, one-*ℤ, times_zero, cancel_le, at_most_antisym}
use Rattle.wrp_sums.proofs.SumsOver.{sum_over-ext, sum_over-*ℤ}
use Rattle.wrp_town.specs.declared.town.Town.{Town}
use Rattle.wrp_town.specs.Arcs.{legal_arcs, demands}
use Rattle.wrp_rules.specs.Rows.{Row, balance_row, service_row, conn_row}
use Rattle.wrp_laws.specs.Meets.{sum_of_counts}
use Rattle.wrp_laws.specs.Points.{MeetsOver}
use Rattle.wrp_webs.specs.TownWebs.{IsBalanced}
use Rattle.wrp_rows.specs.declared.point.Point.{Point}
use Rattle.wrp_rows.specs.Points.{IsPoint}
use Rattle.wrp_euler.specs.Circuits.{AreCounts}
use Rattle.wrp_odd.specs.Points.{numbers_of}
use Rattle.wrp_point_tour.specs.PointTours.{IsTimes, IsTourPoint}
use Rattle.wrp_point_tour.specs.Counts.{AreTimes, AreFew, AreTourCounts}
use Rattle.wrp_point_tour.proofs.Times.{size_positive}

module _ (town : Town) (e : ℕ) (x c : ℕ → ℕ) (positive : 0 < e) (times : (arc : ℕ) → x arc ≡ e * c arc) where
  scaled_sum : (f : ℕ → ℤ) → sum_of_counts town x f ≡ pos e *ℤ sum_of_counts town c f
  scaled_sum f =
      sum_over-ext (λ a. f a *ℤ pos (x a)) (λ a. pos e *ℤ (f a *ℤ pos (c a))) (λ a. ap (λ (n : ℕ). f a *ℤ pos n) (times a) ∙ *ℤ_left_comm (f a) (pos e) (pos (c a))) (legal_arcs town)
      ∙ sum_over-*ℤ (pos e) (λ a. f a *ℤ pos (c a)) (legal_arcs town)

  balanced_counts : IsBalanced town x → IsBalanced town c
  balanced_counts balanced j below =
      let sum = sum_of_counts town c (balance_row town j).coef in
      let none : pos e *ℤ sum ≡ pos e *ℤ pos 0 = sym (scaled_sum (balance_row town j).coef) ∙ balanced j below ∙ sym (times_zero (pos e)) in
      at_most_antisym sum (pos 0) (cancel_le e sum (pos 0) positive (omega (arith, linear, none))) (cancel_le e (pos 0) sum positive (omega (arith, linear, none)))

  met_by_counts : (row : Row) → MeetsOver town e x row → MeetsOver town 1 c row
  met_by_counts row met =
      subst (λ (z : ℤ). z ≤ℤ sum_of_counts town c row.coef) (sym (one-*ℤ row.right_side))
      (cancel_le e row.right_side (sum_of_counts town c row.coef) positive (subst (λ (z : ℤ). (pos e *ℤ row.right_side) ≤ℤ z) (scaled_sum row.coef) met))

-- one count more
pub times_push : (point : Point) (most : ℕ) (counts : List ℕ) (i k : ℕ) → length counts ≡ i → k ≤ most → IsTimes point i k → AreTimes point most counts → AreTimes point most (counts ++ k ∷ [])
times_push point most counts i k long few is are arc below =
    elim (cases_lt arc (length counts)) [
      | inl less ↦ (
          let same = get_or_append_left counts (k ∷ []) 0 arc less in
          (omega (arith, same, (are arc less).0), subst (λ n. IsTimes point arc n) (sym same) (are arc less).1)
          )
      | inr past ↦ (
          let here : arc ≡ i = omega (arith, length_push counts k) in
          let same : get_or (counts ++ k ∷ []) arc 0 ≡ k = get_or_push counts k 0 arc (long ∙ sym here) in
          (omega (arith, same), subst (λ n. IsTimes point arc n) (sym same) (subst (λ a. IsTimes point a k) (sym here) is))
          )
    ]

none_from_product : (k e : ℕ) → 0 < e → k * e ≡ 0 → k ≡ 0
none_from_product k e positive none =
    let more : k * 1 ≤ k * e = mul-le-mul_left k positive in
    omega arith

module _ (town : Town) (point : Point) (most : ℕ) (counts : List ℕ) (long : length counts ≡ length point.at) (are : AreTimes point most counts) where
  -- past the last arc, too
  pub times_all : (arc : ℕ) → IsTimes point arc (slice_index counts arc)
  times_all arc =
      let zero : pos 0 ≡ pos (0 * unsigned_abs point.den) = ap pos (omega arith) in
      elim (cases_lt arc (length counts)) [
        | inl below ↦ (are arc below).1
        | inr past ↦ get_or_past point.at arc (pos 0) (omega arith) ∙ zero ∙ sym (ap (λ (k : ℕ). pos (k * unsigned_abs point.den)) (get_or_past counts arc 0 past))
      ]

  pub number_is : (arc : ℕ) → numbers_of point arc ≡ slice_index counts arc * unsigned_abs point.den
  number_is arc = ap unsigned_abs (times_all arc)

  pub times_are_counts : IsPoint town point → AreCounts town counts
  times_are_counts is = record {
    each = long ∙ is.long;
    legal = λ arc illegal. none_from_product (slice_index counts arc) (unsigned_abs point.den) (size_positive point.den is.positive) (sym (number_is arc) ∙ ap unsigned_abs (is.illegal arc illegal));
  }

  pub times_are_few : most ≡ length (demands town) → AreFew town counts
  times_are_few is arc =
      elim (cases_lt arc (length counts)) [
        | inl below ↦ omega (arith, (are arc below).0)
        | inr past ↦ omega (arith, get_or_past counts arc 0 past)
      ]

  -- the counts of a tour's point are those of a tour
  pub tour_counts : 0 < unsigned_abs point.den → IsTourPoint town point → AreTourCounts town counts
  tour_counts positive is =
      let e = unsigned_abs point.den in
      let times : (arc : ℕ) → numbers_of point arc ≡ e * slice_index counts arc = λ arc. number_is arc ∙ mul_comm (slice_index counts arc) e in
      record {
        balanced = balanced_counts town e (numbers_of point) (slice_index counts) positive times is.balanced;
        services = λ demand inside. met_by_counts town e (numbers_of point) (slice_index counts) positive times (service_row demand) (is.services demand inside);
        connected = λ r1 r2 set parted uncrossed. met_by_counts town e (numbers_of point) (slice_index counts) positive times (conn_row town set) (is.connected r1 r2 set parted uncrossed);
      }
