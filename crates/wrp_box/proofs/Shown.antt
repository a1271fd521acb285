-- What is shown of an answer is exact, or nothing of the answer fits a record.
use Rattle.std.proofs.Common.{◌≡◌, ℕ, ◌^◌, ◌<◌, ℤ, pos, List, ◌⊎◌, inl, inr, Some, ap, refl, sym, ◌∙◌, subst}
use Rattle.wrp_rules.specs.declared.record.Record.TheVariants as records
use Rattle.wrp_rows.specs.declared.point.Point.{Point}
use Rattle.wrp_tableau.specs.declared.tableau.Tableau.{Tableau}
use Rattle.wrp_lp.specs.declared.lp.Lp.{Lp}
use Rattle.wrp_lp.specs.declared.lp.Lp.TheVariants.{Optimal, Empty}
use Rattle.wrp_bound.specs.declared.mult.Mult.{Mult}
use Rattle.wrp_bound.specs.Mults.{without_zeros, IsInRanges, FitABound, IsSame}
use Rattle.wrp_odd.specs.Points.{denominator_of}
use Rattle.wrp_box.specs.Records.{IsExact, FitsNone, IsShown}
use Rattle.wrp_box.proofs.Fitting.{fits_or_not}
use Rattle.wrp_box.proofs.Writable.{bound_written, empty_written}

module _ (node : ℕ) (small : node < 2 ^ 63) (m : Mult) (ranges : IsInRanges m) where
  module _ (point : Point) (mult : List (ℕ × ℤ)) (table : Tableau) (taken : List (ℕ × ℕ)) (exact : FitABound point.den mult → IsSame point.den mult m) where
    exact_bound : IsSame point.den mult m → records.Bound node m.den m.mult ≡ records.Bound node (denominator_of point) (without_zeros mult)
    exact_bound same =
        ap (λ (den : ℕ). records.Bound node den m.mult) same.denominator
        ∙ ap (records.Bound node (denominator_of point)) same.multipliers

    bound_or_none : IsExact node (Optimal point mult table taken) (records.Bound node m.den m.mult) ⊎ FitsNone (Optimal point mult table taken)
    bound_or_none = elim (fits_or_not point.den mult) [
      | inl fit ↦ inl (exact_bound (exact fit))
      | inr none ↦ inr none
    ]

    pub bound_shown : (lp : Lp) → lp ≡ Optimal point mult table taken → IsShown node lp (Some (records.Bound node m.den m.mult))
    bound_shown lp is =
        subst (λ (a : Lp). IsShown node a (Some (records.Bound node m.den m.mult))) (sym is)
        (record { shows = refl; writable = bound_written node small m ranges }, bound_or_none)

  module _ (mult : List (ℕ × ℤ)) (taken : List (ℕ × ℕ)) (exact : FitABound (pos 1) mult → IsSame (pos 1) mult m) where
    empty_or_none : IsExact node (Empty mult taken) (records.Empty node m.mult) ⊎ FitsNone (Empty mult taken)
    empty_or_none = elim (fits_or_not (pos 1) mult) [
      | inl fit ↦ inl (ap (records.Empty node) (exact fit).multipliers)
      | inr none ↦ inr none
    ]

    pub empty_shown : (lp : Lp) → lp ≡ Empty mult taken → IsShown node lp (Some (records.Empty node m.mult))
    empty_shown lp is =
        subst (λ (a : Lp). IsShown node a (Some (records.Empty node m.mult))) (sym is)
        (record { shows = refl; writable = empty_written node small m ranges }, empty_or_none)
