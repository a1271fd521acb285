-- The order of candidates, and the best of a family, as a loop finds it.
use Rattle.std.proofs.Common.{◌≡◌, ℕ, ◌+◌, ◌<◌, ◌≤◌, Bool, Option, None, Some, ℤ, pos, negsuc, ◌*ℤ◌, ◌≤ℤ◌, ◌<ℤ◌, ap, refl, sym, ◌∙◌, arith, subst, eq-or-lt_of_le, inl, inr, ◌⊎◌}
use Rattle.std.proofs.Math.IntN.{*ℤ_comm}
use Rattle.wrp_sums.proofs.Integers.{linear, *ℤ_left_comm, scale_le_by, cancel_le, at_most_refl}
use Rattle.wrp_simplex.specs.declared.candidate.Candidate.{Candidate}
use Rattle.wrp_simplex.specs.Candidates.{IsNoGreater, IsNoLater, IsFirstOf, IsBest}

-- x / p ≤ y / q and y / q ≤ z / s give x / p ≤ z / s
fraction_trans : (x y z p q s : ℤ) → pos 0 <ℤ p → pos 0 <ℤ q → pos 0 <ℤ s → (x *ℤ q) ≤ℤ (y *ℤ p) → (y *ℤ s) ≤ℤ (z *ℤ q) → (x *ℤ s) ≤ℤ (z *ℤ p)
fraction_trans x y z p (negsuc q) s p_above q_above s_above h i = absurd (omega (arith, linear))
fraction_trans x y z p (pos q) s p_above q_above s_above h i =
    cancel_le q (x *ℤ s) (z *ℤ p) (omega (arith, linear))
    (omega (
      arith,
      linear,
      scale_le_by s (x *ℤ pos q) (y *ℤ p) (omega (arith, linear)) h,
      scale_le_by p (y *ℤ s) (z *ℤ pos q) (omega (arith, linear)) i,
      *ℤ_left_comm s x (pos q),
      ap (λ (w : ℤ). x *ℤ w) (*ℤ_comm s (pos q)),
      *ℤ_left_comm x (pos q) s,
      *ℤ_left_comm s y p,
      *ℤ_left_comm p y s,
      ap (λ (w : ℤ). y *ℤ w) (*ℤ_comm s p),
      *ℤ_left_comm p z (pos q),
      ap (λ (w : ℤ). z *ℤ w) (*ℤ_comm p (pos q)),
      *ℤ_left_comm z (pos q) p,
    ))

pub no_greater_trans : (a b c : Candidate) → pos 0 <ℤ a.denominator → pos 0 <ℤ b.denominator → pos 0 <ℤ c.denominator → IsNoGreater a b → IsNoGreater b c → IsNoGreater a c
no_greater_trans a b c h i k less more = fraction_trans a.numerator b.numerator c.numerator a.denominator b.denominator c.denominator h i k less more

pub no_later_itself : (t : Bool) (a : Candidate) → IsNoLater t a a
no_later_itself t a = record { least = λ counts. at_most_refl (a.numerator *ℤ a.denominator); first = λ h. omega arith }

pub no_later_trans : (t : Bool) (a b c : Candidate) → pos 0 <ℤ a.denominator → pos 0 <ℤ b.denominator → pos 0 <ℤ c.denominator → IsNoLater t a b → IsNoLater t b c → IsNoLater t a c
no_later_trans t a b c h i k less more = record {
  least = λ counts. no_greater_trans a b c h i k (less.least counts) (more.least counts);
  first = λ back.
      let one = less.first (λ counts. no_greater_trans b c a i k h (more.least counts) (back counts)) in
      let two = more.first (λ counts. no_greater_trans c a b k h i (back counts) (less.least counts)) in
      omega arith;
}

-- ---- the best of one more
module _ (t : Bool) (C : ℕ → Type 0) (f : ℕ → Candidate) (n : ℕ) (sized : (k : ℕ) → C k → pos 0 <ℤ (f k).denominator) where
  cases : (k : ℕ) → k < n + 1 → (k ≡ n) ⊎ (k < n)
  cases k h = eq-or-lt_of_le (let b : k ≤ n = omega arith in b)

  skipped : (best : Option Candidate) → IsBest t C f n best → (C n → ⊥) → IsBest t C f (n + 1) best
  skipped None is not = record {
    none = λ e k h eligible. elim (cases k h) [ inl same ↦ not (subst C same eligible) | inr below ↦ is.none refl k below eligible ];
    some = tt;
  }
  skipped (Some a) is not = record {
    none = λ e. absurd (cc);
    some = record {
      at = is.some.at;
      below = let h = is.some.below in omega arith;
      eligible = is.some.eligible;
      is = is.some.is;
      first = λ k h eligible. elim (cases k h) [ inl same ↦ absurd (not (subst C same eligible)) | inr below ↦ is.some.first k below eligible ];
    };
  }

  begun : IsBest t C f n None → C n → IsBest t C f (n + 1) (Some (f n))
  begun is eligible = record {
    none = λ e. absurd (cc);
    some = record {
      at = n;
      below = omega arith;
      eligible = eligible;
      is = refl;
      first = λ k h other. elim (cases k h) [
        | inl same ↦ subst (λ m. IsNoLater t (f n) (f m)) (sym same) (no_later_itself t (f n))
        | inr below ↦ absurd (is.none refl k below other)
      ];
    };
  }

  kept : (a : Candidate) → IsBest t C f n (Some a) → IsNoLater t a (f n) → IsBest t C f (n + 1) (Some a)
  kept a is less = record {
    none = λ e. absurd (cc);
    some = record {
      at = is.some.at;
      below = let h = is.some.below in omega arith;
      eligible = is.some.eligible;
      is = is.some.is;
      first = λ k h other. elim (cases k h) [ inl same ↦ subst (λ m. IsNoLater t a (f m)) (sym same) less | inr below ↦ is.some.first k below other ];
    };
  }

  replaced : (a : Candidate) → IsBest t C f n (Some a) → C n → IsNoLater t (f n) a → IsBest t C f (n + 1) (Some (f n))
  replaced a is eligible less = record {
    none = λ e. absurd (cc);
    some = record {
      at = n;
      below = omega arith;
      eligible = eligible;
      is = refl;
      first = λ k h other. elim (cases k h) [
        | inl same ↦ subst (λ m. IsNoLater t (f n) (f m)) (sym same) (no_later_itself t (f n))
        | inr below ↦ no_later_trans t (f n) a (f k) (sized n eligible) (subst (λ b. pos 0 <ℤ b.denominator) (sym is.some.is) (sized is.some.at is.some.eligible)) (sized k other) less (is.some.first k below other)
      ];
    };
  }

  -- the next is a candidate exactly where it is eligible
  pub best_none : (best result : Option Candidate) → IsBest t C f n best → (C n → ⊥) → IsFirstOf t best None result → IsBest t C f (n + 1) result
  best_none None result is not e = subst (IsBest t C f (n + 1)) (sym e) (skipped None is not)
  best_none (Some a) result is not e = subst (IsBest t C f (n + 1)) (sym e) (skipped (Some a) is not)

  pub best_some : (best : Option Candidate) (next : Candidate) (result : Option Candidate) → IsBest t C f n best → C n → next ≡ f n → IsFirstOf t best (Some next) result → IsBest t C f (n + 1) result
  best_some None next result is eligible same e = subst (IsBest t C f (n + 1)) (sym (e ∙ ap Some same)) (begun is eligible)
  best_some (Some a) next result is eligible same e = elim e [
    | inl h ↦ subst (IsBest t C f (n + 1)) (sym h.0) (kept a is (subst (λ b. IsNoLater t a b) same h.1))
    | inr h ↦ subst (IsBest t C f (n + 1)) (sym (h.0 ∙ ap Some same)) (replaced a is eligible (subst (λ b. IsNoLater t b a) same h.1))
  ]

pub best_start : (t : Bool) (C : ℕ → Type 0) (f : ℕ → Candidate) → IsBest t C f 0 None
best_start t C f = record { none = λ e k h eligible. absurd (omega arith); some = tt }
