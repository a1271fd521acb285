-- The least of z x over a range, against the multipliers of the range's two lines.
use Rattle.std.proofs.Common.{◌≡◌, ℕ, ◌≤◌, Bool, true, false, cond, int_lt, ℤ, pos, ◌+ℤ◌, ◌-ℤ◌, ◌*ℤ◌, neg_ℤ, ◌≤ℤ◌, arith}
use Rattle.wrp_sums.specs.Duality.{least_term}
use Rattle.wrp_sums.proofs.Integers.{linear, +ℤ-*ℤ, neg_ℤ-*ℤ, scale_le_by, times_zero}

-- z is what is left over 0 after u from x ≥ lo and v from -x ≥ -hi
pub least_term_above : (z rest u v : ℤ) (lo hi : ℕ) → lo ≤ hi → pos 0 ≤ℤ rest → pos 0 ≤ℤ u → pos 0 ≤ℤ v → z ≡ rest +ℤ (u -ℤ v) → (u *ℤ pos lo -ℤ v *ℤ pos hi) ≤ℤ least_term z lo hi
least_term_above z rest u v lo hi fit r_above u_above v_above is = by (int_lt z (pos 0))
  where
    at : (w : ℕ) → lo ≤ w → w ≤ hi → (u *ℤ pos lo -ℤ v *ℤ pos hi) ≤ℤ (z *ℤ pos w)
    at w h i =
        rw is
        (omega (
          arith,
          linear,
          +ℤ-*ℤ rest (u -ℤ v) (pos w),
          +ℤ-*ℤ u (neg_ℤ v) (pos w),
          neg_ℤ-*ℤ v (pos w),
          scale_le_by rest (pos 0) (pos w) r_above (omega (arith, linear)),
          times_zero rest,
          scale_le_by u (pos lo) (pos w) u_above (omega (arith, linear)),
          scale_le_by v (pos w) (pos hi) v_above (omega (arith, linear)),
        ))

    by : (t : Bool) → (u *ℤ pos lo -ℤ v *ℤ pos hi) ≤ℤ (z *ℤ pos (cond t hi lo))
    by true = at hi fit (omega arith)
    by false = at lo (omega arith) fit
