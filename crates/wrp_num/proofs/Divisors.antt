-- Greatest common divisors.
use Rattle.std.proofs.Common.{◌≡◌, ℕ, subst, sym}
use Rattle.std.proofs.Math.Nat.{eq-zero_of_zero-dvd}
use Rattle.std.proofs.lemmas.Nat.Gcd.{dvd_refl}
use Rattle.std.specs.Int.{IsGcd, ◌∣◌}

-- that of 0 and 0 is 0, which divides both
pub gcd_of_zeros : (m n g : ℕ) → m ≡ 0 → n ≡ 0 → IsGcd m n g → g ≡ 0
gcd_of_zeros m n g zero_m zero_n is =
    let both : (k : ℕ) → k ≡ 0 → 0 ∣ k = λ k e. subst (λ j. 0 ∣ j) (sym e) (dvd_refl 0) in
    eq-zero_of_zero-dvd (is.2 0 (both m zero_m) (both n zero_n))
