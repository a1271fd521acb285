-- Division that leaves no rest.
use Rattle.std.proofs.Common.{◌≡◌, ◌≢◌, ℕ, zero, suc, ◌*◌, ◌%◌, unsigned_abs, ℤ, pos, negsuc, ◌*ℤ◌, int_div, ap, refl, sym, ◌∙◌, arith, subst}
use Rattle.std.proofs.lemmas.Int.{ints, quot-rem, unsigned_abs-mul}
use Rattle.std.proofs.lemmas.Nat.Gcd.{mod-eq-zero_of_dvd}
use Rattle.std.specs.Int.{◌∣◌}
use Rattle.wrp_sums.proofs.Integers.{linear, *ℤ_assoc, *ℤ_left_comm, neg_ℤ-*ℤ}
use Rattle.wrp_tableau.proofs.Differences.{cancel_same}
use Rattle.wrp_tableau.proofs.Factors.{exact}
use Rattle.wrp_lp.specs.Reading.{IsWhole, times}

exact_by : (q z : ℤ) → unsigned_abs q ∣ unsigned_abs z → q *ℤ int_div z q ≡ z
exact_by (pos g) z h = exact g z h
exact_by (negsuc g) (pos a) h = let e : a % suc g ≡ 0 = mod-eq-zero_of_dvd (suc g) h in omega (arith, ints, quot-rem (pos a) (negsuc g))
exact_by (negsuc g) (negsuc a) h = let e : suc a % suc g ≡ 0 = mod-eq-zero_of_dvd (suc g) h in omega (arith, ints, quot-rem (negsuc a) (negsuc g))

-- den times p over q, times q, is den times p
pub times_is : (den : ℕ) (p q : ℤ) → IsWhole den p q → q *ℤ times den p q ≡ pos den *ℤ p
times_is den p q whole = exact_by q (pos den *ℤ p) (subst (λ n. unsigned_abs q ∣ n) (sym (unsigned_abs-mul (pos den) p)) whole)

-- a factor that isn't 0, cancelled
pub cancel_factor : (q a b : ℤ) → q ≢ pos 0 → q *ℤ a ≡ q *ℤ b → a ≡ b
cancel_factor (pos zero) a b some e = absurd (some refl)
cancel_factor (pos (suc n)) a b some e = cancel_same (suc n) a b (omega arith) e
cancel_factor (negsuc n) a b some e =
    cancel_same (suc n) a b (omega arith) (omega (arith, linear, e, neg_ℤ-*ℤ (pos (suc n)) a, neg_ℤ-*ℤ (pos (suc n)) b))

-- a multiple of the denominator gives that multiple of the number
pub times_scaled : (k den : ℕ) (p q : ℤ) → q ≢ pos 0 → IsWhole den p q → IsWhole (k * den) p q → times (k * den) p q ≡ pos k *ℤ times den p q
times_scaled k den p q some whole whole_more =
    cancel_factor q (times (k * den) p q) (pos k *ℤ times den p q) some
    (times_is (k * den) p q whole_more
    ∙ *ℤ_assoc (pos k) (pos den) p
    ∙ ap (λ (z : ℤ). pos k *ℤ z) (sym (times_is den p q whole))
    ∙ *ℤ_left_comm (pos k) q (times den p q))
