-- How many nodes pass a test, where the nodes of one list are those of another and perhaps more.
use Rattle.std.proofs.Common.{◌≡◌, ℕ, zero, suc, ◌<◌, ◌≤◌, Bool, true, false, cond, List, [], ◌∷◌, length, get_or, count_by, refl, sym, ap, subst, arith}
use Rattle.wrp_laws.proofs.Thinning.{count_cons}

module _ {X : Type 0} (p q : X → Bool) (d : X) where
  one_at_most : (s t : Bool) → (s ≡ true → t ≡ true) → cond s 1 0 ≤ cond t 1 0
  one_at_most true t keeps = subst (λ (b : Bool). 1 ≤ cond b 1 0) (sym (keeps refl)) (omega arith)
  one_at_most false t keeps = omega arith

  pub count_grows : (xs ys : List X) → length xs ≤ length ys → ((i : ℕ) → i < length xs → p (get_or xs i d) ≡ true → q (get_or ys i d) ≡ true) → count_by p xs ≤ count_by q ys
  count_grows [] ys long keeps = omega arith
  count_grows (x ∷ xs) [] long keeps = absurd (omega arith)
  count_grows (x ∷ xs) (y ∷ ys) long keeps =
      omega (
        arith,
        count_cons p x xs,
        count_cons q y ys,
        one_at_most (p x) (q y) (keeps 0 (omega arith)),
        count_grows xs ys (omega arith) (λ i below. keeps (suc i) (omega arith)),
      )

  pub count_rises : (xs ys : List X) (k : ℕ) → length xs ≤ length ys → ((i : ℕ) → i < length xs → p (get_or xs i d) ≡ true → q (get_or ys i d) ≡ true) → k < length xs → p (get_or xs k d) ≡ false → q (get_or ys k d) ≡ true → count_by p xs < count_by q ys
  count_rises [] ys k long keeps there fails passes = absurd (omega arith)
  count_rises (x ∷ xs) [] k long keeps there fails passes = absurd (omega arith)
  count_rises (x ∷ xs) (y ∷ ys) zero long keeps there fails passes =
      omega (
        arith,
        count_cons p x xs,
        count_cons q y ys,
        ap {B = ℕ} (λ (b : Bool). cond b 1 0) fails,
        ap {B = ℕ} (λ (b : Bool). cond b 1 0) passes,
        count_grows xs ys (omega arith) (λ i below. keeps (suc i) (omega arith)),
      )
  count_rises (x ∷ xs) (y ∷ ys) (suc k) long keeps there fails passes =
      omega (
        arith,
        count_cons p x xs,
        count_cons q y ys,
        one_at_most (p x) (q y) (keeps 0 (omega arith)),
        count_rises xs ys k (omega arith) (λ i below. keeps (suc i) (omega arith)) (omega arith) fails passes,
      )
