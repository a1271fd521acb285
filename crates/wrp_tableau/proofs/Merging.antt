-- The steps of a merge of two sparse rows.
use Rattle.std.proofs.Common.{◌≡◌, ◌≢◌, ℕ, ◌+◌, ◌-◌, ◌<◌, ◌≤◌, ◌^◌, ◌==◌, cond, Bool, true, false, unsigned_abs, ℤ, pos, ◌+ℤ◌, ◌*ℤ◌, List, [], ◌∷◌, ◌++◌, length, take, get_or, ap, sym, ◌∙◌, arith, subst, FitsSigned, ◌⊎◌, inl, inr}
use Rattle.std.specs.Int.{w128}
use Rattle.std.proofs.lemmas.Int.{to_z-of_z, fits_signed_mul, fits_signed_from_abs}
use Rattle.std.proofs.lemmas.List.Elements.{All-push, All-get_or, All-from_get_or}
use Rattle.std.proofs.lemmas.List.{get_or_default}
use Rattle.std.proofs.lemmas.List.Quantifiers.{all_pairs_push}
use mir.Val.{to_z, of_z}
use Rattle.wrp_sums.specs.Sums.{coef_at}
use Rattle.wrp_sums.proofs.Integers.{linear, *ℤ-+ℤ, size_of_product, size_of_sum, times_zero}
use Rattle.wrp_sums.proofs.SumsOver.{sum_over-push}
use Rattle.wrp_tableau.specs.Sparse.{IsSparse}

pub product_value : (a x : ℤ) → FitsSigned w128 a → FitsSigned w128 x → unsigned_abs a ≤ 2 ^ 60 → unsigned_abs x ≤ 2 ^ 60 → to_z w128 (of_z w128 (to_z w128 (of_z w128 a) *ℤ to_z w128 (of_z w128 x))) ≡ a *ℤ x
product_value a x fa fx ha hx = rw (to_z-of_z w128 a fa, to_z-of_z w128 x fx) (to_z-of_z w128 (a *ℤ x) (fits_signed_mul w128 a x (2 ^ 60) (2 ^ 60) ha hx (omega arith)))

pub product_small : (a x : ℤ) → unsigned_abs a ≤ 2 ^ 60 → unsigned_abs x ≤ 2 ^ 60 → unsigned_abs (a *ℤ x) ≤ 2 ^ 120
product_small a x ha hx = let s = size_of_product a x (2 ^ 60) (2 ^ 60) ha hx in omega arith

-- the coefficient after a step, where the row grows by a term
pub merge_coef : (a b t x y x' y' l r entry : ℤ) (q : Bool) → t ≡ a *ℤ x +ℤ b *ℤ y → entry ≡ a *ℤ l +ℤ b *ℤ r → x' ≡ x +ℤ cond q l (pos 0) → y' ≡ y +ℤ cond q r (pos 0) → t +ℤ cond q entry (pos 0) ≡ a *ℤ x' +ℤ b *ℤ y'
merge_coef a b t x y x' y' l r entry true h e hx hy =
    omega (arith, linear, ap (λ (z : ℤ). a *ℤ z) hx, ap (λ (z : ℤ). b *ℤ z) hy, *ℤ-+ℤ a x l, *ℤ-+ℤ b y r)
merge_coef a b t x y x' y' l r entry false h e hx hy =
    omega (arith, linear, ap (λ (z : ℤ). a *ℤ z) hx, ap (λ (z : ℤ). b *ℤ z) hy, *ℤ-+ℤ a x (pos 0), *ℤ-+ℤ b y (pos 0), times_zero a, times_zero b)

-- and where its entry is 0, so that it doesn't
pub merge_coef_zero : (a b t x y x' y' l r entry : ℤ) (q : Bool) → entry ≡ pos 0 → t ≡ a *ℤ x +ℤ b *ℤ y → entry ≡ a *ℤ l +ℤ b *ℤ r → x' ≡ x +ℤ cond q l (pos 0) → y' ≡ y +ℤ cond q r (pos 0) → t ≡ a *ℤ x' +ℤ b *ℤ y'
merge_coef_zero a b t x y x' y' l r entry true none h e hx hy = omega (arith, linear, merge_coef a b t x y x' y' l r entry true h e hx hy)
merge_coef_zero a b t x y x' y' l r entry false none h e hx hy = omega (arith, linear, merge_coef a b t x y x' y' l r entry false h e hx hy)

pub coef_at-push : (terms : List (ℕ × ℤ)) (n : ℕ) (z : ℤ) (c : ℕ) → coef_at (terms ++ (n, z) ∷ []) c ≡ coef_at terms c +ℤ cond (n == c) z (pos 0)
coef_at-push terms n z c = sum_over-push (λ t. cond (t.0 == c) t.1 (pos 0)) terms (n, z)

pub sparse-push : (limit : ℕ) (terms : List (ℕ × ℤ)) (n : ℕ) (z : ℤ) → IsSparse limit terms → ((k : ℕ) → k < length terms → (get_or terms k (0, pos 0)).0 < n) → z ≢ pos 0 → unsigned_abs z ≤ limit → IsSparse limit (terms ++ (n, z) ∷ [])
sparse-push limit terms n z s below some small = record {
  ascending = all_pairs_push (λ s t. s.0 < t.0) terms (n, z) s.ascending (λ k d h. subst (λ t. t.0 < n) (get_or_default terms k (0, pos 0) d h) (below k h));
  some = All-push (λ t. t.1 ≢ pos 0) terms (n, z) s.some some;
  small = All-push (λ t. unsigned_abs t.1 ≤ limit) terms (n, z) s.small small;
}

-- what is below n before a push of n is below what is above n
pub below_push : (terms : List (ℕ × ℤ)) (n : ℕ) (z : ℤ) (m : ℕ) → ((k : ℕ) → k < length terms → (get_or terms k (0, pos 0)).0 < n) → n < m → (k : ℕ) → k < length (terms ++ (n, z) ∷ []) → (get_or (terms ++ (n, z) ∷ []) k (0, pos 0)).0 < m
below_push terms n z m below above k h =
    All-get_or (λ t. t.0 < m) (terms ++ (n, z) ∷ []) k (0, pos 0) h
    (All-push (λ t. t.0 < m) terms (n, z) (All-from_get_or (λ t. t.0 < m) terms (0, pos 0) (λ i p. let b : (get_or terms i (0, pos 0)).0 < n = below i p in omega arith)) above)

-- what the loop keeps: i and j terms of the rows are merged
pub record Merging (a b : ℤ) (xs ys : List (ℕ × ℤ)) (i j : ℕ) (terms : List (ℕ × ℤ)) : Type 0 where
  pub place_left : i ≤ length xs
  pub place_right : j ≤ length ys
  pub coefs : (c : ℕ) → coef_at terms c ≡ a *ℤ coef_at (take i xs) c +ℤ b *ℤ coef_at (take j ys) c
  pub sparse : IsSparse (2 ^ 121) terms
  pub left : (k : ℕ) → k < length terms → i < length xs → (get_or terms k (0, pos 0)).0 < (get_or xs i (0, pos 0)).0
  pub right : (k : ℕ) → k < length terms → j < length ys → (get_or terms k (0, pos 0)).0 < (get_or ys j (0, pos 0)).0

-- one row's part of a step: the term at n, if there, with the entry l, and the next place
pub record Takes (xs : List (ℕ × ℤ)) (i n : ℕ) (l : ℤ) (next : ℕ) : Type 0 where
  pub place : next ≤ length xs
  pub later : i ≤ next
  pub took : i < length xs → (get_or xs i (0, pos 0)).0 ≡ n → next ≡ i + 1
  pub coef : (c : ℕ) → coef_at (take next xs) c ≡ coef_at (take i xs) c +ℤ cond (n == c) l (pos 0)
  pub after : next < length xs → n < (get_or xs next (0, pos 0)).0

-- n is the next number of a row
abbrev pub IsAt : List (ℕ × ℤ) → ℕ → ℕ → Type 0
IsAt xs i n = (i < length xs) × (n ≡ (get_or xs i (0, pos 0)).0)

module _ (a b : ℤ) (xs ys : List (ℕ × ℤ)) (i j : ℕ) (terms : List (ℕ × ℤ)) (so_far : Merging a b xs ys i j terms) (n next_i next_j : ℕ) (l r z : ℤ) (from_left : Takes xs i n l next_i) (from_right : Takes ys j n r next_j) (there : IsAt xs i n ⊎ IsAt ys j n) (is : z ≡ a *ℤ l +ℤ b *ℤ r) where
  below : (k : ℕ) → k < length terms → (get_or terms k (0, pos 0)).0 < n
  below k h = elim there [ inl at ↦ rw at.1 (so_far.left k h at.0) | inr at ↦ rw at.1 (so_far.right k h at.0) ]

  pub merging_push : z ≢ pos 0 → unsigned_abs z ≤ 2 ^ 121 → Merging a b xs ys next_i next_j (terms ++ (n, z) ∷ [])
  merging_push some small = record {
    place_left = from_left.place;
    place_right = from_right.place;
    coefs = λ c. coef_at-push terms n z c
        ∙ merge_coef a b (coef_at terms c) (coef_at (take i xs) c) (coef_at (take j ys) c) (coef_at (take next_i xs) c) (coef_at (take next_j ys) c) l r z (n == c) (so_far.coefs c) is (from_left.coef c) (from_right.coef c);
    sparse = sparse-push (2 ^ 121) terms n z so_far.sparse below some small;
    left = λ k h more. below_push terms n z (get_or xs next_i (0, pos 0)).0 below (from_left.after more) k h;
    right = λ k h more. below_push terms n z (get_or ys next_j (0, pos 0)).0 below (from_right.after more) k h;
  }

  pub merging_none : z ≡ pos 0 → Merging a b xs ys next_i next_j terms
  merging_none none = record {
    place_left = from_left.place;
    place_right = from_right.place;
    coefs = λ c. merge_coef_zero a b (coef_at terms c) (coef_at (take i xs) c) (coef_at (take j ys) c) (coef_at (take next_i xs) c) (coef_at (take next_j ys) c) l r z (n == c) none (so_far.coefs c) is (from_left.coef c) (from_right.coef c);
    sparse = so_far.sparse;
    left = λ k h more. let u = below k h in let v = from_left.after more in omega arith;
    right = λ k h more. let u = below k h in let v = from_right.after more in omega arith;
  }

  pub merging_smaller : (length xs - next_i) + (length ys - next_j) < (length xs - i) + (length ys - j)
  merging_smaller =
      let u = from_left.later in let v = from_left.place in let w = from_right.later in let x = from_right.place in
      elim there [
        | inl at ↦ (let e = from_left.took at.0 (sym at.1) in let f = at.0 in omega arith)
        | inr at ↦ (let e = from_right.took at.0 (sym at.1) in let f = at.0 in omega arith)
      ]

pub sum_value : (x y : ℤ) → unsigned_abs x ≤ 2 ^ 120 → unsigned_abs y ≤ 2 ^ 120 → to_z w128 (of_z w128 (to_z w128 (of_z w128 x) +ℤ to_z w128 (of_z w128 y))) ≡ x +ℤ y
sum_value x y hx hy =
    rw (to_z-of_z w128 x (fits_signed_from_abs w128 x (omega arith)), to_z-of_z w128 y (fits_signed_from_abs w128 y (omega arith)))
    (to_z-of_z w128 (x +ℤ y) (fits_signed_from_abs w128 (x +ℤ y) (let s = size_of_sum x y (2 ^ 120) (2 ^ 120) hx hy in omega arith)))
