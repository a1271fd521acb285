-- Solutions of combined and of reduced equations.
use Rattle.std.proofs.Common.{◌≡◌, ◌≢◌, ℕ, zero, suc, ◌<◌, ◌≤◌, unsigned_abs, ℤ, pos, negsuc, ◌-ℤ◌, ◌*ℤ◌, neg_ℤ, ap, refl, sym, ◌∙◌, arith}
use Rattle.wrp_sums.specs.Sums.{numbers_below}
use Rattle.wrp_sums.proofs.Integers.{linear, +ℤ-*ℤ, neg_ℤ-*ℤ, *ℤ_assoc, *ℤ_left_comm}
use Rattle.wrp_sums.proofs.SumsOver.{sum_over-ext, sum_over-same, sum_over-*ℤ}
use Rattle.wrp_sums.proofs.FirstNumbers.{below_of_inside}
use Rattle.wrp_tableau.specs.Equations.{Equation, common_factor, reduced, combined, sign_of, without}
use Rattle.wrp_tableau.specs.Solutions.{left_side, Solves}
use Rattle.wrp_tableau.proofs.Differences.{*ℤ_minus, cancel_same, sum_over_minus}
use Rattle.wrp_tableau.proofs.Factors.{reduced_entry, reduced_right}

combined_term : (a k x y z : ℤ) → (a *ℤ x -ℤ k *ℤ y) *ℤ z ≡ a *ℤ (x *ℤ z) -ℤ k *ℤ (y *ℤ z)
combined_term a k x y z =
    omega (arith, linear, +ℤ-*ℤ (a *ℤ x) (neg_ℤ (k *ℤ y)) z, neg_ℤ-*ℤ (k *ℤ y) z, *ℤ_assoc a x z, *ℤ_assoc k y z)

-- the left side of an equation without an entry
pub left_side-without : (n c : ℕ) (by e : Equation) (x : ℕ → ℤ) → left_side n (without c by e) x ≡ combined (by.entry c) (e.entry c) (left_side n e x) (left_side n by x)
unfolding without
left_side-without n c by e x =
    let a = pos (unsigned_abs (by.entry c)) in
    let k = sign_of (by.entry c) *ℤ e.entry c in
    sum_over-ext (λ j. combined (by.entry c) (e.entry c) (e.entry j) (by.entry j) *ℤ x j) (λ j. a *ℤ (e.entry j *ℤ x j) -ℤ k *ℤ (by.entry j *ℤ x j))
    (λ j. combined_term a k (e.entry j) (by.entry j) (x j)) (numbers_below n)
    ∙ omega (
      arith,
      linear,
      sum_over_minus (λ j. a *ℤ (e.entry j *ℤ x j)) (λ j. k *ℤ (by.entry j *ℤ x j)) (numbers_below n),
      sum_over-*ℤ a (λ j. e.entry j *ℤ x j) (numbers_below n),
      sum_over-*ℤ k (λ j. by.entry j *ℤ x j) (numbers_below n),
    )

-- the left side of a reduced equation, times the common factor
pub left_side-reduced : (m n : ℕ) (e : Equation) (x : ℕ → ℤ) → m ≤ n → pos (common_factor n e) *ℤ left_side m (reduced n e) x ≡ left_side m e x
left_side-reduced m n e x h =
    sym (sum_over-*ℤ (pos (common_factor n e)) (λ j. (reduced n e).entry j *ℤ x j) (numbers_below m))
    ∙ sum_over-same (λ j. pos (common_factor n e) *ℤ ((reduced n e).entry j *ℤ x j)) (λ j. e.entry j *ℤ x j) (numbers_below m)
    (λ j inside.
    let below : j < n = let b : j < m = below_of_inside m j inside in omega arith in
    sym (*ℤ_assoc (pos (common_factor n e)) ((reduced n e).entry j) (x j)) ∙ ap (λ (z : ℤ). z *ℤ x j) (reduced_entry n e j below))

-- a combination of two solved sides is solved
combined_sides : (a k l m d r s : ℤ) → l ≡ d *ℤ r → m ≡ d *ℤ s → a *ℤ l -ℤ k *ℤ m ≡ d *ℤ (a *ℤ r -ℤ k *ℤ s)
combined_sides a k l m d r s h i =
    omega (
      arith,
      linear,
      ap (λ (z : ℤ). a *ℤ z) h,
      ap (λ (z : ℤ). k *ℤ z) i,
      *ℤ_left_comm a d r,
      *ℤ_left_comm k d s,
      *ℤ_minus d (a *ℤ r) (k *ℤ s),
    )

pub solves-without : (n c : ℕ) (d : ℤ) (x : ℕ → ℤ) (by e : Equation) → Solves n d x by → Solves n d x e → Solves n d x (without c by e)
unfolding without
solves-without n c d x by e h i =
    left_side-without n c by e x
    ∙ combined_sides (pos (unsigned_abs (by.entry c))) (sign_of (by.entry c) *ℤ e.entry c) (left_side n e x) (left_side n by x) d e.right by.right i h

pub size_above : (p : ℤ) → p ≢ pos 0 → 0 < unsigned_abs p
size_above (pos zero) h = absurd (h refl)
size_above (pos (suc n)) h = omega arith
size_above (negsuc n) h = omega arith

-- and back, where the entry isn't 0
uncombined : (a : ℕ) (k l m d r s : ℤ) → 0 < a → m ≡ d *ℤ s → pos a *ℤ l -ℤ k *ℤ m ≡ d *ℤ (pos a *ℤ r -ℤ k *ℤ s) → l ≡ d *ℤ r
uncombined a k l m d r s positive h i =
    cancel_same a l (d *ℤ r) positive
    (omega (
      arith,
      linear,
      i,
      ap (λ (z : ℤ). k *ℤ z) h,
      *ℤ_left_comm (pos a) d r,
      *ℤ_left_comm k d s,
      *ℤ_minus d (pos a *ℤ r) (k *ℤ s),
    ))

pub solves_from_without : (n c : ℕ) (d : ℤ) (x : ℕ → ℤ) (by e : Equation) → by.entry c ≢ pos 0 → Solves n d x by → Solves n d x (without c by e) → Solves n d x e
unfolding without
solves_from_without n c d x by e some h i =
    uncombined (unsigned_abs (by.entry c)) (sign_of (by.entry c) *ℤ e.entry c) (left_side n e x) (left_side n by x) d e.right by.right
    (size_above (by.entry c) some) h (sym (left_side-without n c by e x) ∙ i)

-- a reduced equation has the same solutions
scaled_side : (g : ℕ) (l m d r s : ℤ) → pos g *ℤ m ≡ l → pos g *ℤ s ≡ r → m ≡ d *ℤ s → l ≡ d *ℤ r
scaled_side g l m d r s h i e = sym h ∙ ap (λ (z : ℤ). pos g *ℤ z) e ∙ *ℤ_left_comm (pos g) d s ∙ ap (λ (z : ℤ). d *ℤ z) i

pub solves_from_reduced : (m n : ℕ) (d : ℤ) (x : ℕ → ℤ) (e : Equation) → m ≤ n → Solves m d x (reduced n e) → Solves m d x e
solves_from_reduced m n d x e h s =
    scaled_side (common_factor n e) (left_side m e x) (left_side m (reduced n e) x) d e.right (reduced n e).right (left_side-reduced m n e x h) (reduced_right n e) s

unscaled_side : (g : ℕ) (l m d r s : ℤ) → 0 < g → pos g *ℤ m ≡ l → pos g *ℤ s ≡ r → l ≡ d *ℤ r → m ≡ d *ℤ s
unscaled_side g l m d r s positive h i e =
    cancel_same g m (d *ℤ s) positive (h ∙ e ∙ ap (λ (z : ℤ). d *ℤ z) (sym i) ∙ *ℤ_left_comm d (pos g) s)

pub solves-reduced : (m n : ℕ) (d : ℤ) (x : ℕ → ℤ) (e : Equation) → m ≤ n → 0 < common_factor n e → Solves m d x e → Solves m d x (reduced n e)
solves-reduced m n d x e h positive s =
    unscaled_side (common_factor n e) (left_side m e x) (left_side m (reduced n e) x) d e.right (reduced n e).right positive (left_side-reduced m n e x h) (reduced_right n e) s
