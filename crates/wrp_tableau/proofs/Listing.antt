-- The terms of a list of coefficients, as a loop lists those that aren't 0.
use Rattle.std.proofs.Common.{◌≡◌, ◌≢◌, ℕ, ◌+◌, ◌<◌, ◌≤◌, ◌^◌, ◌==◌, cond, Bool, true, false, unsigned_abs, ℤ, pos, negsuc, ◌+ℤ◌, List, [], ◌∷◌, ◌++◌, length, take, get_or, ap, refl, sym, ◌∙◌, arith, subst, eq-eqb, inl, inr}
use Rattle.std.proofs.lemmas.Bool.{ne_eqb, cases_eq, cases_lt}
use Rattle.std.proofs.lemmas.List.{get_or-take, length-take-le, get_or_past}
use Rattle.std.proofs.lemmas.List.Elements.{All-push, All-get_or}
use Rattle.std.proofs.Math.Seq.{take-length}
use Rattle.std.proofs.Math.Path.{fun_ext}
use Rattle.wrp_sums.specs.Sums.{coef_at}
use Rattle.wrp_sums.proofs.Integers.{linear}
use Rattle.wrp_tableau.specs.Sparse.{IsSparse, AreBelow, dense}
use Rattle.wrp_tableau.specs.Systems.{slack_row}
use Rattle.wrp_tableau.proofs.Merging.{coef_at-push, sparse-push}

-- the terms stand for the first i coefficients
pub record Listing (xs : List ℤ) (i : ℕ) (terms : List (ℕ × ℤ)) : Type 0 where
  pub sparse : IsSparse (2 ^ 60) terms
  pub below : AreBelow i terms
  pub coefs : (j : ℕ) → coef_at terms j ≡ get_or (take i xs) j (pos 0)

one_more : (xs : List ℤ) (i j : ℕ) → i < length xs → get_or (take (i + 1) xs) j (pos 0) ≡ get_or (take i xs) j (pos 0) +ℤ cond (i == j) (get_or xs i (pos 0)) (pos 0)
one_more xs i j h =
    let len : length (take i xs) ≡ i = length-take-le i xs (omega arith) in
    let more : length (take (i + 1) xs) ≡ i + 1 = length-take-le (i + 1) xs (omega arith) in
    elim (cases_eq i j) [
      | inl same ↦ subst (λ k. get_or (take (i + 1) xs) k (pos 0) ≡ get_or (take i xs) k (pos 0) +ℤ cond (i == k) (get_or xs i (pos 0)) (pos 0)) same
          (rw (eq-eqb i i refl, get_or_past (take i xs) i (pos 0) (omega arith), get_or-take (i + 1) xs i (pos 0) (omega arith)) (omega (arith, linear)))
      | inr other ↦ rw (ne_eqb i j other) (elim (cases_lt j i) [
        | inl below ↦ rw (get_or-take i xs j (pos 0) below, get_or-take (i + 1) xs j (pos 0) (omega arith)) (omega (arith, linear))
        | inr past ↦ rw (get_or_past (take i xs) j (pos 0) (omega arith), get_or_past (take (i + 1) xs) j (pos 0) (omega arith)) refl
      ])
    ]

-- ---- steps
module _ (xs : List ℤ) (i : ℕ) (terms : List (ℕ × ℤ)) (h : i < length xs) (so_far : Listing xs i terms) where
  pub listing_push : get_or xs i (pos 0) ≢ pos 0 → unsigned_abs (get_or xs i (pos 0)) ≤ 2 ^ 60 → Listing xs (i + 1) (terms ++ (i, get_or xs i (pos 0)) ∷ [])
  listing_push some small = record {
    sparse = sparse-push (2 ^ 60) terms i (get_or xs i (pos 0)) so_far.sparse (λ k m. All-get_or (λ t. t.0 < i) terms k (0, pos 0) m so_far.below) some small;
    below = All-push (λ t. t.0 < i + 1) terms (i, get_or xs i (pos 0)) (λ k d m. let b = so_far.below k d m in omega arith) (omega arith);
    coefs = λ j. coef_at-push terms i (get_or xs i (pos 0)) j ∙ ap (λ (z : ℤ). z +ℤ cond (i == j) (get_or xs i (pos 0)) (pos 0)) (so_far.coefs j) ∙ sym (one_more xs i j h);
  }

  pub listing_none : get_or xs i (pos 0) ≡ pos 0 → Listing xs (i + 1) terms
  listing_none none = record {
    sparse = so_far.sparse;
    below = λ k d m. let b = so_far.below k d m in omega arith;
    coefs = λ j. so_far.coefs j ∙ sym (one_more xs i j h ∙ nothing_more (i == j) none);
  }
    where
      nothing_more : (q : Bool) → get_or xs i (pos 0) ≡ pos 0 → {z : ℤ} → z +ℤ cond q (get_or xs i (pos 0)) (pos 0) ≡ z
      nothing_more true e = omega (arith, linear, e)
      nothing_more false e = omega (arith, linear)

pub listing_start : (xs : List ℤ) → Listing xs 0 []
listing_start xs = record {
  sparse = record { ascending = λ i j d less h. absurd (omega arith); some = λ k d h. absurd (omega arith); small = λ k d h. absurd (omega arith) };
  below = λ k d h. absurd (omega arith);
  coefs = λ j. sym (get_or_past [] j (pos 0) (omega arith));
}

-- ---- the end, with the slack
module _ (xs : List ℤ) (i slack : ℕ) (terms : List (ℕ × ℤ)) (right : ℤ) (past : length xs ≤ i) (end : i ≤ length xs) (before : length xs ≤ slack) (all : Listing xs i terms) where
  pub listed_sparse : IsSparse (2 ^ 60) (terms ++ (slack, negsuc 0) ∷ [])
  listed_sparse = sparse-push (2 ^ 60) terms slack (negsuc 0) all.sparse (λ k m. let b = All-get_or (λ t. t.0 < i) terms k (0, pos 0) m all.below in omega arith) (λ none. absurd (omega (arith, linear, none))) (omega arith)

  pub listed : dense (terms ++ (slack, negsuc 0) ∷ []) right ≡ slack_row slack xs right
  listed = ap (λ (f : ℕ → ℤ). record { entry = f; right = right }) (fun_ext (λ j.
      coef_at-push terms slack (negsuc 0) j
      ∙ ap (λ (z : ℤ). z +ℤ cond (slack == j) (negsuc 0) (pos 0)) (all.coefs j ∙ ap (λ (ys : List ℤ). get_or ys j (pos 0)) whole)
      ∙ ap (λ (q : Bool). get_or xs j (pos 0) +ℤ cond q (negsuc 0) (pos 0)) (turned j)))
    where
      whole : take i xs ≡ xs
      whole = let e : i ≡ length xs = omega arith in rw e (take-length xs)

      turned : (j : ℕ) → (slack == j) ≡ (j == slack)
      turned j = elim (cases_eq slack j) [ inl same ↦ rw (eq-eqb slack j same, eq-eqb j slack (sym same)) refl | inr other ↦ rw (ne_eqb slack j other, ne_eqb j slack (λ e. other (sym e))) refl ]
