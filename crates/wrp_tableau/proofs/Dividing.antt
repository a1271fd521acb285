-- A sparse row divided by its factor, as a loop does it.
use Rattle.std.proofs.Common.{◌≡◌, ◌≢◌, ℕ, ◌+◌, ◌<◌, ◌≤◌, ◌^◌, ◌==◌, cond, Bool, true, false, unsigned_abs, int_div, ℤ, pos, negsuc, ◌+ℤ◌, ◌*ℤ◌, ◌<ℤ◌, List, [], ◌∷◌, ◌++◌, length, take, get_or, All, AllPairs, ap, refl, sym, ◌∙◌, arith, subst, inl, inr}
use Rattle.std.specs.Int.{w128, ◌∣◌}
use Rattle.std.proofs.lemmas.List.{map_more, get_or-map, length-map, length-take-le, drop_more, append-nil}
use Rattle.std.proofs.lemmas.List.Edits.{map_over_more}
use Rattle.std.proofs.Math.Seq.{get_or-append_seam}
use Rattle.std.proofs.Math.ListN.{set, drop, drop_of_length-le}
use Rattle.std.proofs.lemmas.List.Elements.{All-push, All-map}
use Rattle.std.proofs.lemmas.Bool.{eqb-true}
use Rattle.std.proofs.Math.Path.{fun_ext}
use Rattle.std.proofs.Math.Nat.{zero-div}
use mir.Val.{to_z, of_z}
use Rattle.wrp_sums.specs.Sums.{coef_at}
use Rattle.wrp_sums.proofs.Integers.{linear, times_zero}
use Rattle.wrp_tableau.specs.Equations.{common_factor, reduced, divided}
use Rattle.wrp_tableau.specs.Sparse.{IsSparse, dense, divided_terms, AreDivided, IsSomeWideDivided}
use Rattle.wrp_tableau.proofs.Factors.{exact}
use Rattle.wrp_tableau.proofs.Factoring.{ascending_head, ascending_tail, coef_absent, entry_at_term, cast, take_all_terms}
use Rattle.wrp_tableau.specs.Systems.{IsWideRow}

absent_divided : (g : ℤ) (terms : List (ℕ × ℤ)) (j : ℕ) → All (λ t. t.0 ≢ j) terms → All (λ t. t.0 ≢ j) (divided_terms g terms)
absent_divided g terms j all = All-map (λ t. t.0 ≢ j) (λ t. (t.0, int_div t.1 g)) terms all

pub coef_divided : (g : ℕ) (terms : List (ℕ × ℤ)) (j : ℕ) → AllPairs (λ s t. s.0 < t.0) terms → coef_at (divided_terms (pos g) terms) j ≡ int_div (coef_at terms j) (pos g)
coef_divided g [] j ascending = ap pos (sym (zero-div g))
coef_divided g (t ∷ terms) j ascending = by (coef_divided g terms j (ascending_tail t terms ascending)) (t.0 == j) refl
  where
    by : coef_at (divided_terms (pos g) terms) j ≡ int_div (coef_at terms j) (pos g) → (q : Bool) → (t.0 == j) ≡ q → cond q (int_div t.1 (pos g)) (pos 0) +ℤ coef_at (divided_terms (pos g) terms) j ≡ int_div (cond q t.1 (pos 0) +ℤ coef_at terms j) (pos g)
    by rest true e =
        let gone : All (λ s. s.0 ≢ j) terms = λ k d h. let same = eqb-true t.0 j e in let above = ascending_head t terms ascending k d h in λ (f : (get_or terms k d).0 ≡ j). absurd (omega arith) in
        let left : t.1 +ℤ coef_at terms j ≡ t.1 = omega (arith, linear, coef_absent terms j gone) in
        rw left (omega (arith, linear, coef_absent (divided_terms (pos g) terms) j (absent_divided (pos g) terms j gone)))
    by rest false e =
        let left : pos 0 +ℤ coef_at terms j ≡ coef_at terms j = omega (arith, linear) in
        rw left (omega (arith, linear, rest))

-- what the loop keeps: the first i terms are divided
pub record Dividing (g : ℤ) (terms : List (ℕ × ℤ)) (i : ℕ) (now : List (ℕ × ℤ)) : Type 0 where
  pub now_is : now ≡ divided_terms g (take i terms) ++ drop i terms
  pub small : All (λ t. unsigned_abs t.1 ≤ 2 ^ 60) (divided_terms g (take i terms))

pub dividing_start : (g : ℤ) (terms : List (ℕ × ℤ)) → Dividing g terms 0 terms
dividing_start g terms = record { now_is = refl; small = λ k d h. absurd (omega arith) }

module _ (g : ℤ) (terms : List (ℕ × ℤ)) (i : ℕ) (now : List (ℕ × ℤ)) (h : i < length terms) (so_far : Dividing g terms i now) where
  -- the term that comes next is still undivided
  pub dividing_next : (d : ℕ × ℤ) → get_or now i d ≡ get_or terms i d
  dividing_next d =
      let len : length (divided_terms g (take i terms)) ≡ i = length-map (take i terms) (λ t. (t.0, int_div t.1 g)) ∙ length-take-le i terms (omega arith) in
      ap (λ (ts : List (ℕ × ℤ)). get_or ts i d) so_far.now_is
      ∙ ap (λ (ts : List (ℕ × ℤ)). get_or (divided_terms g (take i terms) ++ ts) i d) (drop_more terms i d h)
      ∙ ap (λ (n : ℕ). get_or (divided_terms g (take i terms) ++ get_or terms i d ∷ drop (i + 1) terms) n d) (sym len)
      ∙ get_or-append_seam (divided_terms g (take i terms)) (get_or terms i d) (drop (i + 1) terms) d

  pub dividing_more : (x y : ℕ × ℤ) → x ≡ get_or now i x → y ≡ (x.0, int_div x.1 g) → unsigned_abs y.1 ≤ 2 ^ 60 → Dividing g terms (i + 1) (set now i y)
  dividing_more x y x_is y_is small = record {
    now_is = ap (set now i) y_is ∙ map_over_more (λ t. (t.0, int_div t.1 g)) terms now i x h so_far.now_is x_is;
    small =
        let same : x ≡ get_or terms i x = x_is ∙ dividing_next x in
        subst (All (λ t. unsigned_abs t.1 ≤ 2 ^ 60)) (sym (map_more (λ t. (t.0, int_div t.1 g)) terms i x h ∙ ap (λ (z : ℕ × ℤ). divided_terms g (take i terms) ++ z ∷ []) (ap (λ (t : ℕ × ℤ). (t.0, int_div t.1 g)) (sym same) ∙ sym y_is)))
        (All-push (λ t. unsigned_abs t.1 ≤ 2 ^ 60) (divided_terms g (take i terms)) y so_far.small small);
  }

pub dividing_end : (g : ℤ) (terms : List (ℕ × ℤ)) (i : ℕ) (now : List (ℕ × ℤ)) → length terms ≤ i → i ≤ length terms → Dividing g terms i now → AreDivided g terms now
dividing_end g terms i now h k so_far =
    let whole : take i terms ≡ terms = take_all_terms terms i h k in
    let is : now ≡ divided_terms g terms = so_far.now_is ∙ ap (λ (ts : List (ℕ × ℤ)). divided_terms g (take i terms) ++ ts) (drop_of_length-le terms h) ∙ append-nil (divided_terms g (take i terms)) ∙ ap (divided_terms g) whole in
    record {
      divided = is;
      small = subst (All (λ t. unsigned_abs t.1 ≤ 2 ^ 60)) (ap (divided_terms g) whole ∙ sym is) so_far.small;
    }

pub divided_sparse : (g : ℕ) (terms : List (ℕ × ℤ)) → All (λ t. g ∣ unsigned_abs t.1) terms → IsSparse (2 ^ 121) terms → All (λ t. unsigned_abs t.1 ≤ 2 ^ 60) (divided_terms (pos g) terms) → IsSparse (2 ^ 60) (divided_terms (pos g) terms)
divided_sparse g terms divides sparse small = record {
  ascending = λ i j d less h.
      let inside : j < length terms = subst (λ n. j < n) (length-map terms (λ t. (t.0, int_div t.1 (pos g)))) h in
      let first : i < length terms = omega arith in
      rw (get_or-map (λ t. (t.0, int_div t.1 (pos g))) terms i d d first, get_or-map (λ t. (t.0, int_div t.1 (pos g))) terms j d d inside) (sparse.ascending i j d less inside);
  some = All-map (λ t. t.1 ≢ pos 0) (λ t. (t.0, int_div t.1 (pos g))) terms (λ k d h e. sparse.some k d h (sym (exact g (get_or terms k d).1 (divides k d h)) ∙ ap (λ (z : ℤ). pos g *ℤ z) e ∙ times_zero (pos g)));
  small = small;
}

pub reduced_is : (n g : ℕ) (terms : List (ℕ × ℤ)) (right : ℤ) → AllPairs (λ s t. s.0 < t.0) terms → g ≡ common_factor n (dense terms right) → dense (divided_terms (pos g) terms) (int_div right (pos g)) ≡ reduced n (dense terms right)
unfolding reduced
reduced_is n g terms right ascending e =
    subst (λ k. dense (divided_terms (pos k) terms) (int_div right (pos k)) ≡ divided (common_factor n (dense terms right)) (dense terms right)) (sym e)
    (ap (λ (f : ℕ → ℤ). record { entry = f; right = int_div right (pos (common_factor n (dense terms right))) })
    (fun_ext (λ j. coef_divided (common_factor n (dense terms right)) terms j ascending)))

-- a wide quotient makes the reduced row wide
pub wide_entry : (n g : ℕ) (terms : List (ℕ × ℤ)) (right : ℤ) (k : ℕ) → AllPairs (λ s t. s.0 < t.0) terms → g ≡ common_factor n (dense terms right) → k < length terms → 2 ^ 60 < unsigned_abs (int_div (get_or terms k (0, pos 0)).1 (pos g)) → IsWideRow (reduced n (dense terms right))
unfolding reduced
wide_entry n g terms right k ascending e h wide =
    inl ((get_or terms k (0, pos 0)).0, rw (entry_at_term terms k ascending h) (subst (λ m. 2 ^ 60 < unsigned_abs (int_div (get_or terms k (0, pos 0)).1 (pos m))) e wide))

pub wide_right : (n g : ℕ) (terms : List (ℕ × ℤ)) (right : ℤ) → g ≡ common_factor n (dense terms right) → 2 ^ 60 < unsigned_abs (int_div right (pos g)) → IsWideRow (reduced n (dense terms right))
unfolding reduced
wide_right n g terms right e wide = inr (subst (λ m. 2 ^ 60 < unsigned_abs (int_div right (pos m))) e wide)

positive_is : (f : ℤ) → pos 0 <ℤ f → f ≡ pos (unsigned_abs f)
positive_is (pos a) h = refl
positive_is (negsuc a) h = absurd (omega (arith, linear))

-- the ends of the loop, with the code's casts
module _ (terms : List (ℕ × ℤ)) (right f : ℤ) (sparse : IsSparse (2 ^ 121) terms) (right_small : unsigned_abs right ≤ 2 ^ 121) (f_small : unsigned_abs f ≤ 2 ^ 121) (positive : pos 0 <ℤ f) where
  factor_value : (n : ℕ) → f ≡ pos (common_factor n (dense terms (to_z w128 (of_z w128 right)))) → f ≡ pos (common_factor n (dense terms right))
  factor_value n e = e ∙ ap (λ (r : ℤ). pos (common_factor n (dense terms r))) (cast right right_small)

  pub wide_at_right : (n : ℕ) → f ≡ pos (common_factor n (dense terms (to_z w128 (of_z w128 right)))) → (unsigned_abs (int_div (to_z w128 (of_z w128 right)) (to_z w128 (of_z w128 f))) ≤ 2 ^ 60 → ⊥) → IsWideRow (reduced n (dense terms right))
  wide_at_right n e wide =
      let over : unsigned_abs (int_div right f) ≤ 2 ^ 60 → ⊥ = rw (cast right right_small, cast f f_small) at wide in
      let above : 2 ^ 60 < unsigned_abs (int_div right f) = omega arith in
      wide_right n (common_factor n (dense terms right)) terms right refl (subst (λ g. 2 ^ 60 < unsigned_abs (int_div right g)) (factor_value n e) above)

  pub wide_at_entry : (n : ℕ) → IsSomeWideDivided (to_z w128 (of_z w128 f)) terms → f ≡ pos (common_factor n (dense terms (to_z w128 (of_z w128 right)))) → IsWideRow (reduced n (dense terms right))
  wide_at_entry n (k, h, wide) e =
      let over : 2 ^ 60 < unsigned_abs (int_div (get_or terms k (0, pos 0)).1 f) = rw (cast f f_small) at wide in
      wide_entry n (common_factor n (dense terms right)) terms right k sparse.ascending refl h (subst (λ g. 2 ^ 60 < unsigned_abs (int_div (get_or terms k (0, pos 0)).1 g)) (factor_value n e) over)

  made_all : (made : List (ℕ × ℤ)) → AreDivided (to_z w128 (of_z w128 f)) terms made → made ≡ divided_terms f terms
  made_all made are = are.divided ∙ ap (λ (g : ℤ). divided_terms g terms) (cast f f_small)

  pub divided_ok : (n : ℕ) (made : List (ℕ × ℤ)) (q : ℤ) → AreDivided (to_z w128 (of_z w128 f)) terms made → f ≡ pos (common_factor n (dense terms (to_z w128 (of_z w128 right)))) → (unsigned_abs (int_div (to_z w128 (of_z w128 right)) (to_z w128 (of_z w128 f))) ≤ 2 ^ 60) × (q ≡ int_div (to_z w128 (of_z w128 right)) (to_z w128 (of_z w128 f))) → dense made (to_z w128 (of_z w128 q)) ≡ reduced n (dense terms right)
  divided_ok n made q are e (small, is) =
      let less : unsigned_abs q ≤ 2 ^ 60 = rw is small in
      let side : to_z w128 (of_z w128 q) ≡ int_div right (pos (common_factor n (dense terms right))) = cast q (omega arith) ∙ is ∙ ap (λ (y : ℤ). int_div y (to_z w128 (of_z w128 f))) (cast right right_small) ∙ ap (int_div right) (cast f f_small ∙ factor_value n e) in
      ap (λ (y : ℤ). dense made y) side
      ∙ ap (λ (xs : List (ℕ × ℤ)). dense xs (int_div right (pos (common_factor n (dense terms right))))) (made_all made are ∙ ap (λ (g : ℤ). divided_terms g terms) (factor_value n e))
      ∙ reduced_is n (common_factor n (dense terms right)) terms right sparse.ascending refl

  pub divided_ok_sparse : (made : List (ℕ × ℤ)) → AreDivided (to_z w128 (of_z w128 f)) terms made → All (λ t. unsigned_abs f ∣ unsigned_abs t.1) terms → IsSparse (2 ^ 60) made
  divided_ok_sparse made are divides =
      let is : made ≡ divided_terms (pos (unsigned_abs f)) terms = made_all made are ∙ ap (λ (g : ℤ). divided_terms g terms) (positive_is f positive) in
      subst (IsSparse (2 ^ 60)) (sym is) (divided_sparse (unsigned_abs f) terms divides sparse (subst (All (λ t. unsigned_abs t.1 ≤ 2 ^ 60)) is are.small))
