-- How many junctions are new.
use Rattle.std.proofs.Common.{◌≡◌, ℕ, suc, ◌+◌, ◌≤◌, Bool, true, cond, List, [], ◌∷◌, length, refl, ap, inl, inr, arith}
use Rattle.std.proofs.lemmas.Bool.{cases_Bool, false≢true}
use Rattle.std.proofs.lemmas.List.Sums.{sum_by-cons}
use Rattle.wrp_reach.specs.declared.search.Mark.{Mark}
use Rattle.wrp_reach.specs.declared.search.Mark.TheVariants.{New, OnPath, Done}
use Rattle.wrp_reach.specs.Search.{mark_at, is_new, new_ones}

new_from_test : (m : Mark) → is_new m ≡ true → m ≡ New
new_from_test New is = refl
new_from_test (OnPath p) is = absurd (false≢true is)
new_from_test (Done l) is = absurd (false≢true is)

ones-cons : (m : Mark) (ms : List Mark) → new_ones (m ∷ ms) ≡ cond (is_new m) 1 0 + new_ones ms
ones-cons m ms = sum_by-cons (λ (x : Mark). cond {A = ℕ} (is_new x) 1 0) m ms

first_fewer : (x y : Mark) → (y ≡ New → x ≡ New) → cond {A = ℕ} (is_new y) 1 0 ≤ cond {A = ℕ} (is_new x) 1 0
first_fewer x y kept = elim (cases_Bool (is_new y)) [
  | inl fresh ↦ omega (arith, ap (λ (b : Bool). cond {A = ℕ} b 1 0) fresh, ap (λ (m : Mark). cond {A = ℕ} (is_new m) 1 0) (kept (new_from_test y fresh)))
  | inr known ↦ omega (arith, ap (λ (b : Bool). cond {A = ℕ} b 1 0) known)
]

pub fewer_ones : (old new : List Mark) → length new ≡ length old → ((i : ℕ) → mark_at new i ≡ New → mark_at old i ≡ New) → new_ones new ≤ new_ones old
fewer_ones [] [] long kept = omega arith
fewer_ones [] (y ∷ ys) long kept = absurd (omega arith)
fewer_ones (x ∷ xs) [] long kept = absurd (omega arith)
fewer_ones (x ∷ xs) (y ∷ ys) long kept =
    omega (arith, ones-cons x xs, ones-cons y ys, first_fewer x y (kept 0), fewer_ones xs ys (omega arith) (λ i. kept (suc i)))
