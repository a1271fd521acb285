-- Lists that grow by one item, as loops make them.
use Rattle.std.proofs.Common.{◌≡◌, ℕ, ◌+◌, ◌<◌, Bool, true, false, cond, List, [], ◌∷◌, ◌++◌, length, filter, slice_index, ap, sym, ◌∙◌, inl, inr, ◌⊎◌, arith, length-append}
use Rattle.std.specs.List.{range_with_len}
use Rattle.std.proofs.lemmas.Bool.{cases_eq}
use Rattle.std.proofs.lemmas.List.{append-nil, get_or_append_left}
use Rattle.std.proofs.lemmas.List.Elements.{filter-append}
use Rattle.std.proofs.Math.Seq.{get_or-append_seam}
use Rattle.wrp_town.proofs.Lists.{range_with_len-more}

-- the numbers that pass a test, and one more
part_more : (p : ℕ → Bool) (n : ℕ) (b : Bool) → p n ≡ b → filter p (range_with_len 0 (n + 1)) ≡ filter p (range_with_len 0 n) ++ cond b (n ∷ []) []
part_more p n b is =
    ap (filter p) (range_with_len-more 0 n n (omega arith)) ∙ filter-append p (range_with_len 0 n) (n ∷ [])
    ∙ ap (λ (t : Bool). filter p (range_with_len 0 n) ++ cond t (n ∷ []) []) is

pub passing_more : (p : ℕ → Bool) (n : ℕ) (old new : List ℕ) → old ≡ filter p (range_with_len 0 n) → new ≡ old ++ n ∷ [] → p n ≡ true → new ≡ filter p (range_with_len 0 (n + 1))
passing_more p n old new before after passes = after ∙ ap (λ (xs : List ℕ). xs ++ n ∷ []) before ∙ sym (part_more p n true passes)

pub passing_less : (p : ℕ → Bool) (n : ℕ) (old new : List ℕ) → old ≡ filter p (range_with_len 0 n) → new ≡ old → p n ≡ false → new ≡ filter p (range_with_len 0 (n + 1))
passing_less p n old new before after fails = after ∙ before ∙ sym (part_more p n false fails ∙ append-nil (filter p (range_with_len 0 n)))

-- a function's values below n, and one more
pub record AreValues (f : ℕ → ℕ) (n : ℕ) (xs : List ℕ) : Type 0 where
  pub long : length xs ≡ n
  pub is : (j : ℕ) → j < n → slice_index xs j ≡ f j

pub values_more : (f : ℕ → ℕ) (n x : ℕ) (old new : List ℕ) → AreValues f n old → new ≡ old ++ x ∷ [] → x ≡ f n → AreValues f (n + 1) new
values_more f n x old new are after is = record {
  long = ap (λ (xs : List ℕ). length xs) after ∙ omega (arith, length-append old (x ∷ []), are.long);
  is = λ j below. ap (λ (xs : List ℕ). slice_index xs j) after ∙ by j below (cases_eq j n);
}
  where
    by : (j : ℕ) → j < n + 1 → (j ≡ n) ⊎ (j ≡ n → ⊥) → slice_index (old ++ x ∷ []) j ≡ f j
    by j below (inl last) = ap (slice_index (old ++ x ∷ [])) (last ∙ sym are.long) ∙ get_or-append_seam old x [] 0 ∙ is ∙ ap f (sym last)
    by j below (inr inside) = get_or_append_left old (x ∷ []) 0 j (omega (arith, are.long)) ∙ are.is j (omega arith)
