-- Lists that grow by one item, as loops make them.
use Rattle.std.proofs.Common.{◌≡◌, ℕ, ◌+◌, ◌<◌, Bool, true, false, cond, List, [], ◌∷◌, ◌++◌, length, filter, get_or, ap, sym, ◌∙◌, inl, inr, ◌⊎◌, arith, length-append}
use Rattle.std.specs.List.{range_with_len}
use Rattle.std.proofs.lemmas.Bool.{cases_eq}
use Rattle.std.proofs.lemmas.List.{append-nil, get_or_append_left}
use Rattle.std.proofs.lemmas.List.Elements.{filter-append}
use Rattle.std.proofs.Math.Seq.{get_or-append_seam}
use Rattle.wrp_town.proofs.Lists.{range_with_len-more}
use Rattle.wrp_rows.specs.Marks.{is_marked}

-- the numbers that pass a test, and one more
part_more : (p : ℕ → Bool) (n : ℕ) (b : Bool) → p n ≡ b → filter p (range_with_len 0 (n + 1)) ≡ filter p (range_with_len 0 n) ++ cond b (n ∷ []) []
part_more p n b is =
    ap (filter p) (range_with_len-more 0 n n (omega arith)) ∙ filter-append p (range_with_len 0 n) (n ∷ [])
    ∙ ap (λ (t : Bool). filter p (range_with_len 0 n) ++ cond t (n ∷ []) []) is

pub passing_more : (p : ℕ → Bool) (n : ℕ) (old new : List ℕ) → old ≡ filter p (range_with_len 0 n) → new ≡ old ++ n ∷ [] → p n ≡ true → new ≡ filter p (range_with_len 0 (n + 1))
passing_more p n old new before after passes = after ∙ ap (λ (xs : List ℕ). xs ++ n ∷ []) before ∙ sym (part_more p n true passes)

pub passing_less : (p : ℕ → Bool) (n : ℕ) (old new : List ℕ) → old ≡ filter p (range_with_len 0 n) → new ≡ old → p n ≡ false → new ≡ filter p (range_with_len 0 (n + 1))
passing_less p n old new before after fails = after ∙ before ∙ sym (part_more p n false fails ∙ append-nil (filter p (range_with_len 0 n)))

-- a mark for each number below n, by a test
pub record AreMade (test : ℕ → Bool) (n : ℕ) (marks : List Bool) : Type 0 where
  pub long : length marks ≡ n
  pub is : (j : ℕ) → j < n → is_marked marks j ≡ test j

pub made_more : (test : ℕ → Bool) (n : ℕ) (mark : Bool) (old new : List Bool) → AreMade test n old → new ≡ old ++ mark ∷ [] → mark ≡ test n → AreMade test (n + 1) new
made_more test n mark old new are after is = record {
  long = ap (λ (xs : List Bool). length xs) after ∙ omega (arith, length-append old (mark ∷ []), are.long);
  is = λ j below. ap (λ (xs : List Bool). get_or xs j false) after ∙ by j below (cases_eq j n);
}
  where
    by : (j : ℕ) → j < n + 1 → (j ≡ n) ⊎ (j ≡ n → ⊥) → get_or (old ++ mark ∷ []) j false ≡ test j
    by j below (inl last) = ap (λ (k : ℕ). get_or (old ++ mark ∷ []) k false) (last ∙ sym are.long) ∙ get_or-append_seam old mark [] false ∙ is ∙ ap test (sym last)
    by j below (inr inside) = get_or_append_left old (mark ∷ []) false j (omega (arith, are.long)) ∙ are.is j (omega arith)
