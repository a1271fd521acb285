-- Laws of tests and lists that the proofs of several crates need.
use Rattle.std.proofs.Common.{◌≡◌, ℕ, zero, suc, ◌+◌, ◌<◌, Bool, true, false, ◌==◌, List, [], ◌∷◌, ◌++◌, length, get_or, ap, refl, sym, ◌∙◌, inl, inr, arith, eq-eqb}
use Rattle.std.specs.List.{list_all, range_with_len}
use Rattle.std.proofs.lemmas.Bool.{and_parts, cases_eq, false≢true, ne_eqb}
use Rattle.std.proofs.lemmas.List.{map-id}
use Rattle.std.proofs.lemmas.List.FromFn.{map-range_with_len_more}

-- two tests that hold together are one
pub same_tests : (a b : Bool) → (a ≡ true → b ≡ true) → (b ≡ true → a ≡ true) → a ≡ b
same_tests true b there back = sym (there refl)
same_tests false true there back = absurd (false≢true (back refl))
same_tests false false there back = refl

pub eqb_turned : (m n : ℕ) → (m == n) ≡ (n == m)
eqb_turned m n =
    elim (cases_eq m n) [ inl same ↦ eq-eqb m n same ∙ sym (eq-eqb n m (sym same)) | inr differs ↦ ne_eqb m n differs ∙ sym (ne_eqb n m (λ same. differs (sym same))) ]

-- what all items pass, each does
pub list_all-at : {X : Type 0} (p : X → Bool) (xs : List X) (i : ℕ) (d : X) → list_all p xs ≡ true → i < length xs → p (get_or xs i d) ≡ true
list_all-at p [] i d all below = absurd (omega arith)
list_all-at p (x ∷ xs) zero d all below = (and_parts _ _ all).0
list_all-at p (x ∷ xs) (suc i) d all below = list_all-at p xs i d (and_parts _ _ all).1 (omega arith)

-- one number more
pub range_with_len-more : (a n j : ℕ) → a + n ≡ j → range_with_len a (n + 1) ≡ range_with_len a n ++ j ∷ []
range_with_len-more a n j is =
    sym (map-id (range_with_len a (n + 1))) ∙ map-range_with_len_more (λ x. x) a n j is ∙ ap (λ (xs : List ℕ). xs ++ j ∷ []) (map-id (range_with_len a n))
