-- Numbers below n that pass a test, and their places.
use Rattle.std.proofs.Common.{◌≡◌, ℕ, ◌+◌, Bool, true, false, cond, not, List, [], ◌∷◌, ◌++◌, length, Some, None, ap, refl, sym, ◌∙◌, arith}
use Rattle.std.specs.Prelude.{position, nat_lt}
use Rattle.std.specs.List.{filter, range_with_len, position_or_len}
use Rattle.std.proofs.lemmas.Bool.{ltb-false}
use Rattle.std.proofs.lemmas.List.{append-nil, map-id}
use Rattle.std.proofs.lemmas.List.Elements.{filter-append}
use Rattle.std.proofs.lemmas.List.FromFn.{map-range_with_len_more}
use Rattle.std.proofs.lemmas.List.Sums.{prefix_len-le-length}
use Rattle.std.proofs.lemmas.Option.{none-some, same_Some}

pub range_more : (n : ℕ) → range_with_len 0 (n + 1) ≡ range_with_len 0 n ++ n ∷ []
range_more n = sym (map-id (range_with_len 0 (n + 1))) ∙ map-range_with_len_more (λ x. x) 0 n n (omega arith) ∙ ap (λ (xs : List ℕ). xs ++ n ∷ []) (map-id (range_with_len 0 n))

-- one number more
pub collected : (p : ℕ → Bool) (n : ℕ) → filter p (range_with_len 0 (n + 1)) ≡ filter p (range_with_len 0 n) ++ cond (p n) (n ∷ []) []
collected p n = ap (filter p) (range_more n) ∙ filter-append p (range_with_len 0 n) (n ∷ [])

pub collected_yes : (p : ℕ → Bool) (n : ℕ) (old new : List ℕ) → p n ≡ true → old ≡ filter p (range_with_len 0 n) → new ≡ old ++ n ∷ [] → new ≡ filter p (range_with_len 0 (n + 1))
collected_yes p n old new passes before added = added ∙ ap (λ xs. xs ++ n ∷ []) before ∙ sym (collected p n ∙ ap (λ b. filter p (range_with_len 0 n) ++ cond b (n ∷ []) []) passes)

pub collected_no : (p : ℕ → Bool) (n : ℕ) (old : List ℕ) → p n ≡ false → old ≡ filter p (range_with_len 0 n) → old ≡ filter p (range_with_len 0 (n + 1))
collected_no p n old fails before = before ∙ sym (collected p n ∙ ap (λ b. filter p (range_with_len 0 n) ++ cond b (n ∷ []) []) fails ∙ append-nil (filter p (range_with_len 0 n)))

-- a place that was found, and one that wasn't
pub place_found : (p : ℕ → Bool) (xs : List ℕ) (place : ℕ) → position p xs ≡ Some place → place ≡ position_or_len p xs
place_found p xs place is = by (nat_lt (position_or_len p xs) (length xs)) is
  where
    by : (b : Bool) → cond b (Some (position_or_len p xs)) None ≡ Some place → place ≡ position_or_len p xs
    by true some = sym (same_Some (position_or_len p xs) place some)
    by false some = absurd (none-some place some)

pub place_missing : (p : ℕ → Bool) (xs : List ℕ) → position p xs ≡ None → length xs ≡ position_or_len p xs
place_missing p xs is = by (nat_lt (position_or_len p xs) (length xs)) refl is
  where
    by : (b : Bool) → nat_lt (position_or_len p xs) (length xs) ≡ b → cond b (Some (position_or_len p xs)) None ≡ None → length xs ≡ position_or_len p xs
    by true less none = absurd (none-some (position_or_len p xs) (sym none))
    by false less none = omega (arith, ltb-false _ _ less, prefix_len-le-length (λ x. not (p x)) xs)
