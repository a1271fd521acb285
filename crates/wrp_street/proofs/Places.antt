-- The place of a name among names, as names are added.
use Rattle.std.proofs.Common.{◌≡◌, ℕ, suc, ◌+◌, ◌<◌, ◌≤◌, Bool, true, false, cond, not, ◌||◌, List, [], ◌∷◌, ◌++◌, length, ap, refl, sym, ◌∙◌, arith, length-append}
use Rattle.std.proofs.lemmas.Bool.{false≢true, or_right}
use Rattle.std.specs.Prelude.{max, if◌then◌else◌}
use Rattle.std.specs.List.{list_any, position_or_len}
use Rattle.std.specs.Str.{bytes_eq}
use Rattle.std.specs.Cmp.Lexicographic.{nat_list_eq_equiv}
use Rattle.wrp_street.specs.Tables.{with_junction, number_of}

-- a name is equal to itself
pub equal_itself : (name : List ℕ) → bytes_eq name name ≡ true
equal_itself name = nat_list_eq_equiv.refl name

-- ---- the first place at which a test passes, by the test of the first item

below_step : (b any : Bool) (place len : ℕ) → (any ≡ true → place < len) → (b || any) ≡ true → cond (not b) (1 + place) 0 < suc len
below_step true any place len rest is = omega arith
below_step false any place len rest is = let h : place < len = rest is in omega arith

end_step : (b any : Bool) (place len : ℕ) → (any ≡ false → place ≡ len) → (b || any) ≡ false → cond (not b) (1 + place) 0 ≡ suc len
end_step true any place len rest is = absurd (false≢true (sym is))
end_step false any place len rest is = let h : place ≡ len = rest is in omega arith

kept_step : (b any : Bool) (m n : ℕ) → (any ≡ true → m ≡ n) → (b || any) ≡ true → cond (not b) (1 + m) 0 ≡ cond (not b) (1 + n) 0
kept_step true any m n rest is = refl
kept_step false any m n rest is = ap (λ (k : ℕ). 1 + k) (rest is)

first_below : {X : Type 0} (p : X → Bool) (xs : List X) → list_any p xs ≡ true → position_or_len p xs < length xs
first_below p [] is = absurd (false≢true is)
first_below p (x ∷ xs) is = below_step (p x) (list_any p xs) (position_or_len p xs) (length xs) (λ any. first_below p xs any) is

first_end : {X : Type 0} (p : X → Bool) (xs : List X) → list_any p xs ≡ false → position_or_len p xs ≡ length xs
first_end p [] is = refl
first_end p (x ∷ xs) is = end_step (p x) (list_any p xs) (position_or_len p xs) (length xs) (λ any. first_end p xs any) is

first_kept : {X : Type 0} (p : X → Bool) (xs ys : List X) → list_any p xs ≡ true → position_or_len p (xs ++ ys) ≡ position_or_len p xs
first_kept p [] ys is = absurd (false≢true is)
first_kept p (x ∷ xs) ys is =
    kept_step (p x) (list_any p xs) (position_or_len p (xs ++ ys)) (position_or_len p xs) (λ any. first_kept p xs ys any) is

first_new : {X : Type 0} (p : X → Bool) (xs : List X) (y : X) → p y ≡ true → list_any p xs ≡ false → position_or_len p (xs ++ y ∷ []) ≡ length xs
first_new p [] y here is = ap (λ b. cond (not b) 1 0) here
first_new p (x ∷ xs) y here is =
    end_step (p x) (list_any p xs) (position_or_len p (xs ++ y ∷ [])) (length xs) (λ any. first_new p xs y here any) is

-- ---- a name is added, unless it is there

-- the names with one more: its number is that of its first place, the next one where it is new
pub record IsPlaced (name : List ℕ) (names more : List (List ℕ)) : Type 0 where
  pub there : list_any (bytes_eq name) more ≡ true
  pub same : number_of more name ≡ number_of names name
  pub at_most : number_of names name ≤ length names
  pub grows : max (length names) (number_of names name + 1) ≡ length more

any_last : {X : Type 0} (p : X → Bool) (xs : List X) (y : X) → p y ≡ true → list_any p (xs ++ y ∷ []) ≡ true
any_last p [] y here = rw here refl
any_last p (x ∷ xs) y here = or_right (p x) (list_any p (xs ++ y ∷ [])) (any_last p xs y here)

placed_if : (b : Bool) (name : List ℕ) (names : List (List ℕ)) → list_any (bytes_eq name) names ≡ b → IsPlaced name names (if b then names else names ++ name ∷ [])
placed_if true name names is =
    let below = first_below (bytes_eq name) names is in
    record { there = is; same = refl; at_most = omega arith; grows = omega arith }
placed_if false name names is =
    let end = first_end (bytes_eq name) names is in
    record {
      there = any_last (bytes_eq name) names name (equal_itself name);
      same = first_new (bytes_eq name) names name (equal_itself name) is ∙ sym end;
      at_most = omega arith;
      grows = omega (arith, length-append names (name ∷ []));
    }

pub placed : (name : List ℕ) (names : List (List ℕ)) → IsPlaced name names (with_junction names name)
placed name names = placed_if (list_any (bytes_eq name) names) name names refl

number_kept_if : (b : Bool) (name other : List ℕ) (names : List (List ℕ)) → list_any (bytes_eq name) names ≡ true → number_of (if b then names else names ++ other ∷ []) name ≡ number_of names name
number_kept_if true name other names there = refl
number_kept_if false name other names there = first_kept (bytes_eq name) names (other ∷ []) there

-- a name keeps its number
pub number_kept : (name other : List ℕ) (names : List (List ℕ)) → list_any (bytes_eq name) names ≡ true → number_of (with_junction names other) name ≡ number_of names name
number_kept name other names there = number_kept_if (list_any (bytes_eq other) names) name other names there
