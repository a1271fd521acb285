-- Numbers that are strictly ascending, as a loop finds them.
use Rattle.std.proofs.Common.{◌≡◌, ℕ, ◌+◌, ◌-◌, ◌^◌, Bool, true, false, ◌&&◌, nat_lt, nat_le, List, [], ◌∷◌, refl, ap, ◌∙◌, add-one, arith}
use Rattle.std.proofs.lemmas.Bool.{false≢true, and_parts, and_from, leb-true, ltb-true, le-leb}
use Rattle.std.specs.List.{list_all}
use Rattle.wrp_rules.specs.Ranges.{is_ascending}

-- numbers that go up from one that is low or more
abbrev pub rises : ℕ → List ℕ → Bool
rises low [] = true
rises low (x ∷ xs) = (nat_le low x && nat_le x (2 ^ 32 - 1)) && rises (x + 1) xs

from-next : (x : ℕ) (ys : List ℕ) → list_all (nat_le (x + 1)) ys ≡ list_all (nat_lt x) ys
from-next x [] = refl
from-next x (y ∷ ys) = ap (λ b. b && list_all (nat_le (x + 1)) ys) (from-one x y) ∙ ap (λ b. nat_lt x y && b) (from-next x ys)
  where
    from-one : (x y : ℕ) → nat_le (x + 1) y ≡ nat_lt x y
    from-one x y = rw (add-one x) refl

lower : (low x : ℕ) (ys : List ℕ) → nat_le low x ≡ true → list_all (nat_lt x) ys ≡ true → list_all (nat_le low) ys ≡ true
lower low x [] le h = refl
lower low x (y ∷ ys) le h =
    let both = and_parts (nat_lt x y) (list_all (nat_lt x) ys) h in
    and_from (nat_le low y) (list_all (nat_le low) ys) (le-leb low y (omega (arith, ltb-true x y both.0, leb-true low x le))) (lower low x ys le both.1)

join : (a b l m r : Bool) → (a ≡ true → l ≡ true → m ≡ true) → ((a && b) && (l && r)) ≡ ((a && m) && ((b && l) && r))
join false b l m r h = refl
join true true l true r h = refl
join true false l true r h = refl
join true true true false r h = absurd (false≢true (h refl refl))
join true true false false r h = refl
join true false l false r h = refl

pub rises-from : (low : ℕ) (xs : List ℕ) → rises low xs ≡ (list_all (nat_le low) xs && is_ascending (2 ^ 32 - 1) xs)
rises-from low [] = refl
rises-from low (x ∷ xs) =
    let up = list_all (nat_lt x) xs in
    let rest = is_ascending (2 ^ 32 - 1) xs in
    ap (λ b. (nat_le low x && nat_le x (2 ^ 32 - 1)) && b) (rises-from (x + 1) xs ∙ ap (λ b. b && rest) (from-next x xs))
    ∙ join (nat_le low x) (nat_le x (2 ^ 32 - 1)) up (list_all (nat_le low) xs) rest (lower low x xs)

-- numbers that go up from 0 are ascending
pub rises-start : (xs : List ℕ) → rises 0 xs ≡ is_ascending (2 ^ 32 - 1) xs
rises-start xs = rises-from 0 xs ∙ ap (λ b. b && is_ascending (2 ^ 32 - 1) xs) (all-low xs)
  where
    all-low : (xs : List ℕ) → list_all (nat_le 0) xs ≡ true
    all-low [] = refl
    all-low (x ∷ xs) = and_from (nat_le 0 x) (list_all (nat_le 0) xs) (le-leb 0 x (omega arith)) (all-low xs)
