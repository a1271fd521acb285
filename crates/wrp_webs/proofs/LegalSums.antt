-- Rows of ones at a point, as sums of natural numbers.
use Rattle.std.proofs.Common.{◌≡◌, ℕ, zero, suc, ◌+◌, ◌*◌, Bool, true, false, cond, ℤ, pos, ◌*ℤ◌, List, [], ◌∷◌, ◌++◌, length, filter, ap, refl, sym, ◌∙◌, arith}
use Rattle.std.specs.List.{range_with_len}
use Rattle.wrp_sums.specs.Sums.{sum_over, numbers_below}
use Rattle.wrp_sums.proofs.Integers.{linear, one-*ℤ, zero_times}
use Rattle.wrp_sums.proofs.FirstNumbers.{sum_passing_more}
use Rattle.wrp_town.specs.declared.town.Town.{Town}
use Rattle.wrp_town.specs.Arcs.{is_legal, legal_arcs}
use Rattle.wrp_town.proofs.Lists.{range_with_len-more}
use Rattle.wrp_rules.specs.Rows.{one_if}
use Rattle.wrp_webs.specs.Webs.{sum_below}
use Rattle.wrp_webs.specs.TownWebs.{IsOnLegal}

-- ---- rows of ones

pub range_numbers : (n : ℕ) → range_with_len 0 n ≡ numbers_below n
range_numbers zero = refl
range_numbers (suc n) =
    let next : suc n ≡ n + 1 = omega arith in
    ap (range_with_len 0) next ∙ range_with_len-more 0 n n (omega arith) ∙ ap (λ (xs : List ℕ). xs ++ n ∷ []) (range_numbers n)

sum_passing : (f : ℕ → ℤ) (g : ℕ → ℕ) (p : ℕ → Bool) (n : ℕ) → ((i : ℕ) → cond (p i) (f i) (pos 0) ≡ pos (g i)) → sum_over f (filter p (numbers_below n)) ≡ pos (sum_below g n)
sum_passing f g p zero same = refl
sum_passing f g p (suc n) same =
    let next : suc n ≡ n + 1 = omega arith in
    ap (λ (k : ℕ). sum_over f (filter p (numbers_below k))) next ∙ sum_passing_more f p n ∙ omega (arith, linear, sum_passing f g p n same, same n)

one_term : (legal test : Bool) (x : ℕ) → (legal ≡ false → x ≡ 0) → cond legal (one_if test *ℤ pos x) (pos 0) ≡ pos (cond test x 0)
one_term true true x none = one-*ℤ (pos x)
one_term true false x none = zero_times (pos x)
one_term false true x none = ap pos (sym (none refl))
one_term false false x none = refl

-- a row of ones where a test holds sums to the numbers where it holds
pub ones_sum : (town : Town) (x : ℕ → ℕ) (test : ℕ → Bool) → IsOnLegal town x → sum_over (λ arc. one_if (test arc) *ℤ pos (x arc)) (legal_arcs town) ≡ pos (sum_below (λ a. cond (test a) (x a) 0) (2 * length town.streets))
ones_sum town x test on =
    ap (λ (xs : List ℕ). sum_over (λ arc. one_if (test arc) *ℤ pos (x arc)) (filter (is_legal town) xs)) (range_numbers (2 * length town.streets))
    ∙ sum_passing (λ arc. one_if (test arc) *ℤ pos (x arc)) (λ a. cond (test a) (x a) 0) (is_legal town) (2 * length town.streets) (λ a. one_term (is_legal town a) (test a) (x a) (on a))
