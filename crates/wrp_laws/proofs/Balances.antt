-- The balance row of a junction sums to what leaves it less what enters it.
use Rattle.std.proofs.Common.{◌≡◌, ℕ, Bool, true, false, cond, ◌==◌, ℤ, pos, ◌+ℤ◌, ◌-ℤ◌, ◌*ℤ◌, List, [], ◌∷◌, filter, refl, arith}
use Rattle.std.specs.Prelude.{◌↔◌, slice_index}
use Rattle.std.specs.List.{sum_by}
use Rattle.std.proofs.lemmas.List.Sums.{sum_by-cons}
use Rattle.std.proofs.lemmas.Int.{ints}
use Rattle.wrp_sums.specs.Sums.{sum_over}
use Rattle.wrp_sums.proofs.Integers.{linear}
use Rattle.wrp_town.specs.declared.town.Town.{Town}
use Rattle.wrp_town.specs.Arcs.{tail_of, head_of, legal_arcs}
use Rattle.wrp_graph.specs.Balances.{leaving, entering}
use Rattle.wrp_rules.specs.Rows.{one_if, balance_row}
use Rattle.wrp_laws.specs.Meets.{sum_of_counts}

-- items that pass the first test count +1, items that pass the second count -1
sum_of_difference : (f : ℕ → ℕ) (p q : ℕ → Bool) (xs : List ℕ) → sum_over (λ x. (one_if (p x) -ℤ one_if (q x)) *ℤ pos (f x)) xs ≡ pos (sum_by f (filter p xs)) -ℤ pos (sum_by f (filter q xs))
sum_of_difference f p q [] = refl
sum_of_difference f p q (x ∷ xs) = by (p x) (q x) (sum_over (λ x. (one_if (p x) -ℤ one_if (q x)) *ℤ pos (f x)) xs) (sum_of_difference f p q xs)
  where
    by : (s t : Bool) (rest : ℤ) → rest ≡ pos (sum_by f (filter p xs)) -ℤ pos (sum_by f (filter q xs))
        → (one_if s -ℤ one_if t) *ℤ pos (f x) +ℤ rest ≡ pos (sum_by f (cond s (x ∷ filter p xs) (filter p xs))) -ℤ pos (sum_by f (cond t (x ∷ filter q xs) (filter q xs)))
    by true true rest before = omega (arith, ints, before, sum_by-cons f x (filter p xs), sum_by-cons f x (filter q xs))
    by true false rest before = omega (arith, ints, before, sum_by-cons f x (filter p xs))
    by false true rest before = omega (arith, ints, before, sum_by-cons f x (filter q xs))
    by false false rest before = omega (arith, ints, before)

pub balance_sum : (town : Town) (counts : List ℕ) (j : ℕ) → sum_of_counts town (slice_index counts) (balance_row town j).coef ≡ pos (leaving town counts j) -ℤ pos (entering town counts j)
balance_sum town counts j = sum_of_difference (slice_index counts) (λ arc. tail_of town arc == j) (λ arc. head_of town arc == j) (legal_arcs town)

-- so it sums to 0 exactly where the two are equal
pub balanced_where_met : (town : Town) (counts : List ℕ) (j : ℕ) → (leaving town counts j ≡ entering town counts j) ↔ (sum_of_counts town (slice_index counts) (balance_row town j).coef ≡ pos 0)
balanced_where_met town counts j = (
  λ same. omega (arith, linear, balance_sum town counts j),
  λ zero. omega (arith, linear, balance_sum town counts j),
)
