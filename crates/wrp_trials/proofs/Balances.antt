-- Sums of numbers at the ends of arcs, and a junction that as much leaves as enters.
use Rattle.std.proofs.Common.{◌≡◌, ℕ, ◌*◌, ◌+◌, Bool, true, false, cond, ◌==◌, ℤ, pos, ◌+ℤ◌, ◌-ℤ◌, ◌*ℤ◌, length, ap, sym, ◌∙◌, arith}
use Rattle.std.proofs.lemmas.Int.{ints}
use Rattle.wrp_sums.proofs.Integers.{linear}
use Rattle.wrp_sums.proofs.SumsOver.{sum_over-+ℤ, sum_over-ext}
use Rattle.wrp_town.specs.declared.town.Town.{Town}
use Rattle.wrp_town.specs.Arcs.{tail_of, head_of, legal_arcs}
use Rattle.wrp_rules.specs.Rows.{one_if, balance_row}
use Rattle.wrp_laws.specs.Meets.{sum_of_counts}
use Rattle.wrp_webs.specs.Nets.{sum_at_end}
use Rattle.wrp_webs.specs.TownWebs.{IsOnLegal}
use Rattle.wrp_webs.proofs.SumsBelow.{sum_more}
use Rattle.wrp_webs.proofs.LegalSums.{ones_sum}

one_balanced : (t h : Bool) (n : ℕ) → (one_if t -ℤ one_if h) *ℤ pos n +ℤ one_if h *ℤ pos n ≡ one_if t *ℤ pos n
one_balanced true true n = omega (arith, ints)
one_balanced true false n = omega (arith, ints)
one_balanced false true n = omega (arith, ints)
one_balanced false false n = omega (arith, ints)

none_left : (z : ℤ) (m n : ℕ) → z +ℤ pos n ≡ pos m → m ≡ n → z ≡ pos 0
none_left z m n sum same = omega (arith, linear, sum)

pub even_junction : (town : Town) (x : ℕ → ℕ) → IsOnLegal town x → (j : ℕ)
    → sum_at_end (2 * length town.streets) (tail_of town) x j ≡ sum_at_end (2 * length town.streets) (head_of town) x j → sum_of_counts town x (balance_row town j).coef ≡ pos 0
even_junction town x on j same =
    none_left (sum_of_counts town x (balance_row town j).coef) (sum_at_end (2 * length town.streets) (tail_of town) x j) (sum_at_end (2 * length town.streets) (head_of town) x j)
    (ap (λ (z : ℤ). sum_of_counts town x (balance_row town j).coef +ℤ z) (sym (ones_sum town x (λ a. head_of town a == j) on))
    ∙ sym (sum_over-+ℤ (λ a. (one_if (tail_of town a == j) -ℤ one_if (head_of town a == j)) *ℤ pos (x a)) (λ a. one_if (head_of town a == j) *ℤ pos (x a)) (legal_arcs town))
    ∙ sum_over-ext (λ a. (one_if (tail_of town a == j) -ℤ one_if (head_of town a == j)) *ℤ pos (x a) +ℤ one_if (head_of town a == j) *ℤ pos (x a)) (λ a. one_if (tail_of town a == j) *ℤ pos (x a))
    (λ a. one_balanced (tail_of town a == j) (head_of town a == j) (x a)) (legal_arcs town)
    ∙ ones_sum town x (λ a. tail_of town a == j) on)
    same

-- the sum with one more arc
pub sum_further : (end x : ℕ → ℕ) (j n sum term at number : ℕ) → sum ≡ sum_at_end n end x j → at ≡ end n → number ≡ x n → term ≡ cond (at == j) number 0 → sum + term ≡ sum_at_end (n + 1) end x j
sum_further end x j n sum term at number so_far at_is number_is term_is =
    let next : term ≡ cond (end n == j) (x n) 0 = term_is ∙ ap (λ (k : ℕ). cond (k == j) number 0) at_is ∙ ap (λ (k : ℕ). cond (end n == j) k 0) number_is in
    omega (arith, sum_more (λ a. cond (end a == j) (x a) 0) n)
