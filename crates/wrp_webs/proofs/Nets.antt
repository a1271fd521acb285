-- What leaves a set and what enters it, by the sums at nodes.
use Rattle.std.proofs.Common.{◌≡◌, ℕ, ◌+◌, ◌<◌, Bool, true, false, cond, ◌&&◌, not, ◌==◌, sym, ◌∙◌, arith}
use Rattle.wrp_webs.specs.Webs.{sum_below}
use Rattle.wrp_webs.specs.Nets.{sum_at_end, leaving, entering}
use Rattle.wrp_webs.proofs.SumsBelow.{same_sum, sum_of_sums, sum_single, sum_exchange}
use Rattle.wrp_webs.proofs.Splitting.{swap_conds, out_of_cond}

one_shared : (a b : Bool) (w : ℕ) → cond (a && b) w 0 + cond (a && not b) w 0 ≡ cond a w 0
one_shared true true w = omega arith
one_shared true false w = omega arith
one_shared false true w = omega arith
one_shared false false w = omega arith

one_entered : (a b : Bool) (w : ℕ) → cond (a && b) w 0 + cond (not a && b) w 0 ≡ cond b w 0
one_entered true true w = omega arith
one_entered true false w = omega arith
one_entered false true w = omega arith
one_entered false false w = omega arith

module _ (nodes n : ℕ) where
  -- the numbers of the arcs whose end is in a set, by nodes
  pub ends_in : (end x : ℕ → ℕ) → ((a : ℕ) → a < n → end a < nodes) → (set : ℕ → Bool) → sum_below (λ j. cond (set j) (sum_at_end n end x j) 0) nodes ≡ sum_below (λ a. cond (set (end a)) (x a) 0) n
  ends_in end x below set =
      same_sum (λ j. cond (set j) (sum_at_end n end x j) 0) (λ j. sum_below (λ a. cond (end a == j) (cond (set j) (x a) 0) 0) n) nodes
      (λ j less. sym (out_of_cond (set j) (λ a. cond (end a == j) (x a) 0) n)
      ∙ same_sum (λ a. cond (set j) (cond (end a == j) (x a) 0) 0) (λ a. cond (end a == j) (cond (set j) (x a) 0) 0) n (λ a under. swap_conds (set j) (end a == j) (x a)))
      ∙ sum_exchange (λ j a. cond (end a == j) (cond (set j) (x a) 0) 0) nodes n
      ∙ same_sum (λ a. sum_below (λ j. cond (end a == j) (cond (set j) (x a) 0) 0) nodes) (λ a. cond (set (end a)) (x a) 0) n
      (λ a under. sum_single (λ j. cond (set j) (x a) 0) (end a) nodes (below a under))

  -- what leaves a set and what enters it differ as the sums at the ends of arcs do
  pub leaving_and_entering : (tail head x : ℕ → ℕ) → ((a : ℕ) → a < n → tail a < nodes) → ((a : ℕ) → a < n → head a < nodes) → (set : ℕ → Bool)
      → leaving n tail head x set + sum_below (λ j. cond (set j) (sum_at_end n head x j) 0) nodes ≡ entering n tail head x set + sum_below (λ j. cond (set j) (sum_at_end n tail x j) 0) nodes
  leaving_and_entering tail head x tails heads set =
      omega (
        arith,
        ends_in tail x tails set,
        ends_in head x heads set,
        sum_of_sums (λ a. cond (set (tail a) && set (head a)) (x a) 0) (λ a. cond (set (tail a) && not (set (head a))) (x a) 0) n,
        sum_of_sums (λ a. cond (set (tail a) && set (head a)) (x a) 0) (λ a. cond (not (set (tail a)) && set (head a)) (x a) 0) n,
        same_sum (λ a. cond (set (tail a) && set (head a)) (x a) 0 + cond (set (tail a) && not (set (head a))) (x a) 0) (λ a. cond (set (tail a)) (x a) 0) n
            (λ a below. one_shared (set (tail a)) (set (head a)) (x a)),
        same_sum (λ a. cond (set (tail a) && set (head a)) (x a) 0 + cond (not (set (tail a)) && set (head a)) (x a) 0) (λ a. cond (set (head a)) (x a) 0) n
            (λ a below. one_entered (set (tail a)) (set (head a)) (x a)),
      )
