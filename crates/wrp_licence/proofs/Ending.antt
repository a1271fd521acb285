-- A node has one run that ends.
use Rattle.std.proofs.Common.{◌≡◌, ℕ, ◌≤◌, ◌≤ℤ◌, ℤ, pos, negsuc, unsigned_abs, inl, inr, List, length, ap, refl, sym, subst, arith}
use Rattle.std.specs.List.{range_with_len}
use Rattle.wrp_sums.proofs.Integers.{linear}
use Rattle.wrp_town.specs.declared.town.Town.{Town}
use Rattle.wrp_rules.specs.Rows.{Row}
use Rattle.wrp_rules.specs.Nodes.{Standing, node_at}
use Rattle.wrp_rows.specs.declared.point.Bounds.{Bounds}
use Rattle.wrp_rows.specs.Pools.{RowPool, HasRowsOf}
use Rattle.wrp_rows.specs.Points.{AreBoundsOf}
use Rattle.wrp_tableau.specs.Systems.{System}
use Rattle.wrp_simplex.specs.declared.end.RunEnd.{RunEnd}
use Rattle.wrp_simplex.specs.declared.end.RunEnd.TheVariants as ends
use Rattle.wrp_simplex.specs.Steps.{after_steps}
use Rattle.wrp_simplex.specs.Ends.{EndsSo}
use Rattle.wrp_simplex.proofs.Runs.{one_end, follows_run, longest_run, only_run}
use Rattle.wrp_lp.specs.declared.lp.Lp.{Lp}
use Rattle.wrp_lp.specs.declared.lp.Lp.TheVariants.{Optimal, Empty, Wide, Pivots}
use Rattle.wrp_lp.specs.Programs.{denominator_of}
use Rattle.wrp_lp.specs.Answers.{relaxed, steps_of, EndsAt, IsRunWithin}
use Rattle.wrp_bound.specs.Mults.{FitABound}
use Rattle.wrp_box.specs.Relaxing.{all_rows, IsRelaxed}
use Rattle.wrp_box.specs.Records.{FitsNone}
use Rattle.wrp_licence.specs.Runs.{row_numbers, start_at, most_pivots, IsRunAt, end_at, IsEndedRun}
use Rattle.wrp_licence.specs.Hard.{EndsHard, IsHard}
use Rattle.wrp_licence.proofs.Starts.{sound_at}
use Rattle.wrp_licence.proofs.Same.{same_numbers, same_start, start_kept}

-- what the end of a hard node, or of an answer, is
pub hard_end : (s : System) (chosen : List ℕ) (n : ℕ) → EndsHard s chosen n → (end : RunEnd) × EndsSo s most_pivots n end
hard_end s chosen n (inl spent) = (ends.Pivots, spent)
hard_end s chosen n (inr (inl refused)) = (ends.Wide, refused)
hard_end s chosen n (inr (inr (inl bound))) = (ends.Optimal, bound.feasible)
hard_end s chosen n (inr (inr (inr empty))) = (ends.Empty empty.row, empty.stuck)

pub hard_ended : (town : Town) (s : Standing) (node : ℕ) (hard : IsHard town s node) → (end : RunEnd) × IsEndedRun town s node hard.steps end
hard_ended town s node hard =
    let so = hard_end (end_at town s node hard.steps) (row_numbers s) (length hard.steps) hard.ends in
    (so.0, record { run = hard.run.run; within = hard.run.within; ends = so.1 })

-- a node has one run that ends, and no longer one
module _ (town : Town) (s : Standing) (node : ℕ) where
  pub one_run : (a b : List (ℕ × ℕ)) (one other : RunEnd) → IsEndedRun town s node a one → IsEndedRun town s node b other → a ≡ b
  one_run a b one other first second = only_run (start_at town s node) most_pivots (sound_at town s node) a b one other first second

  pub same_end : (a b : List (ℕ × ℕ)) (one other : RunEnd) → IsEndedRun town s node a one → IsEndedRun town s node b other → one ≡ other
  same_end a b one other first second =
      one_end (end_at town s node b) most_pivots (length b) (follows_run (start_at town s node) b (sound_at town s node) second.run).sound one other
      (subst (λ (steps : List (ℕ × ℕ)). EndsSo (end_at town s node steps) most_pivots (length steps) one) (one_run a b one other first second) first.ends)
      second.ends

  pub no_longer : (a b : List (ℕ × ℕ)) (end : RunEnd) → IsEndedRun town s node a end → IsRunAt town s node b → length b ≤ length a
  no_longer a b end whole run = longest_run (start_at town s node) most_pivots (sound_at town s node) a b end whole run.run run.within

positive_size : (z : ℤ) → pos 1 ≤ℤ z → pos (unsigned_abs z) ≡ z
positive_size (pos n) above = refl
positive_size (negsuc n) above = absurd (omega (arith, linear, above))

-- an answer that gives no record of its node ends hard
answer_hard : (s : System) (chosen : List ℕ) (lp : Lp) → EndsAt s chosen most_pivots lp → FitsNone lp → EndsHard s chosen (length (steps_of lp))
answer_hard s chosen (Optimal point mult table taken) ends none =
    let read = ends.2 in
    let den_is : pos (denominator_of point) ≡ point.den = positive_size point.den read.range.positive in
    inr (inr (inl (record {
      feasible = ends.0;
      unfit = inr (record {
        den = denominator_of point;
        least = read.den;
        unfit = λ fit. none
            (subst (λ d. FitABound d mult) den_is
            (subst (FitABound (pos (denominator_of point))) (sym read.multipliers) fit));
      });
    })))
answer_hard s chosen (Empty mult taken) ends none =
    inr (inr (inr (record {
      row = ends.row;
      stuck = ends.stuck;
      unfit = λ fit. none (subst (FitABound (pos 1)) (sym ends.multipliers) fit);
    })))
answer_hard s chosen (Wide taken) (inl refused) none = inr (inl refused)
answer_hard s chosen (Wide taken) (inr wide) none =
    inr (inr (inl (record {
      feasible = wide.feasible;
      unfit = inl (λ den some whole. omega (arith, wide.wide den some whole));
    })))
answer_hard s chosen (Pivots taken) ends none = inl ends

module _ (s : Standing) (node : ℕ) (pool : RowPool) (bounds : Bounds) (has : HasRowsOf s pool) (are : AreBoundsOf pool.town (node_at pool.town s node) bounds) (lp : Lp) (relaxed_so : IsRelaxed pool bounds most_pivots lp) where
  start_is : relaxed pool (all_rows pool) bounds ≡ start_at pool.town s node
  start_is = same_start s node pool bounds has are

  -- the steps of an answer are a run of the node
  pub run_of_answer : IsRunAt pool.town s node (steps_of lp)
  run_of_answer = subst (λ t. IsRunWithin t most_pivots (steps_of lp)) start_is relaxed_so.run

  pub ends_of_answer : EndsAt (end_at pool.town s node (steps_of lp)) (row_numbers s) most_pivots lp
  ends_of_answer =
      subst (λ chosen. EndsAt (end_at pool.town s node (steps_of lp)) chosen most_pivots lp) (same_numbers s node pool bounds has are)
      (subst (λ t. EndsAt (after_steps t (steps_of lp)) (all_rows pool) most_pivots lp) start_is relaxed_so.end)

  pub hard_by_answer : FitsNone lp → IsHard pool.town s node
  hard_by_answer none = record {
    steps = steps_of lp;
    run = run_of_answer;
    ends = answer_hard (end_at pool.town s node (steps_of lp)) (row_numbers s) lp ends_of_answer none;
  }

-- where the rows and the box are the same, the node is hard still
pub hard_kept : (town : Town) (s t : Standing) (node : ℕ) → t.rows ≡ s.rows → (node_at town t node).lo ≡ (node_at town s node).lo → (node_at town t node).hi ≡ (node_at town s node).hi → IsHard town s node → IsHard town t node
hard_kept town s t node rows lo hi hard =
    let start_is = sym (start_kept town s t node rows lo hi) in
    record {
      steps = hard.steps;
      run = subst (λ u. IsRunWithin u most_pivots hard.steps) start_is hard.run;
      ends =
          subst (λ chosen. EndsHard (end_at town t node hard.steps) chosen (length hard.steps)) (ap (λ (rs : List Row). range_with_len 0 (length rs)) (sym rows))
          (subst (λ u. EndsHard (after_steps u hard.steps) (row_numbers s) (length hard.steps)) start_is hard.ends);
    }
