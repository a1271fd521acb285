-- Runs: one step more, and that there is but one.
use Rattle.std.proofs.Common.{◌≡◌, ℕ, zero, suc, ◌+◌, ◌<◌, ◌≤◌, pos, List, [], ◌∷◌, ◌++◌, ap, refl, sym, ◌∙◌, arith, subst, length, get_or, take, add-one, length-append, eq-or-lt_of_le, inl, inr}
use Rattle.std.proofs.Math.Seq.{take-append_seam, take-append-add, get_or-append_seam, take-length}
use Rattle.std.proofs.Math.ListN.{get_or-append}
use Rattle.std.proofs.lemmas.Bool.{cases_eq, cases_lt}
use Rattle.std.proofs.lemmas.List.{take-append-le, take_more}
use Rattle.wrp_tableau.specs.Systems.{System, row, basic, pivoted, IsWide}
use Rattle.wrp_tableau.specs.Soundness.{IsSound}
use Rattle.wrp_simplex.specs.Steps.{IsDualStep, IsDualFeasible, IsLeaving, IsEntering, IsNext, IsRun, after_steps}
use Rattle.wrp_simplex.specs.Follows.{Follows}
use Rattle.wrp_simplex.specs.Runs.{IsRunFrom}
use Rattle.wrp_simplex.specs.Ends.{IsStuck, IsRefused, IsSpent, EndsSo, IsWholeRun}
use Rattle.wrp_simplex.specs.declared.end.RunEnd.{RunEnd}
use Rattle.wrp_simplex.specs.declared.end.RunEnd.TheVariants as ends
use Rattle.wrp_simplex.proofs.Follows.{follows_itself, follows_pivot}

-- one more pivot, at the end
pub after_steps-push : (s : System) (steps : List (ℕ × ℕ)) (step : ℕ × ℕ) → after_steps s (steps ++ step ∷ []) ≡ pivoted (after_steps s steps) step.0 step.1
after_steps-push s [] step = refl
after_steps-push s (t ∷ steps) step = after_steps-push (pivoted s t.0 t.1) steps step

pub after_steps_more : (s : System) (steps : List (ℕ × ℕ)) (k : ℕ) → k < length steps
    → after_steps s (take (k + 1) steps) ≡ pivoted (after_steps s (take k steps)) (get_or steps k (0, 0)).0 (get_or steps k (0, 0)).1
after_steps_more s steps k h = ap (after_steps s) (take_more steps k (0, 0) h) ∙ after_steps-push s (take k steps) (get_or steps k (0, 0))

-- a run and its next step, which isn't wide
pub run-push : (s : System) (steps : List (ℕ × ℕ)) (step : ℕ × ℕ) → IsRun s steps → IsNext (after_steps s steps) (length steps) step → (IsWide (pivoted (after_steps s steps) step.0 step.1) → ⊥) → IsRun s (steps ++ step ∷ [])
run-push s steps step run next narrow = record {
  next = λ k h. elim (eq-or-lt_of_le (at_most k h)) [
    | inl same ↦ subst (λ k. IsNext (after_steps s (take k (steps ++ step ∷ []))) k (get_or (steps ++ step ∷ []) k (0, 0))) (sym same)
        (rw (take-append_seam steps (step ∷ []), get_or-append_seam steps step [] (0, 0)) next)
    | inr below ↦ rw (take-append-le k steps (step ∷ []) (omega arith), get_or-append steps (step ∷ []) (0, 0) k below) (run.next k below)
  ];
  narrow = λ k h wide. elim (eq-or-lt_of_le (at_most k h)) [
    | inl same ↦ narrow (subst IsWide (ap (after_steps s) (ap (λ (n : ℕ). take (n + 1) (steps ++ step ∷ [])) same ∙ take_whole) ∙ after_steps-push s steps step) wide)
    | inr below ↦ run.narrow k below (subst IsWide (ap (after_steps s) (take-append-le (k + 1) steps (step ∷ []) (omega arith))) wide)
  ];
}
  where
    at_most : (k : ℕ) → k < length (steps ++ step ∷ []) → k ≤ length steps
    at_most k h = let e = length-append steps (step ∷ []) in omega arith

    take_whole : take (length steps + 1) (steps ++ step ∷ []) ≡ steps ++ step ∷ []
    take_whole = take-append-add steps (step ∷ []) 1

-- the empty run
pub run_start : (s : System) → IsSound s → IsDualFeasible s → IsRunFrom s [] s
run_start s sound dual = record {
  after = refl;
  run = record { next = λ k h. absurd (omega arith); narrow = λ k h. absurd (omega arith) };
  follows = follows_itself s sound;
  dual = dual;
}

pub run_more : (s : System) (steps : List (ℕ × ℕ)) (t : System) (r c : ℕ) → IsRunFrom s steps t → IsNext t (length steps) (r, c) → (IsWide (pivoted t r c) → ⊥) → IsRunFrom s (steps ++ (r, c) ∷ []) (pivoted t r c)
run_more s steps t r c so_far next narrow = record {
  after = ap (λ (u : System). pivoted u r c) so_far.after ∙ sym (after_steps-push s steps (r, c));
  run = run-push s steps (r, c) so_far.run (subst (λ u. IsNext u (length steps) (r, c)) so_far.after next) (subst (λ u. IsWide (pivoted u r c) → ⊥) so_far.after narrow);
  follows = follows_pivot t r c so_far.follows.sound next.leaving.broken.there next.entering.dual.entry s so_far.follows;
  dual = next.entering.dual.dual;
}

-- ---- there is one run
module _ (s : System) (sound : IsSound s) where
  one_leaves : (n r k : ℕ) → IsLeaving s n r → IsLeaving s n k → r ≡ k
  one_leaves n r k one other = elim (cases_eq r k) [
    | inl same ↦ same
    | inr differ ↦ absurd (sound.own k other.broken.there
        (subst (λ b. (row s k).entry b ≡ pos 0) same_basic (sound.alone r k one.broken.there other.broken.there (λ e. differ (sym e)))))
  ]
    where
      same_basic : basic s r ≡ basic s k
      same_basic =
          let a = one.first k other.broken (λ early. other.least early r one.broken) in
          let b = other.first r one.broken (λ early. one.least early k other.broken) in
          omega arith

  one_enters : (r c d : ℕ) → IsEntering s r c → IsEntering s r d → c ≡ d
  one_enters r c d one other = let a = one.first d other.dual in let b = other.first c one.dual in omega arith

  pub one_next : (n : ℕ) (a b : ℕ × ℕ) → IsNext s n a → IsNext s n b → a ≡ b
  one_next n (r, c) (k, d) one other =
      let rows : r ≡ k = one_leaves n r k one.leaving other.leaving in
      let columns : c ≡ d = one_enters k c d (subst (λ i. IsEntering s i c) rows one.entering) other.entering in
      ap (λ (i : ℕ). (i, c)) rows ∙ ap (λ (j : ℕ). (k, j)) columns

-- what each system on the way keeps
pub run_follows : (s : System) (steps : List (ℕ × ℕ)) → IsSound s → IsRun s steps → (k : ℕ) → k ≤ length steps → Follows s (after_steps s (take k steps))
run_follows s steps sound run zero h = follows_itself s sound
run_follows s steps sound run (suc k) h =
    let before = run_follows s steps sound run k (omega arith) in
    let next = run.next k (omega arith) in
    subst (Follows s) (sym (ap (λ (n : ℕ). after_steps s (take n steps)) (sym (add-one k)) ∙ after_steps_more s steps k (omega arith)))
    (follows_pivot (after_steps s (take k steps)) (get_or steps k (0, 0)).0 (get_or steps k (0, 0)).1 before.sound next.leaving.broken.there next.entering.dual.entry s before)

module _ (s : System) (a b : List (ℕ × ℕ)) (sound : IsSound s) (one : IsRun s a) (other : IsRun s b) where
  same_beginning : (k : ℕ) → k ≤ length a → k ≤ length b → take k a ≡ take k b
  same_beginning zero h i = refl
  same_beginning (suc k) h i =
      let so_far = same_beginning k (omega arith) (omega arith) in
      let here = (run_follows s a sound one k (omega arith)).sound in
      let step : get_or a k (0, 0) ≡ get_or b k (0, 0) =
      one_next (after_steps s (take k a)) here k (get_or a k (0, 0)) (get_or b k (0, 0)) (one.next k (omega arith))
      (subst (λ l. IsNext (after_steps s l) k (get_or b k (0, 0))) (sym so_far) (other.next k (omega arith))) in
      ap (λ (n : ℕ). take n a) (sym (add-one k)) ∙ take_more a k (0, 0) (omega arith)
      ∙ ap (λ (l : List (ℕ × ℕ)). l ++ get_or a k (0, 0) ∷ []) so_far ∙ ap (λ (x : ℕ × ℕ). take k b ++ x ∷ []) step
      ∙ sym (take_more b k (0, 0) (omega arith)) ∙ ap (λ (n : ℕ). take n b) (add-one k)

  pub one_run : length a ≤ length b → a ≡ take (length a) b
  one_run h = sym (take-length a) ∙ same_beginning (length a) (omega arith) h

-- ---- the whole run within a limit
module _ (t : System) (limit n : ℕ) (sound : IsSound t) where
  -- where a run ends below the limit, there is no next step
  no_further : (end : RunEnd) → EndsSo t limit n end → n < limit → (step : ℕ × ℕ) → IsNext t n step → (IsWide (pivoted t step.0 step.1) → ⊥) → ⊥
  no_further ends.Optimal so below step next narrow = so step.0 next.leaving.broken
  no_further (ends.Empty r) so below step next narrow =
      so.none step.1 (subst (λ k. IsDualStep t k step.1) (one_leaves t sound n step.0 r next.leaving so.leaving) next.entering.dual)
  no_further ends.Wide so below step next narrow =
      narrow (subst (λ (x : ℕ × ℕ). IsWide (pivoted t x.0 x.1)) (one_next t sound n so.step step so.next next) so.wide)
  no_further ends.Pivots so below step next narrow = let all = so.all in absurd (omega arith)

  stuck_or_refused : (k : ℕ) → IsStuck t limit n k → IsRefused t limit n → ⊥
  stuck_or_refused k stuck refused =
      stuck.none refused.step.1
      (subst (λ r. IsDualStep t r refused.step.1) (one_leaves t sound n refused.step.0 k refused.next.leaving stuck.leaving) refused.next.entering.dual)

  spent_not_below : IsSpent t limit n → n < limit → ⊥
  spent_not_below spent below = let all = spent.all in absurd (omega arith)

  pub one_end : (one other : RunEnd) → EndsSo t limit n one → EndsSo t limit n other → one ≡ other
  one_end ends.Optimal ends.Optimal so too = refl
  one_end ends.Optimal (ends.Empty r) so too = absurd (so r too.leaving.broken)
  one_end ends.Optimal ends.Wide so too = absurd (so too.step.0 too.next.leaving.broken)
  one_end ends.Optimal ends.Pivots so too = absurd (so too.row too.broken)
  one_end (ends.Empty r) ends.Optimal so too = absurd (too r so.leaving.broken)
  one_end (ends.Empty r) (ends.Empty other) so too = ap (λ (k : ℕ). ends.Empty k) (one_leaves t sound n r other so.leaving too.leaving)
  one_end (ends.Empty r) ends.Wide so too = absurd (stuck_or_refused r so too)
  one_end (ends.Empty r) ends.Pivots so too = absurd (spent_not_below too so.within)
  one_end ends.Wide ends.Optimal so too = absurd (too so.step.0 so.next.leaving.broken)
  one_end ends.Wide (ends.Empty r) so too = absurd (stuck_or_refused r too so)
  one_end ends.Wide ends.Wide so too = refl
  one_end ends.Wide ends.Pivots so too = absurd (spent_not_below too so.within)
  one_end ends.Pivots ends.Optimal so too = absurd (too so.row so.broken)
  one_end ends.Pivots (ends.Empty r) so too = absurd (spent_not_below so too.within)
  one_end ends.Pivots ends.Wide so too = absurd (spent_not_below so too.within)
  one_end ends.Pivots ends.Pivots so too = refl

pub follows_run : (s : System) (steps : List (ℕ × ℕ)) → IsSound s → IsRun s steps → Follows s (after_steps s steps)
follows_run s steps sound run = subst (λ l. Follows s (after_steps s l)) (take-length steps) (run_follows s steps sound run (length steps) (omega arith))

module _ (s : System) (limit : ℕ) (sound : IsSound s) where
  pub longest_run : (a b : List (ℕ × ℕ)) (end : RunEnd) → IsWholeRun s limit a end → IsRun s b → length b ≤ limit → length b ≤ length a
  longest_run a b end whole run within = elim (cases_lt (length a) (length b)) [
    | inl longer ↦ absurd (further longer)
    | inr past ↦ past
  ]
    where
      further : length a < length b → ⊥
      further longer =
          let k = length a in
          let same : take k b ≡ a = sym (one_run s a b sound whole.run run (omega arith)) in
          let step = get_or b k (0, 0) in
          let next : IsNext (after_steps s a) k step = subst (λ l. IsNext (after_steps s l) k step) same (run.next k longer) in
          no_further (after_steps s a) limit k (follows_run s a sound whole.run).sound end whole.ends (omega arith) step next
          (λ wide. run.narrow k longer (subst IsWide (sym (after_steps_more s b k longer ∙ ap (λ l. pivoted (after_steps s l) step.0 step.1) same)) wide))

  pub only_run : (a b : List (ℕ × ℕ)) (one other : RunEnd) → IsWholeRun s limit a one → IsWholeRun s limit b other → a ≡ b
  only_run a b one other first second =
      let below = longest_run a b one first second.run second.within in
      let above = longest_run b a other second first.run first.within in
      let same : length a ≡ length b = omega arith in
      one_run s a b sound first.run second.run above ∙ ap (λ (n : ℕ). take n b) same ∙ take-length b
