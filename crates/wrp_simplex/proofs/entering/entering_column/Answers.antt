-- Each term is compared with the best so far; the best is the next step's column.
use Rattle.std.proofs.Common.{◌≡◌, ◌≢◌, ℕ, ◌+◌, ◌<◌, ◌≤◌, ◌^◌, suc, inl, inr, [], ◌∷◌, unsigned_abs, length, get_or, true, Option, None, Some, List, ℤ, pos, ◌*ℤ◌, ◌≤ℤ◌, ◌<ℤ◌, arith, subst, refl, sym, ap, ◌∙◌}
use Rattle.std.specs.Option.{MatchOption}
use Rattle.std.specs.Int.{w128}
use mir.Val.{to_z, of_z}
use Rattle.std.proofs.lemmas.Bool.{cases_eq, ne_eqb}
use Rattle.wrp_sums.specs.Sums.{coef_at}
use Rattle.wrp_sums.proofs.Integers.{linear, times_zero}
use Rattle.wrp_tableau.specs.Equations.{sign_of}
use Rattle.wrp_tableau.specs.Sparse.{IsSparse, number_at}
use Rattle.wrp_tableau.specs.Systems.{System, row, variables, reduced_cost}
use Rattle.wrp_tableau.specs.Soundness.{IsSound}
use Rattle.wrp_tableau.specs.Kept.{system}
use Rattle.wrp_tableau.proofs.Factoring.{cast, entry_at_term}
use Rattle.wrp_tableau.proofs.Pivots.{column}
use Rattle.wrp_simplex.specs.declared.candidate.Candidate.{Candidate}
use Rattle.wrp_simplex.specs.Steps.{IsBroken, IsDualFeasible, HasNoStep, IsEntering}
use Rattle.wrp_simplex.specs.Candidates.{IsSizedColumn, column_candidate, signed_entry, IsRightColumn, right_column, IsNoLater, IsFirstOf, IsChosen, IsBest}
use Rattle.wrp_simplex.proofs.Choosing.{best_none, best_some}
use Rattle.wrp_simplex.proofs.Ratios.{ratio_of_dual, dual_of_ratio}
use Rattle.wrp_simplex.proofs.entering.entering_column.Goals as goal

-- a column with an entry is that of a term
place_of : (terms : List (ℕ × ℤ)) (c : ℕ) → coef_at terms c ≢ pos 0 → (k : ℕ) × (k < length terms) × (number_at terms k ≡ c)
place_of [] c some = absurd (some refl)
place_of (t ∷ terms) c some = elim (cases_eq t.0 c) [
  | inl same ↦ (0, omega arith, same)
  | inr other ↦ (let rest = place_of terms c (λ none. some (rw (ne_eqb t.0 c other) (omega (arith, linear, none)))) in (suc rest.0, (let h = rest.1 in omega arith), rest.2))
]

module _ (s : System) (r : ℕ) (terms : List (ℕ × ℤ)) (sound : IsSound s) (broken : IsBroken s r)
    (entries : (c : ℕ) → coef_at terms c ≡ (row s r).entry c) where
  abbrev Eligible : ℕ → Type 0
  Eligible = IsRightColumn s r terms

  abbrev column_of : ℕ → Candidate
  column_of = right_column s r terms

  some_entry : (c : ℕ) → pos 0 <ℤ signed_entry s r c → (row s r).entry c ≢ pos 0
  some_entry c above none = absurd (omega (arith, linear, above, ap (λ (z : ℤ). sign_of (row s r).right *ℤ z) none, times_zero (sign_of (row s r).right)))

  place : (c : ℕ) → (row s r).entry c ≢ pos 0 → (k : ℕ) × (k < length terms) × (number_at terms k ≡ c)
  place c some = place_of terms c (λ none. some (sym (entries c) ∙ none))

  more : (n : ℕ) (size : ℤ) (best next result : Option Candidate) → size ≡ signed_entry s r (number_at terms n) → IsBest true Eligible column_of n best
      → MatchOption next (pos 0 <ℤ size → ⊥) (IsSizedColumn s (number_at terms n) size) → IsFirstOf true best next result → IsBest true Eligible column_of (n + 1) result
  more n size best None result is so_far none e =
      best_none true Eligible column_of n (λ k above. above) best result so_far (λ above. none (subst (λ z. pos 0 <ℤ z) (sym is) above)) e
  more n size best (Some a) result is so_far some e =
      best_some true Eligible column_of n (λ k above. above) best a result so_far (subst (λ z. pos 0 <ℤ z) is some.above)
      (some.is ∙ ap (column_candidate s (number_at terms n)) is) e

  no_step : (n : ℕ) → length terms ≤ n → ((k : ℕ) → k < n → Eligible k → ⊥) → HasNoStep s r
  no_step n all none c step =
      let at = place c step.entry in
      none at.0 (let h = at.1 in omega arith)
      (subst (λ j. pos 0 <ℤ signed_entry s r j) (sym at.2) (ratio_of_dual s r c sound broken step.entry step).candidate)

  entering : IsDualFeasible s → (n : ℕ) (a : Candidate) → length terms ≤ n → IsChosen true Eligible column_of n a → IsEntering s r a.place
  entering dual n a all is = subst (IsEntering s r) (sym (ap (λ (b : Candidate). b.place) is.is)) (record {
    dual = dual_of_ratio s r c sound broken some dual (record { there = column s r c sound broken.there some; candidate = is.eligible; least = least });
    first = λ d step.
        let ratio = ratio_of_dual s r d sound broken step.entry step in
        let k = place d step.entry in
        subst (λ j. c ≤ j) k.2 ((against k.0 (let h = k.1 in omega arith) (subst (λ j. pos 0 <ℤ signed_entry s r j) (sym k.2) ratio.candidate)).first
        (λ counts. subst (λ j. (reduced_cost s j *ℤ signed_entry s r c) ≤ℤ (reduced_cost s c *ℤ signed_entry s r j)) (sym k.2)
        (ratio.least c (column s r c sound broken.there some) is.eligible)));
  })
    where
      c : ℕ
      c = number_at terms is.at

      some : (row s r).entry c ≢ pos 0
      some = some_entry c is.eligible

      against : (k : ℕ) → k < n → Eligible k → IsNoLater true (column_of is.at) (column_of k)
      against k h eligible = subst (λ b. IsNoLater true b (column_of k)) is.is (is.first k h eligible)

      least : (j : ℕ) → j < variables s → pos 0 <ℤ signed_entry s r j → (reduced_cost s c *ℤ signed_entry s r j) ≤ℤ (reduced_cost s j *ℤ signed_entry s r c)
      least j h above =
          let k = place j (some_entry j above) in
          subst (λ i. (reduced_cost s c *ℤ signed_entry s r i) ≤ℤ (reduced_cost s i *ℤ signed_entry s r c)) k.2
          ((against k.0 (let i = k.1 in omega arith) (subst (λ i. pos 0 <ℤ signed_entry s r i) (sym k.2) above)).least refl)

-- the size that the code finds at term k
size_is : (s : System) (r k : ℕ) (terms : List (ℕ × ℤ)) (x size : ℤ) → IsSparse (2 ^ 60) terms → ((c : ℕ) → coef_at terms c ≡ (row s r).entry c) → k < length terms
    → x ≡ (row s r).right → unsigned_abs x ≤ 2 ^ 60 → unsigned_abs size ≤ 2 ^ 60
    → size ≡ sign_of (to_z w128 (of_z w128 x)) *ℤ to_z w128 (of_z w128 (get_or terms k (0, pos 0)).1) → to_z w128 (of_z w128 size) ≡ signed_entry s r (number_at terms k)
size_is s r k terms x size sparse entries h x_is x_small size_small is =
    let small = sparse.small k (0, pos 0) h in
    let entry : (get_or terms k (0, pos 0)).1 ≡ (row s r).entry (number_at terms k) = sym (entry_at_term terms k sparse.ascending h) ∙ entries (number_at terms k) in
    cast size (omega arith) ∙ is
    ∙ ap (λ (z : ℤ). sign_of z *ℤ to_z w128 (of_z w128 (get_or terms k (0, pos 0)).1)) (cast x (omega arith) ∙ x_is)
    ∙ ap (λ (z : ℤ). sign_of (row s r).right *ℤ z) (cast (get_or terms k (0, pos 0)).1 (omega arith) ∙ entry)

pub loop-column-preserved : goal.loop-column-preserved
loop-column-preserved c =
    let s = system c.args.tableau.now in
    let terms = c.row-column-items.result.now in
    let k = c.loop-column.column-index in
    record {
      sized = c.first_of-best.ensures.sized;
      best = more s c.args.row terms c.requires.sound c.requires.broken c.row-column-items.ensures.entries k (to_z w128 (of_z w128 c.signed-size.result))
          c.loop-column.best c.sized_column.result c.first_of-best.result
          (size_is s c.args.row k terms c.right-right.result c.signed-size.result c.row-column-items.ensures.sparse c.row-column-items.ensures.entries c.loop-column-test.true
          c.right-right.ensures.value c.right-right.ensures.small c.signed-size.ensures.small c.signed-size.ensures.value)
          c.loop-column.invariant.best c.sized_column.ensures.is c.first_of-best.ensures.first;
    }

pub returns-in-None : goal.returns-in-None
returns-in-None c =
    no_step (system c.args.tableau.now) c.args.row c.row-column-items.result.now c.requires.sound c.requires.broken c.row-column-items.ensures.entries
    c.loop-column.column-index c.loop-column-test.false (c.loop-column.invariant.best.none c.in-None.is)

pub returns-in-Some : goal.returns-in-Some
returns-in-Some c =
    let s = system c.args.tableau.now in
    let terms = c.row-column-items.result.now in
    let best = subst (IsBest true (IsRightColumn s c.args.row terms) (right_column s c.args.row terms) c.loop-column.column-index) c.in-Some.is c.loop-column.invariant.best in
    entering s c.args.row terms c.requires.sound c.requires.broken c.row-column-items.ensures.entries c.requires.dual c.loop-column.column-index c.in-Some.first c.loop-column-test.false best.some
