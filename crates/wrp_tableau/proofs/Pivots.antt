-- What a pivot keeps.
use Rattle.std.proofs.Common.{◌≡◌, ◌≢◌, ℕ, suc, ◌+◌, ◌<◌, ◌≤◌, unsigned_abs, ℤ, pos, negsuc, ◌+ℤ◌, ◌-ℤ◌, ◌*ℤ◌, ◌<ℤ◌, ap, refl, sym, ◌∙◌, arith, subst, length, map, get_or-set_same, get_or-set_other, inl, inr}
use Rattle.std.proofs.lemmas.Int.{ints}
use Rattle.std.proofs.lemmas.List.{get_or-map, length-map}
use Rattle.std.proofs.lemmas.Bool.{cases_eq, cases_lt}
use Rattle.std.proofs.Math.ListN.{length-set}
use Rattle.wrp_sums.proofs.Integers.{linear, times_zero, one-*ℤ, *ℤ_assoc, *ℤ_left_comm, *ℤ-+ℤ, scale_le}
use Rattle.std.proofs.Math.IntN.{*ℤ_comm}
use Rattle.wrp_tableau.specs.Equations.{Equation, nothing, common_factor, reduced, combined, sign_of, without}
use Rattle.wrp_tableau.specs.Systems.{System, variables, row, basic, pivoted}
use Rattle.wrp_tableau.specs.Solutions.{Solves, IsSolution}
use Rattle.wrp_tableau.specs.Soundness.{IsSound}
use Rattle.wrp_tableau.proofs.Differences.{cancel_same}
use Rattle.wrp_tableau.proofs.Factors.{factor_above, reduced_entry, reduced_zero, reduced_some}
use Rattle.wrp_tableau.proofs.Primitive.{factor_reduced}
use Rattle.wrp_tableau.proofs.Combining.{size_above, solves-without, solves_from_without, solves-reduced, solves_from_reduced}

module _ (t : System) (r c : ℕ) where
  abbrev made : Equation → Equation
  made e = reduced (suc (variables t)) (without c (row t r) e)

  -- row r after the pivot
  pub row_same : r < length t.rows → row (pivoted t r c) r ≡ reduced (suc (variables t)) (row t r)
  unfolding pivoted
  row_same h = get_or-set_same (map made t.rows) r (reduced (suc (variables t)) (row t r)) nothing (rw (length-map t.rows made) h)

  pub row_other : (k : ℕ) → k < length t.rows → k ≢ r → row (pivoted t r c) k ≡ reduced (suc (variables t)) (without c (row t r) (row t k))
  unfolding pivoted
  row_other k h other =
      get_or-set_other (map made t.rows) r k (reduced (suc (variables t)) (row t r)) nothing other
      ∙ get_or-map made t.rows k nothing nothing h

  pub rows_kept : length (pivoted t r c).rows ≡ length t.rows
  unfolding pivoted
  rows_kept = length-set (map made t.rows) r (reduced (suc (variables t)) (row t r)) ∙ length-map t.rows made

  pub width_kept : (pivoted t r c).width ≡ t.width
  unfolding pivoted
  width_kept = refl

  pub variables_kept : variables (pivoted t r c) ≡ variables t
  variables_kept = ap (λ (w : ℕ). w + length (pivoted t r c).rows) width_kept ∙ ap (λ (n : ℕ). t.width + n) rows_kept

  pub cost_is : (pivoted t r c).cost ≡ reduced (suc (variables t)) (without c (row t r) t.cost)
  unfolding pivoted
  cost_is = refl

  -- a solution of the new equations solves the old ones
  pub solves_old : (d : ℤ) (x : ℕ → ℤ) → r < length t.rows → (row t r).entry c ≢ pos 0 → IsSolution (pivoted t r c) d x → IsSolution t d x
  solves_old d x here some all k h =
      let m = variables t in
      let at : (k : ℕ) → k < length t.rows → Solves m d x (row (pivoted t r c) k) = λ k h. subst (λ n. Solves n d x (row (pivoted t r c) k)) variables_kept (all k (subst (λ n. k < n) (sym rows_kept) h)) in
      let own : Solves m d x (row t r) = solves_from_reduced m (suc m) d x (row t r) (omega arith) (subst (λ e. Solves m d x e) (row_same here) (at r here)) in
      elim (cases_eq k r) [
        | inl same ↦ subst (λ k. Solves m d x (row t k)) (sym same) own
        | inr other ↦ solves_from_without m c d x (row t r) (row t k) some own (solves_from_reduced m (suc m) d x (without c (row t r) (row t k)) (omega arith) (subst (λ e. Solves m d x e) (row_other k h other) (at k h)))
      ]

-- ---- entries of a combined equation
pub combined_zero : (p q x y : ℤ) → x ≡ pos 0 → y ≡ pos 0 → combined p q x y ≡ pos 0
combined_zero p q x y h i =
    rw (h, i) (omega (arith, linear, times_zero (pos (unsigned_abs p)), times_zero (sign_of p *ℤ q)))

sign_times : (p : ℤ) → sign_of p *ℤ p ≡ pos (unsigned_abs p)
sign_times (pos a) = one-*ℤ (pos a)
sign_times (negsuc a) = omega (arith, ints)

gone : (s a p q : ℤ) → s *ℤ p ≡ a → a *ℤ q -ℤ (s *ℤ q) *ℤ p ≡ pos 0
gone s a p q h = omega (arith, linear, ap (λ (z : ℤ). q *ℤ z) h, *ℤ_assoc s q p, *ℤ_left_comm s q p, *ℤ_comm q a)

-- the entry at the column of the pivot goes
pub combined_gone : (p q : ℤ) → combined p q q p ≡ pos 0
combined_gone p q = gone (sign_of p) (pos (unsigned_abs p)) p q (sign_times p)

-- where the row of the pivot has no entry, one is scaled
pub combined_scaled : (p q x y : ℤ) → y ≡ pos 0 → combined p q x y ≡ pos (unsigned_abs p) *ℤ x
combined_scaled p q x y none = rw none (omega (arith, linear, times_zero (sign_of p *ℤ q)))

product_some : (a : ℕ) (x : ℤ) → 0 < a → x ≢ pos 0 → pos a *ℤ x ≢ pos 0
product_some a x positive some none = some (cancel_same a x (pos 0) positive (omega (arith, linear, none, times_zero (pos a))))

product_negative : (a : ℕ) (x : ℤ) → 0 < a → x <ℤ pos 0 → (pos a *ℤ x) <ℤ pos 0
product_negative a x positive below = omega (arith, linear, scale_le a (x +ℤ pos 1) (pos 0) (omega (arith, linear)), *ℤ-+ℤ (pos a) x (pos 1), times_zero (pos a), *ℤ_comm (pos a) (pos 1), one-*ℤ (pos a))

factor_negative : (a : ℕ) (x : ℤ) → (pos a *ℤ x) <ℤ pos 0 → x <ℤ pos 0
factor_negative a (pos x) h = absurd (omega (arith, ints))
factor_negative a (negsuc x) h = omega (arith, linear)

module _ (t : System) (r c : ℕ) (sound : IsSound t) (here : r < length t.rows) (some : (row t r).entry c ≢ pos 0) where
  -- the column is that of a variable
  pub column : c < variables t
  column = elim (cases_lt c (variables t)) [ inl below ↦ below | inr past ↦ absurd (some (sound.in_range r c here past)) ]

  own_size : 0 < unsigned_abs ((row t r).entry c)
  own_size = size_above ((row t r).entry c) some

  -- an entry at a place where the row of the pivot has none stays, or stays none
  without_scaled : (e : Equation) (j : ℕ) → (row t r).entry j ≡ pos 0 → (without c (row t r) e).entry j ≡ pos (unsigned_abs ((row t r).entry c)) *ℤ e.entry j
  unfolding without
  without_scaled e j none = combined_scaled ((row t r).entry c) (e.entry c) (e.entry j) ((row t r).entry j) none

  without_zero : (e : Equation) (j : ℕ) → (row t r).entry j ≡ pos 0 → e.entry j ≡ pos 0 → (without c (row t r) e).entry j ≡ pos 0
  without_zero e j none nor = without_scaled e j none ∙ ap (λ (z : ℤ). pos (unsigned_abs ((row t r).entry c)) *ℤ z) nor ∙ times_zero (pos (unsigned_abs ((row t r).entry c)))

  without_gone : (e : Equation) → (without c (row t r) e).entry c ≡ pos 0
  unfolding without
  without_gone e = combined_gone ((row t r).entry c) (e.entry c)

  pub without_some : (e : Equation) (j : ℕ) → (row t r).entry j ≡ pos 0 → e.entry j ≢ pos 0 → (without c (row t r) e).entry j ≢ pos 0
  without_some e j none has gone_too = product_some (unsigned_abs ((row t r).entry c)) (e.entry j) own_size has (sym (without_scaled e j none) ∙ gone_too)

  -- entries after the pivot: E is what row k becomes
  row_zero : (k j : ℕ) → k < length t.rows → (row t r).entry j ≡ pos 0 → (row t k).entry j ≡ pos 0 → (row (pivoted t r c) k).entry j ≡ pos 0
  row_zero k j h none nor = elim (cases_eq k r) [
    | inl same ↦ ap (λ (e : Equation). e.entry j) (ap (row (pivoted t r c)) same ∙ row_same t r c here) ∙ reduced_zero (suc (variables t)) (row t r) j none
    | inr other ↦ ap (λ (e : Equation). e.entry j) (row_other t r c k h other) ∙ reduced_zero (suc (variables t)) (without c (row t r) (row t k)) j (without_zero (row t k) j none nor)
  ]

  cost_zero : (j : ℕ) → (row t r).entry j ≡ pos 0 → t.cost.entry j ≡ pos 0 → (pivoted t r c).cost.entry j ≡ pos 0
  cost_zero j none nor = ap (λ (e : Equation). e.entry j) (cost_is t r c) ∙ reduced_zero (suc (variables t)) (without c (row t r) t.cost) j (without_zero t.cost j none nor)

  at_here : (row (pivoted t r c) r).entry c ≢ pos 0
  at_here gone_too = reduced_some (suc (variables t)) (row t r) c (let b : c < variables t = column in omega arith) some (sym (ap (λ (e : Equation). e.entry c) (row_same t r c here)) ∙ gone_too)

  row_gone : (k : ℕ) → k < length t.rows → k ≢ r → (row (pivoted t r c) k).entry c ≡ pos 0
  row_gone k h other = ap (λ (e : Equation). e.entry c) (row_other t r c k h other) ∙ reduced_zero (suc (variables t)) (without c (row t r) (row t k)) c (without_gone (row t k))

  row_some : (k j : ℕ) → k < length t.rows → k ≢ r → j < variables t → (row t r).entry j ≡ pos 0 → (row t k).entry j ≢ pos 0 → (row (pivoted t r c) k).entry j ≢ pos 0
  row_some k j h other below none has gone_too =
      reduced_some (suc (variables t)) (without c (row t r) (row t k)) j (omega arith) (without_some (row t k) j none has)
      (sym (ap (λ (e : Equation). e.entry j) (row_other t r c k h other)) ∙ gone_too)

  pub basic_here : basic (pivoted t r c) r ≡ c
  unfolding pivoted
  basic_here = get_or-set_same t.basics r c 0 (rw sound.basics here)

  basic_other : (k : ℕ) → k ≢ r → basic (pivoted t r c) k ≡ basic t k
  unfolding pivoted
  basic_other k other = get_or-set_other t.basics r k c 0 other

  basics_kept : length (pivoted t r c).basics ≡ length t.rows
  unfolding pivoted
  basics_kept = length-set t.basics r c ∙ sound.basics

  old : (k : ℕ) → k < length (pivoted t r c).rows → k < length t.rows
  old k h = subst (λ n. k < n) (rows_kept t r c) h

  -- the entries in the column of the basic variable of row k
  basic_alone : (k l : ℕ) → k < length t.rows → l < length t.rows → l ≢ k → (row (pivoted t r c) l).entry (basic (pivoted t r c) k) ≡ pos 0
  basic_alone k l h i differs = elim (cases_eq k r) [
    | inl same ↦ subst (λ b. (row (pivoted t r c) l).entry b ≡ pos 0) (sym (ap (basic (pivoted t r c)) same ∙ basic_here)) (row_gone l i (λ e. differs (e ∙ sym same)))
    | inr other ↦ subst (λ b. (row (pivoted t r c) l).entry b ≡ pos 0) (sym (basic_other k other)) (row_zero l (basic t k) i (sound.alone k r h here (λ e. other (sym e))) (sound.alone k l h i differs))
  ]

  basic_own : (k : ℕ) → k < length t.rows → (row (pivoted t r c) k).entry (basic (pivoted t r c) k) ≢ pos 0
  basic_own k h = elim (cases_eq k r) [
    | inl same ↦ subst (λ k. (row (pivoted t r c) k).entry (basic (pivoted t r c) k) ≢ pos 0) (sym same) (subst (λ b. (row (pivoted t r c) r).entry b ≢ pos 0) (sym basic_here) at_here)
    | inr other ↦ subst (λ b. (row (pivoted t r c) k).entry b ≢ pos 0) (sym (basic_other k other)) (row_some k (basic t k) h other (sound.named k h) (sound.alone k r h here (λ e. other (sym e))) (sound.own k h))
  ]

  basic_named : (k : ℕ) → k < length t.rows → basic (pivoted t r c) k < variables t
  basic_named k h = elim (cases_eq k r) [
    | inl same ↦ subst (λ b. b < variables t) (sym (ap (basic (pivoted t r c)) same ∙ basic_here)) column
    | inr other ↦ subst (λ b. b < variables t) (sym (basic_other k other)) (sound.named k h)
  ]

  basic_priced : (k : ℕ) → k < length t.rows → (pivoted t r c).cost.entry (basic (pivoted t r c) k) ≡ pos 0
  basic_priced k h = elim (cases_eq k r) [
    | inl same ↦ subst (λ b. (pivoted t r c).cost.entry b ≡ pos 0) (sym (ap (basic (pivoted t r c)) same ∙ basic_here))
        (ap (λ (e : Equation). e.entry c) (cost_is t r c) ∙ reduced_zero (suc (variables t)) (without c (row t r) t.cost) c (without_gone t.cost))
    | inr other ↦ subst (λ b. (pivoted t r c).cost.entry b ≡ pos 0) (sym (basic_other k other)) (cost_zero (basic t k) (sound.alone k r h here (λ e. other (sym e))) (sound.priced k h))
  ]

  scale_kept : (pivoted t r c).cost.entry (variables t) <ℤ pos 0
  scale_kept =
      let e = without c (row t r) t.cost in
      let is : pos (common_factor (suc (variables t)) e) *ℤ (pivoted t r c).cost.entry (variables t) ≡ pos (unsigned_abs ((row t r).entry c)) *ℤ t.cost.entry (variables t) =
      ap (λ (f : Equation). pos (common_factor (suc (variables t)) e) *ℤ f.entry (variables t)) (cost_is t r c)
      ∙ reduced_entry (suc (variables t)) e (variables t) (omega arith)
      ∙ without_scaled t.cost (variables t) (sound.in_range r (variables t) here (omega arith)) in
      factor_negative (common_factor (suc (variables t)) e) ((pivoted t r c).cost.entry (variables t))
      (subst (λ z. z <ℤ pos 0) (sym is) (product_negative (unsigned_abs ((row t r).entry c)) (t.cost.entry (variables t)) own_size sound.scaled))

  -- the equations that are reduced have factors
  own_factor : 0 < common_factor (suc (variables t)) (row t r)
  own_factor = factor_above (suc (variables t)) (row t r) c (let b : c < variables t = column in omega arith) some

  other_factor : (k : ℕ) → k < length t.rows → k ≢ r → 0 < common_factor (suc (variables t)) (without c (row t r) (row t k))
  other_factor k h other =
      factor_above (suc (variables t)) (without c (row t r) (row t k)) (basic t k) (let b : basic t k < variables t = sound.named k h in omega arith)
      (without_some (row t k) (basic t k) (sound.alone k r h here (λ e. other (sym e))) (sound.own k h))

  cost_factor : 0 < common_factor (suc (variables t)) (without c (row t r) t.cost)
  cost_factor =
      factor_above (suc (variables t)) (without c (row t r) t.cost) (variables t) (omega arith)
      (without_some t.cost (variables t) (sound.in_range r (variables t) here (omega arith)) (λ none. absurd (omega (arith, linear, none, sound.scaled))))

  row_primitive : (k : ℕ) → k < length t.rows → common_factor (suc (variables t)) (row (pivoted t r c) k) ≡ 1
  row_primitive k h = elim (cases_eq k r) [
    | inl same ↦ subst (λ e. common_factor (suc (variables t)) e ≡ 1) (sym (ap (row (pivoted t r c)) same ∙ row_same t r c here)) (factor_reduced (suc (variables t)) (row t r) own_factor)
    | inr other ↦ subst (λ e. common_factor (suc (variables t)) e ≡ 1) (sym (row_other t r c k h other)) (factor_reduced (suc (variables t)) (without c (row t r) (row t k)) (other_factor k h other))
  ]

  cost_primitive : common_factor (suc (variables t)) (pivoted t r c).cost ≡ 1
  cost_primitive = subst (λ e. common_factor (suc (variables t)) e ≡ 1) (sym (cost_is t r c)) (factor_reduced (suc (variables t)) (without c (row t r) t.cost) cost_factor)

  pub sound_kept : IsSound (pivoted t r c)
  sound_kept = record {
    basics = basics_kept ∙ sym (rows_kept t r c);
    in_range = λ k j h past. let far : variables t ≤ j = subst (λ n. n ≤ j) (variables_kept t r c) past in row_zero k j (old k h) (sound.in_range r j here far) (sound.in_range k j (old k h) far);
    cost_in_range = λ j past. let far : variables t < j = subst (λ n. n < j) (variables_kept t r c) past in cost_zero j (sound.in_range r j here (omega arith)) (sound.cost_in_range j far);
    named = λ k h. subst (λ n. basic (pivoted t r c) k < n) (sym (variables_kept t r c)) (basic_named k (old k h));
    own = λ k h. basic_own k (old k h);
    alone = λ k l h i differs. basic_alone k l (old k h) (old l i) differs;
    priced = λ k h. basic_priced k (old k h);
    scaled = subst (λ n. (pivoted t r c).cost.entry n <ℤ pos 0) (sym (variables_kept t r c)) scale_kept;
    primitive = λ k h. subst (λ n. common_factor (suc n) (row (pivoted t r c) k) ≡ 1) (sym (variables_kept t r c)) (row_primitive k (old k h));
    cost_primitive = subst (λ n. common_factor (suc n) (pivoted t r c).cost ≡ 1) (sym (variables_kept t r c)) cost_primitive;
  }

  -- a solution of the old equations solves the new ones
  pub solves_new : (m : ℕ) (d : ℤ) (x : ℕ → ℤ) (k : ℕ) → m ≤ suc (variables t) → k < length t.rows → Solves m d x (row t r) → Solves m d x (row t k) → Solves m d x (row (pivoted t r c) k)
  solves_new m d x k fits h own s = elim (cases_eq k r) [
    | inl same ↦ subst (λ k. Solves m d x (row (pivoted t r c) k)) (sym same)
        (subst (λ e. Solves m d x e) (sym (row_same t r c here))
        (solves-reduced m (suc (variables t)) d x (row t r) fits own_factor own))
    | inr other ↦ subst (λ e. Solves m d x e) (sym (row_other t r c k h other))
        (solves-reduced m (suc (variables t)) d x (without c (row t r) (row t k)) fits (other_factor k h other)
        (solves-without m c d x (row t r) (row t k) own s))
  ]

  pub cost_new : (m : ℕ) (d : ℤ) (x : ℕ → ℤ) → m ≤ suc (variables t) → Solves m d x (row t r) → Solves m d x t.cost → Solves m d x (pivoted t r c).cost
  cost_new m d x fits own s =
      subst (λ f. Solves m d x f) (sym (cost_is t r c))
      (solves-reduced m (suc (variables t)) d x (without c (row t r) t.cost) fits cost_factor (solves-without m c d x (row t r) t.cost own s))
