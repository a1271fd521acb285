-- A flow's value is at most what can leave a set with the source and without the sink.
use Rattle.std.proofs.Common.{◌≡◌, ℕ, ◌+◌, ◌<◌, ◌≤◌, Bool, true, false, cond, ◌&&◌, not, ◌==◌, ap, refl, sym, ◌∙◌, inl, inr, ◌⊎◌, arith, eq-eqb}
use Rattle.std.proofs.lemmas.Bool.{cases_eq, ne_eqb, true≢false}
use Rattle.wrp_webs.specs.Nets.{sum_at_end, leaving, entering}
use Rattle.wrp_webs.proofs.SumsBelow.{same_sum, zero_sum, least_sum, sum_of_sums, sum_single}
use Rattle.wrp_webs.proofs.Nets.{leaving_and_entering}
use Rattle.wrp_flow.specs.Flows.{IsFlow}

module _ (nodes n : ℕ) where
  -- a flow takes its value out of each set with the source and without the sink
  pub net_value : (tail head capacity flow : ℕ → ℕ) (s t value : ℕ) → ((a : ℕ) → a < n → tail a < nodes) → ((a : ℕ) → a < n → head a < nodes) → s < nodes
      → IsFlow nodes n tail head capacity flow s t value → (set : ℕ → Bool) → set s ≡ true → set t ≡ false → leaving n tail head flow set ≡ entering n tail head flow set + value
  net_value tail head capacity flow s t value tails heads below is set holds out =
      omega (
        arith,
        leaving_and_entering nodes n tail head flow tails heads set,
        same_sum (λ j. cond (set j) (sum_at_end n tail flow j) 0) (λ j. cond (set j) (sum_at_end n head flow j) 0 + cond (s == j) value 0) nodes
            (λ j less. by j less (set j) refl (cases_eq s j)),
        sum_of_sums (λ j. cond (set j) (sum_at_end n head flow j) 0) (λ j. cond (s == j) value 0) nodes,
        sum_single (λ j. value) s nodes below,
      )
    where
      at_source : (j : ℕ) → s ≡ j → sum_at_end n tail flow j ≡ sum_at_end n head flow j + value
      at_source j same = ap (sum_at_end n tail flow) (sym same) ∙ is.worth ∙ ap (λ (k : ℕ). sum_at_end n head flow k + value) same

      by : (j : ℕ) → j < nodes → (b : Bool) → set j ≡ b → (s ≡ j) ⊎ (s ≡ j → ⊥) → cond b (sum_at_end n tail flow j) 0 ≡ cond b (sum_at_end n head flow j) 0 + cond (s == j) value 0
      by j less true e (inl same) = omega (arith, at_source j same, ap (λ (b : Bool). cond b value 0) (eq-eqb s j same))
      by j less true e (inr differs) =
          omega (arith, is.kept j less (λ h. differs (sym h)) (λ h. true≢false (sym e ∙ ap set h ∙ out)), ap (λ (b : Bool). cond b value 0) (ne_eqb s j differs))
      by j less false e (inl same) = absurd (true≢false (sym holds ∙ ap set same ∙ e))
      by j less false e (inr differs) = omega (arith, ap (λ (b : Bool). cond b value 0) (ne_eqb s j differs))

  -- so its value is at most what can leave the set
  pub flow_bounds : (tail head capacity flow : ℕ → ℕ) (s t value : ℕ) → ((a : ℕ) → a < n → tail a < nodes) → ((a : ℕ) → a < n → head a < nodes) → s < nodes
      → IsFlow nodes n tail head capacity flow s t value → (set : ℕ → Bool) → set s ≡ true → set t ≡ false → value ≤ leaving n tail head capacity set
  flow_bounds tail head capacity flow s t value tails heads below is set holds out =
      omega (
        arith,
        net_value tail head capacity flow s t value tails heads below is set holds out,
        least_sum (λ a. cond (set (tail a) && not (set (head a))) (flow a) 0) (λ a. cond (set (tail a) && not (set (head a))) (capacity a) 0) n
            (λ a less. less_flow (set (tail a) && not (set (head a))) (is.within a less)),
      )
    where
      less_flow : {x y : ℕ} (b : Bool) → x ≤ y → cond b x 0 ≤ cond b y 0
      less_flow true h = h
      less_flow false h = omega arith

-- where the arcs out of a set are full and those into it empty, what can leave it is the flow's value
pub full_cut : (nodes n : ℕ) (tail head capacity flow : ℕ → ℕ) (s t value : ℕ) → ((a : ℕ) → a < n → tail a < nodes) → ((a : ℕ) → a < n → head a < nodes) → s < nodes
    → IsFlow nodes n tail head capacity flow s t value → (set : ℕ → Bool) → set s ≡ true → set t ≡ false
    → ((a : ℕ) → a < n → set (tail a) ≡ true → set (head a) ≡ false → flow a ≡ capacity a) → ((a : ℕ) → a < n → set (tail a) ≡ false → set (head a) ≡ true → flow a ≡ 0)
    → leaving n tail head capacity set ≡ value
full_cut nodes n tail head capacity flow s t value tails heads below is set holds out full empty =
    omega (
      arith,
      net_value nodes n tail head capacity flow s t value tails heads below is set holds out,
      same_sum (λ a. cond (set (tail a) && not (set (head a))) (flow a) 0) (λ a. cond (set (tail a) && not (set (head a))) (capacity a) 0) n
          (λ a less. out_term (set (tail a)) (set (head a)) (full a less)),
      zero_sum (λ a. cond (not (set (tail a)) && set (head a)) (flow a) 0) n (λ a less. in_term (set (tail a)) (set (head a)) (empty a less)),
    )
  where
    out_term : {x y : ℕ} (p q : Bool) → (p ≡ true → q ≡ false → x ≡ y) → cond (p && not q) x 0 ≡ cond (p && not q) y 0
    out_term true true h = refl
    out_term true false h = h refl refl
    out_term false true h = refl
    out_term false false h = refl

    in_term : {x : ℕ} (p q : Bool) → (p ≡ false → q ≡ true → x ≡ 0) → cond (not p && q) x 0 ≡ 0
    in_term true true h = refl
    in_term true false h = refl
    in_term false true h = h refl refl
    in_term false false h = refl
