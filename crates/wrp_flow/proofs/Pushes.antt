-- Pushing a flow along a way of arcs with room, from its end back to its beginning, one arc after another.
use Rattle.std.proofs.Common.{◌≡◌, ℕ, zero, suc, ◌+◌, ◌-◌, ◌<◌, ◌≤◌, Bool, false, cond, ◌==◌, ap, refl, sym, ◌∙◌, inl, inr, ◌⊎◌, arith, eq-eqb}
use Rattle.std.proofs.lemmas.Bool.{cases_eq, ne_eqb}
use Rattle.wrp_webs.specs.Webs.{sum_below}
use Rattle.wrp_webs.specs.Nets.{sum_at_end}
use Rattle.wrp_flow.specs.Flows.{IsFlow}
use Rattle.wrp_flow.specs.Pushes.{changed, IsPushed}
use Rattle.wrp_webs.proofs.SumsBelow.{same_sum}

-- two that differ at k alone
but_one : (f g : ℕ → ℕ) (k n : ℕ) → k < n → ((i : ℕ) → i < n → (i ≡ k → ⊥) → f i ≡ g i) → sum_below f n + g k ≡ sum_below g n + f k
but_one f g k zero below same = absurd (omega arith)
but_one f g k (suc n) below same = by (cases_eq n k) (λ under. but_one f g k n under (λ i less. same i (omega arith)))
  where
    by : (n ≡ k) ⊎ (n ≡ k → ⊥) → (k < n → sum_below f n + g k ≡ sum_below g n + f k) → sum_below f (suc n) + g k ≡ sum_below g (suc n) + f k
    by (inl here) rest = omega (arith, same_sum f g n (λ i less. same i (omega arith) (λ e. absurd (omega arith))), ap f here, ap g here)
    by (inr there) rest = omega (arith, same n (omega arith) there, rest (omega arith))

module _ (n : ℕ) (end flow : ℕ → ℕ) (a x : ℕ) (below : a < n) where
  -- where the arc has its end, its new number counts in place of the old
  pub changed_here : (j : ℕ) → end a ≡ j → sum_at_end n end (changed flow a x) j + flow a ≡ sum_at_end n end flow j + x
  changed_here j here =
      let one = but_one (λ b. cond (end b == j) (changed flow a x b) 0) (λ b. cond (end b == j) (flow b) 0) a n below
      (λ b less differs. ap (λ (t : Bool). cond (end b == j) (cond t x (flow b)) 0) (ne_eqb b a differs)) in
      omega (
        arith,
        one,
        ap (λ (t : Bool). cond t (flow a) 0) (eq-eqb (end a) j here),
        ap (λ (t : Bool). cond t (changed flow a x a) 0) (eq-eqb (end a) j here),
        ap (λ (t : Bool). cond t x (flow a)) (eq-eqb a a refl),
      )

  pub changed_elsewhere : (j : ℕ) → (end a ≡ j → ⊥) → sum_at_end n end (changed flow a x) j ≡ sum_at_end n end flow j
  changed_elsewhere j differs =
      same_sum (λ b. cond (end b == j) (changed flow a x b) 0) (λ b. cond (end b == j) (flow b) 0) n (λ b less. by b (cases_eq b a))
    where
      by : (b : ℕ) → (b ≡ a) ⊎ (b ≡ a → ⊥) → cond (end b == j) (changed flow a x b) 0 ≡ cond (end b == j) (flow b) 0
      by b (inl same) =
          let off : (end b == j) ≡ false = ne_eqb (end b) j (λ e. differs (ap end (sym same) ∙ e)) in
          ap (λ (t : Bool). cond t (changed flow a x b) 0) off ∙ sym (ap (λ (t : Bool). cond t (flow b) 0) off)
      by b (inr other) = ap (λ (t : Bool). cond (end b == j) (cond t x (flow b)) 0) (ne_eqb b a other)

module _ (nodes n : ℕ) (tail head capacity flow : ℕ → ℕ) (s t value d : ℕ) where
  -- before the first arc the sink owes
  pub pushed_none : (s ≡ t → ⊥) → IsFlow nodes n tail head capacity flow s t value → IsPushed nodes n tail head capacity flow s t value d t
  pushed_none differs is = record {
    within = is.within;
    kept = λ j below no_s no_t no_v. is.kept j below no_s no_t;
    owes = λ no_s no_t. absurd (no_t refl);
    worth = λ no_s. is.worth;
    done = λ same. absurd (differs (sym same));
  }

  -- after the last arc the flow is worth d more
  pub pushed_all : IsPushed nodes n tail head capacity flow s t value d s → IsFlow nodes n tail head capacity flow s t (value + d)
  pushed_all is = record { within = is.within; kept = λ j below no_s no_t. is.kept j below no_s no_t no_s; worth = is.done refl }

  -- one arc more, forward: from w to v, where v isn't the source
  pub pushed_forward : (a : ℕ) → a < n → tail a < nodes → (tail a ≡ head a → ⊥) → (head a ≡ s → ⊥) → flow a + d ≤ capacity a
      → IsPushed nodes n tail head capacity flow s t value d (head a) → IsPushed nodes n tail head capacity (changed flow a (flow a + d)) s t value d (tail a)
  pushed_forward a below tail_below differs no_source room is = record {
    within = λ b less. by_within b less (cases_eq b a);
    kept = λ j less no_s no_t no_w. by_kept j less no_s no_t no_w (cases_eq (head a) j);
    owes = λ no_s no_t. omega (
      arith,
      changed_here n tail flow a (flow a + d) below (tail a) refl,
      changed_elsewhere n head flow a (flow a + d) below (tail a) (λ e. differs (sym e)),
      is.kept (tail a) tail_below no_s no_t differs,
    );
    worth = λ no_s. omega (
      arith,
      changed_elsewhere n tail flow a (flow a + d) below s no_s,
      changed_elsewhere n head flow a (flow a + d) below s no_source,
      is.worth no_source,
    );
    done = λ same. omega (
      arith,
      changed_here n tail flow a (flow a + d) below s same,
      changed_elsewhere n head flow a (flow a + d) below s no_source,
      is.worth no_source,
    );
  }
    where
      by_within : (b : ℕ) → b < n → (b ≡ a) ⊎ (b ≡ a → ⊥) → changed flow a (flow a + d) b ≤ capacity b
      by_within b less (inl same) = omega (arith, ap (λ (z : Bool). cond z (flow a + d) (flow b)) (eq-eqb b a same), room, ap capacity same)
      by_within b less (inr other) = omega (arith, ap (λ (z : Bool). cond z (flow a + d) (flow b)) (ne_eqb b a other), is.within b less)

      by_kept : (j : ℕ) → j < nodes → (j ≡ s → ⊥) → (j ≡ t → ⊥) → (j ≡ tail a → ⊥) → (head a ≡ j) ⊎ (head a ≡ j → ⊥) → sum_at_end n tail (changed flow a (flow a + d)) j ≡ sum_at_end n head (changed flow a (flow a + d)) j
      by_kept j less no_s no_t no_w (inl here) =
          omega (
            arith,
            changed_elsewhere n tail flow a (flow a + d) below j (λ e. no_w (sym e)),
            changed_here n head flow a (flow a + d) below j here,
            ap (sum_at_end n tail flow) here,
            ap (sum_at_end n head flow) here,
            is.owes no_source (λ e. no_t (sym here ∙ e)),
          )
      by_kept j less no_s no_t no_w (inr other) =
          omega (
            arith,
            changed_elsewhere n tail flow a (flow a + d) below j (λ e. no_w (sym e)),
            changed_elsewhere n head flow a (flow a + d) below j other,
            is.kept j less no_s no_t (λ e. other (sym e)),
          )

  -- one arc more, back: from w to v against an arc from v to w
  pub pushed_back : (a : ℕ) → a < n → head a < nodes → (head a ≡ tail a → ⊥) → (tail a ≡ s → ⊥) → d ≤ flow a
      → IsPushed nodes n tail head capacity flow s t value d (tail a) → IsPushed nodes n tail head capacity (changed flow a (flow a - d)) s t value d (head a)
  pushed_back a below head_below differs no_source room is = record {
    within = λ b less. by_within b less (cases_eq b a);
    kept = λ j less no_s no_t no_w. by_kept j less no_s no_t no_w (cases_eq (tail a) j);
    owes = λ no_s no_t. omega (
      arith,
      changed_here n head flow a (flow a - d) below (head a) refl,
      changed_elsewhere n tail flow a (flow a - d) below (head a) (λ e. differs (sym e)),
      is.kept (head a) head_below no_s no_t differs,
    );
    worth = λ no_s. omega (
      arith,
      changed_elsewhere n head flow a (flow a - d) below s no_s,
      changed_elsewhere n tail flow a (flow a - d) below s no_source,
      is.worth no_source,
    );
    done = λ same. omega (
      arith,
      changed_here n head flow a (flow a - d) below s same,
      changed_elsewhere n tail flow a (flow a - d) below s no_source,
      is.worth no_source,
    );
  }
    where
      by_within : (b : ℕ) → b < n → (b ≡ a) ⊎ (b ≡ a → ⊥) → changed flow a (flow a - d) b ≤ capacity b
      by_within b less (inl same) = omega (arith, ap (λ (z : Bool). cond z (flow a - d) (flow b)) (eq-eqb b a same), is.within a below, ap capacity same)
      by_within b less (inr other) = omega (arith, ap (λ (z : Bool). cond z (flow a - d) (flow b)) (ne_eqb b a other), is.within b less)

      by_kept : (j : ℕ) → j < nodes → (j ≡ s → ⊥) → (j ≡ t → ⊥) → (j ≡ head a → ⊥) → (tail a ≡ j) ⊎ (tail a ≡ j → ⊥) → sum_at_end n tail (changed flow a (flow a - d)) j ≡ sum_at_end n head (changed flow a (flow a - d)) j
      by_kept j less no_s no_t no_w (inl here) =
          omega (
            arith,
            changed_elsewhere n head flow a (flow a - d) below j (λ e. no_w (sym e)),
            changed_here n tail flow a (flow a - d) below j here,
            ap (sum_at_end n tail flow) here,
            ap (sum_at_end n head flow) here,
            is.owes no_source (λ e. no_t (sym here ∙ e)),
          )
      by_kept j less no_s no_t no_w (inr other) =
          omega (
            arith,
            changed_elsewhere n head flow a (flow a - d) below j (λ e. no_w (sym e)),
            changed_elsewhere n tail flow a (flow a - d) below j other,
            is.kept j less no_s no_t (λ e. other (sym e)),
          )
