-- Shrinking what a least split leaves out, or the split itself, gives two webs with fewer odd nodes each.
use Rattle.std.proofs.Common.{◌≡◌, ℕ, ◌+◌, ◌%◌, ◌<◌, Bool, true, false, cond, not, ◌==◌, ap, refl, sym, ◌∙◌, subst, inl, inr, ◌⊎◌, arith, eq-eqb}
use Rattle.std.proofs.lemmas.Bool.{cases_eq, cases_Bool, ne_eqb, true≢false}
use Rattle.wrp_webs.specs.Webs.{sum_below, Web, outside, degrees, IsWeb, IsMerge, class, Keeps, IsOddNode, odd_nodes, IsSplit, shrunk, AreShrunk}
use Rattle.wrp_webs.proofs.SumsBelow.{same_sum, sum_of_sums, zero_sum, term_sum}
use Rattle.wrp_webs.proofs.Uncrossing.{same_degrees, outside_even}

module _ (web : Web) (at : ℕ → ℕ) (merge : IsMerge web at) (u : ℕ → Bool) (t : ℕ) (keeps : Keeps web at u) (below : t < web.junctions) (out : u t ≡ false) where
  abbrev small : ℕ → ℕ
  small = shrunk at u t

  inside_is : (j : ℕ) → u j ≡ true → small j ≡ at j
  inside_is j e = ap (λ (b : Bool). cond b (at j) t) e

  outside_is : (j : ℕ) → u j ≡ false → small j ≡ t
  outside_is j e = ap (λ (b : Bool). cond b (at j) t) e

  pub shrunk_merge : IsMerge web small
  shrunk_merge = record { below = λ j less. by_below j less (cases_Bool (u j)); still = λ j less. by_still j less (cases_Bool (u j)) }
    where
      by_below : (j : ℕ) → j < web.junctions → (u j ≡ true) ⊎ (u j ≡ false) → small j < web.junctions
      by_below j less (inl e) = subst (λ (k : ℕ). k < web.junctions) (sym (inside_is j e)) (merge.below j less)
      by_below j less (inr e) = subst (λ (k : ℕ). k < web.junctions) (sym (outside_is j e)) below

      by_still : (j : ℕ) → j < web.junctions → (u j ≡ true) ⊎ (u j ≡ false) → small (small j) ≡ small j
      by_still j less (inl e) = ap small (inside_is j e) ∙ inside_is (at j) (keeps j less ∙ e) ∙ merge.still j less ∙ sym (inside_is j e)
      by_still j less (inr e) = ap small (outside_is j e) ∙ outside_is t out ∙ sym (outside_is j e)

  -- a set within u that keeps the classes keeps the new ones
  pub shrunk_keeps : (set : ℕ → Bool) → Keeps web at set → ((j : ℕ) → set j ≡ true → u j ≡ true) → Keeps web small set
  shrunk_keeps set kept within = λ j less. by j less (cases_Bool (u j))
    where
      misses : (j : ℕ) → u j ≡ false → set j ≡ false
      misses j e = elim (cases_Bool (set j)) [ inl has ↦ absurd (true≢false (sym (within j has) ∙ e)) | inr none ↦ none ]

      by : (j : ℕ) → j < web.junctions → (u j ≡ true) ⊎ (u j ≡ false) → set (small j) ≡ set j
      by j less (inl e) = ap set (inside_is j e) ∙ kept j less
      by j less (inr e) = ap set (outside_is j e) ∙ misses t out ∙ sym (misses j e)

  -- ---- odd nodes

  parted : (i j : ℕ) → u i ≡ true → u j ≡ false → (i ≡ j → ⊥)
  parted i j has none same = true≢false (sym has ∙ ap u same ∙ none)

  -- nodes inside keep their class
  class_inside : (r : ℕ) → u r ≡ true → (j : ℕ) → j < web.junctions → (u j ≡ true) ⊎ (u j ≡ false) → class small r j ≡ class at r j
  class_inside r has j less (inl e) = ap (λ (k : ℕ). k == r) (inside_is j e)
  class_inside r has j less (inr e) =
      ap (λ (k : ℕ). k == r) (outside_is j e) ∙ ne_eqb t r (λ same. parted r t has out (sym same)) ∙ sym (ne_eqb (at j) r (λ same. parted r (at j) has (keeps j less ∙ e) (sym same)))

  -- t stands for all that is outside
  class_of_t : (j : ℕ) → j < web.junctions → (u j ≡ true) ⊎ (u j ≡ false) → class small t j ≡ outside u j
  class_of_t j less (inl e) = ap (λ (k : ℕ). k == t) (inside_is j e) ∙ ne_eqb (at j) t (parted (at j) t (keeps j less ∙ e) out) ∙ sym (ap not e)
  class_of_t j less (inr e) = eq-eqb (small j) t (outside_is j e) ∙ sym (ap not e)

  -- the other nodes outside stand for nothing
  class_outside : (r : ℕ) → u r ≡ false → (r ≡ t → ⊥) → (j : ℕ) → j < web.junctions → (u j ≡ true) ⊎ (u j ≡ false) → class small r j ≡ false
  class_outside r none differs j less (inl e) = ap (λ (k : ℕ). k == r) (inside_is j e) ∙ ne_eqb (at j) r (parted (at j) r (keeps j less ∙ e) none)
  class_outside r none differs j less (inr e) = ap (λ (k : ℕ). k == r) (outside_is j e) ∙ ne_eqb t r (λ same. differs (sym same))

  abbrev odd_term_at : ℕ → ℕ
  odd_term_at r = cond (degrees web (class at r) % 2 == 1) 1 0

  even_node : (n : ℕ) → n % 2 ≡ 0 → cond {A = ℕ} (n % 2 == 1) 1 0 ≡ 0
  even_node n even = ap (λ (b : Bool). cond {A = ℕ} b 1 0) (ne_eqb (n % 2) 1 (λ odd. absurd (omega arith)))

  pub node_after : degrees web (outside u) % 2 ≡ 0 → (r : ℕ) → cond {A = ℕ} (degrees web (class small r) % 2 == 1) 1 0 ≡ cond (u r) (odd_term_at r) 0
  node_after even r = by (cases_Bool (u r))
    where
      outer : (u r ≡ false) → (r ≡ t) ⊎ (r ≡ t → ⊥) → degrees web (class small r) % 2 ≡ 0
      outer none (inl same) =
          ap (λ (k : ℕ). degrees web (class small k) % 2) same ∙ ap (λ (n : ℕ). n % 2) (same_degrees web (class small t) (outside u) (λ j less. class_of_t j less (cases_Bool (u j)))) ∙ even
      outer none (inr differs) =
          ap (λ (n : ℕ). n % 2) (same_degrees web (class small r) (λ j. false) (λ j less. class_outside r none differs j less (cases_Bool (u j))) ∙ zero_sum (λ j. 0) web.junctions (λ j less. refl))

      by : (u r ≡ true) ⊎ (u r ≡ false) → cond {A = ℕ} (degrees web (class small r) % 2 == 1) 1 0 ≡ cond (u r) (odd_term_at r) 0
      by (inl e) =
          ap (λ (n : ℕ). cond {A = ℕ} (n % 2 == 1) 1 0) (same_degrees web (class small r) (class at r) (λ j less. class_inside r e j less (cases_Bool (u j)))) ∙ sym (ap (λ (b : Bool). cond b (odd_term_at r) 0) e)
      by (inr e) = even_node (degrees web (class small r)) (outer e (cases_eq r t)) ∙ sym (ap (λ (b : Bool). cond b (odd_term_at r) 0) e)

  pub nodes_after : degrees web (outside u) % 2 ≡ 0 → odd_nodes web small ≡ sum_below (λ r. cond (u r) (odd_term_at r) 0) web.junctions
  nodes_after even = same_sum (λ r. cond (degrees web (class small r) % 2 == 1) 1 0) (λ r. cond (u r) (odd_term_at r) 0) web.junctions (λ r less. node_after even r)

  pub some_inside : degrees web (outside u) % 2 ≡ 0 → (s : ℕ) → IsOddNode web at s → u s ≡ true → 0 < odd_nodes web small
  some_inside even s node has =
      omega (
        arith,
        nodes_after even,
        term_sum (λ r. cond (u r) (odd_term_at r) 0) s web.junctions node.below,
        ap (λ (b : Bool). cond b (odd_term_at s) 0) has,
        ap (λ (b : Bool). cond {A = ℕ} b 1 0) (eq-eqb (degrees web (class at s) % 2) 1 node.odd),
      )

split_term : (b : Bool) (n : ℕ) → cond b n 0 + cond (not b) n 0 ≡ n
split_term true n = omega arith
split_term false n = omega arith

twice_not : (b : Bool) → not (not b) ≡ b
twice_not true = refl
twice_not false = refl

-- the odd nodes of the two smaller webs are those of the web, and neither has none
pub are_shrunk : (web : Web) (at : ℕ → ℕ) (u : ℕ → Bool) (s t : ℕ) → IsWeb web → IsMerge web at → IsSplit web at u s t → degrees web u % 2 ≡ 0 → AreShrunk web at u s t
are_shrunk web at u s t is merge split even = record {
  first = shrunk_merge web at merge u t split.keeps split.second.below split.leaves_out;
  second = shrunk_merge web at merge (outside u) s (λ j below. ap not (split.keeps j below)) split.first.below (ap not split.holds);
  count = omega (
    arith,
    nodes_after web at merge u t split.keeps split.second.below split.leaves_out out_even,
    nodes_after web at merge (outside u) s (λ j below. ap not (split.keeps j below)) split.first.below (ap not split.holds) in_even,
    sum_of_sums (λ r. cond (u r) (term r) 0) (λ r. cond (not (u r)) (term r) 0) web.junctions,
    same_sum (λ r. cond (u r) (term r) 0 + cond (not (u r)) (term r) 0) term web.junctions (λ r below. split_term (u r) (term r)),
  );
  first_some = some_inside web at merge u t split.keeps split.second.below split.leaves_out out_even s split.first split.holds;
  second_some = some_inside web at merge (outside u) s (λ j below. ap not (split.keeps j below)) split.first.below (ap not split.holds) in_even t split.second (ap not split.leaves_out);
}
  where
    term : ℕ → ℕ
    term r = cond (degrees web (class at r) % 2 == 1) 1 0

    out_even : degrees web (outside u) % 2 ≡ 0
    out_even = outside_even web u is even

    in_even : degrees web (outside (outside u)) % 2 ≡ 0
    in_even = ap (λ (n : ℕ). n % 2) (same_degrees web (outside (outside u)) u (λ j below. twice_not (u j))) ∙ even
