-- A least split: an odd set is one itself, or an odd set that isn't heavier lies inside it or outside.
use Rattle.std.proofs.Common.{◌≡◌, ℕ, ◌%◌, ◌≤◌, Bool, true, false, cond, ◌&&◌, ◌||◌, not, ◌==◌, ap, refl, sym, ◌∙◌, inl, inr, ◌⊎◌, arith}
use Rattle.std.proofs.lemmas.Bool.{cases_eq, cases_Bool, and_parts, and_from, not-true, true≢false}
use Rattle.wrp_webs.specs.Webs.{sum_below, Web, both, either, outside, without, cut, degrees, IsWeb, IsOdd, IsMerge, class, Keeps, IsOddNode, IsSplit, IsLeastSplit, IsLeastBetween, IsWithin}
use Rattle.wrp_webs.proofs.SumsBelow.{same_sum, sum_exchange, sum_single, odd_term, zero_sum}
use Rattle.wrp_webs.proofs.Uncrossing.{cut_outside, cut_shared, cut_apart, degrees_parted, same_degrees, outside_odd, outside_even}

-- ---- an odd set has an odd node

zero_or : (b : Bool) (n : ℕ) → cond b n 0 % 2 ≡ 1 → (b ≡ true) × (n % 2 ≡ 1)
zero_or true n odd = (refl, odd)
zero_or false n odd = absurd (omega arith)

pub swap_conds : (a b : Bool) (d : ℕ) → cond a (cond b d 0) 0 ≡ cond b (cond a d 0) 0
swap_conds true true d = refl
swap_conds true false d = refl
swap_conds false true d = refl
swap_conds false false d = refl

pub out_of_cond : (b : Bool) (f : ℕ → ℕ) (n : ℕ) → sum_below (λ j. cond b (f j) 0) n ≡ cond b (sum_below f n) 0
out_of_cond true f n = refl
out_of_cond false f n = zero_sum (λ j. 0) n (λ j below. refl)

module _ (web : Web) (at : ℕ → ℕ) (merge : IsMerge web at) where
  -- degrees by classes
  degrees_by_class : (t : ℕ → Bool) → Keeps web at t → degrees web t ≡ sum_below (λ r. cond (t r) (degrees web (class at r)) 0) web.junctions
  degrees_by_class t keeps =
      same_sum (λ j. cond (t j) (web.degree j) 0) (λ j. sum_below (λ r. cond (at j == r) (cond (t r) (web.degree j) 0) 0) web.junctions) web.junctions
      (λ j below. ap (λ (b : Bool). cond b (web.degree j) 0) (sym (keeps j below)) ∙ sym (sum_single (λ r. cond (t r) (web.degree j) 0) (at j) web.junctions (merge.below j below)))
      ∙ sum_exchange (λ j r. cond (at j == r) (cond (t r) (web.degree j) 0) 0) web.junctions web.junctions
      ∙ same_sum (λ r. sum_below (λ j. cond (at j == r) (cond (t r) (web.degree j) 0) 0) web.junctions) (λ r. cond (t r) (degrees web (class at r)) 0) web.junctions
      (λ r below. same_sum (λ j. cond (at j == r) (cond (t r) (web.degree j) 0) 0) (λ j. cond (t r) (cond (at j == r) (web.degree j) 0) 0) web.junctions (λ j under. swap_conds (at j == r) (t r) (web.degree j))
      ∙ out_of_cond (t r) (λ j. cond (at j == r) (web.degree j) 0) web.junctions)

  -- an odd set that keeps classes holds an odd node
  pub odd_node_in : (t : ℕ → Bool) → Keeps web at t → IsOdd web t → (r : ℕ) × (t r ≡ true) × (IsOddNode web at r)
  odd_node_in t keeps odd =
      let term = odd_term (λ r. cond (t r) (degrees web (class at r)) 0) web.junctions (ap (λ (n : ℕ). n % 2) (sym (degrees_by_class t keeps)) ∙ odd) in
      let two = zero_or (t term.0) (degrees web (class at term.0)) term.2 in
      (term.0, two.0, record { below = term.1; odd = two.1 })

  pub keeps_outside : (t : ℕ → Bool) → Keeps web at t → Keeps web at (outside t)
  keeps_outside t keeps = λ j below. ap not (keeps j below)

  keeps_both : (t u : ℕ → Bool) → Keeps web at t → Keeps web at u → Keeps web at (both t u)
  keeps_both t u first second = λ j below. ap (λ (b : Bool). b && u (at j)) (first j below) ∙ ap (λ (b : Bool). t j && b) (second j below)

  keeps_either : (t u : ℕ → Bool) → Keeps web at t → Keeps web at u → Keeps web at (either t u)
  keeps_either t u first second = λ j below. ap (λ (b : Bool). b || u (at j)) (first j below) ∙ ap (λ (b : Bool). t j || b) (second j below)

  keeps_without : (t u : ℕ → Bool) → Keeps web at t → Keeps web at u → Keeps web at (without t u)
  keeps_without t u first second = keeps_both t (outside u) first (keeps_outside u second)

  -- so it is a split
  pub odd_is_split : (t : ℕ → Bool) → IsWeb web → Keeps web at t → IsOdd web t → (u : ℕ) × (v : ℕ) × (IsSplit web at t u v)
  odd_is_split t is keeps odd =
      let inner = odd_node_in t keeps odd in
      let outer = odd_node_in (outside t) (keeps_outside t keeps) (outside_odd web t is odd) in
      (inner.0, outer.0, record { keeps = keeps; first = inner.2; second = outer.2; holds = inner.1; leaves_out = not-true (t outer.0) outer.1 })

  -- no odd set weighs less than a least split
  pub least_split_bounds : (u : ℕ → Bool) (s t : ℕ) (set : ℕ → Bool) → IsWeb web → IsLeastSplit web at u s t → Keeps web at set → IsOdd web set → cut web u ≤ cut web set
  least_split_bounds u s t set is least keeps odd =
      let split = odd_is_split set is keeps odd in least.least set split.0 split.1 split.2

  -- ---- uncrossing

  least_outside : (u : ℕ → Bool) (s t : ℕ) → IsLeastSplit web at u s t → IsLeastSplit web at (outside u) t s
  least_outside u s t is = record {
    split = record { keeps = keeps_outside u is.split.keeps; first = is.split.second; second = is.split.first; holds = ap not is.split.leaves_out; leaves_out = ap not is.split.holds };
    least = λ other v w split. omega (arith, cut_outside web u, is.least other v w split);
  }

  or_true : (a b : Bool) → b ≡ true → (a || b) ≡ true
  or_true true b e = refl
  or_true false b e = e

  or_false : (a b : Bool) → a ≡ false → b ≡ false → (a || b) ≡ false
  or_false true b e f = absurd (true≢false e)
  or_false false b e f = f

  and_false : (a b : Bool) → b ≡ false → (a && b) ≡ false
  and_false true b e = e
  and_false false b e = refl

  pub odd_within : (u : ℕ → Bool) (s t : ℕ) (set : ℕ → Bool) → IsLeastSplit web at u s t → degrees web u % 2 ≡ 0 → Keeps web at set → IsOdd web set → IsOdd web (both set u) → IsWithin web at u set
  odd_within u s t set is even keeps odd shared = by (cases_Bool (set t))
    where
      by : (set t ≡ true) ⊎ (set t ≡ false) → IsWithin web at u set
      by (inr misses) = record {
        inner = both set u;
        keeps = keeps_both set u keeps is.split.keeps;
        odd = shared;
        lighter = omega (
          arith,
          cut_shared web set u,
          is.least (either set u) s t (record {
            keeps = keeps_either set u keeps is.split.keeps;
            first = is.split.first;
            second = is.split.second;
            holds = or_true (set s) (u s) is.split.holds;
            leaves_out = or_false (set t) (u t) misses is.split.leaves_out;
          }),
        );
        within = λ j has. (and_parts (set j) (u j) has).1;
      }
      by (inl has) = record {
        inner = without u set;
        keeps = keeps_without u set is.split.keeps keeps;
        odd = omega (arith, degrees_parted web u set, same_degrees web (both u set) (both set u) (λ j below. turned (u j) (set j)));
        lighter = omega (
          arith,
          cut_apart web set u,
          is.least (without set u) t s (record {
            keeps = keeps_without set u keeps is.split.keeps;
            first = is.split.second;
            second = is.split.first;
            holds = and_from (set t) (not (u t)) has (ap not is.split.leaves_out);
            leaves_out = and_false (set s) (not (u s)) (ap not is.split.holds);
          }),
        );
        within = λ j has. (and_parts (u j) (not (set j)) has).0;
      }
        where
          turned : (a b : Bool) → (a && b) ≡ (b && a)
          turned true true = refl
          turned true false = refl
          turned false true = refl
          turned false false = refl

  -- where a least split is even, an odd set that isn't heavier lies within it or within what it leaves out
  pub odd_on_a_side : (u : ℕ → Bool) (s t : ℕ) (set : ℕ → Bool) → IsWeb web → IsLeastSplit web at u s t → degrees web u % 2 ≡ 0 → Keeps web at set → IsOdd web set → IsWithin web at u set ⊎ IsWithin web at (outside u) set
  odd_on_a_side u s t set web_is is even keeps odd =
      elim (cases_eq (degrees web (both set u) % 2) 1) [
        | inl shared ↦ inl (odd_within u s t set is even keeps odd shared)
        | inr none ↦ inr (odd_within (outside u) t s set (least_outside u s t is) (outside_even web u web_is even) keeps odd (omega (arith, degrees_parted web set u)))
      ]

  -- ---- a least split from least cuts between pairs

  -- one fixed odd node and each other one: the least of their least cuts is a least split
  pub least_of_pairs : (s t : ℕ) (u : ℕ → Bool) → IsOddNode web at s → IsOddNode web at t → IsLeastBetween web at s t u
      → ((v : ℕ) → IsOddNode web at v → (v ≡ s → ⊥) → (set : ℕ → Bool) × (IsLeastBetween web at s v set) × (cut web u ≤ cut web set)) → IsLeastSplit web at u s t
  least_of_pairs s t u first second between each = record {
    split = record { keeps = between.keeps; first = first; second = second; holds = between.holds; leaves_out = between.leaves_out };
    least = λ other v w split. by other v w split (cases_Bool (other s));
  }
    where
      apart : (other : ℕ → Bool) (v : ℕ) → other s ≡ true → other v ≡ false → v ≡ s → ⊥
      apart other v holds out same = true≢false (sym holds ∙ ap other (sym same) ∙ out)

      at_pair : (other : ℕ → Bool) (v : ℕ) → Keeps web at other → IsOddNode web at v → other s ≡ true → other v ≡ false → cut web u ≤ cut web other
      at_pair other v keeps node holds out =
          let pair = each v node (apart other v holds out) in omega (arith, pair.2, pair.1.least other keeps holds out)

      by : (other : ℕ → Bool) (v w : ℕ) → IsSplit web at other v w → (other s ≡ true) ⊎ (other s ≡ false) → cut web u ≤ cut web other
      by other v w split (inl holds) = at_pair other w split.keeps split.second holds split.leaves_out
      by other v w split (inr out) =
          omega (arith, cut_outside web other, at_pair (outside other) v (keeps_outside other split.keeps) split.first (ap not out) (ap not split.holds))
