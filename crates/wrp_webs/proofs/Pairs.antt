-- Least cuts between pairs of nodes, by flows: each link is two arcs, one each way.
use Rattle.std.proofs.Common.{◌≡◌, ℕ, zero, suc, ◌+◌, ◌*◌, ◌/◌, ◌%◌, ◌≤◌, Bool, true, false, cond, ◌&&◌, not, ◌==◌, ap, refl, sym, ◌∙◌, arith, eq-eqb}
use Rattle.std.proofs.lemmas.Bool.{ne_eqb, eqb-true}
use Rattle.wrp_webs.specs.Webs.{sum_below, Web, differ, cut, IsWeb, IsMerge, class, Keeps, IsOddNode, IsLeastBetween}
use Rattle.wrp_webs.specs.Nets.{leaving, tail_between, head_between}
use Rattle.wrp_webs.proofs.SumsBelow.{same_sum, odd_term}

-- a sum over pairs
pub sum_pairs : (f : ℕ → ℕ) (n : ℕ) → sum_below f (2 * n) ≡ sum_below (λ l. f (2 * l) + f (2 * l + 1)) n
sum_pairs f zero = refl
sum_pairs f (suc n) =
    let long : 2 * suc n ≡ suc (suc (2 * n)) = omega arith in
    let next : suc (2 * n) ≡ 2 * n + 1 = omega arith in
    ap (sum_below f) long ∙ omega (arith, sum_pairs f n, ap f next)

both_ways : (a b : Bool) (w : ℕ) → cond (a && not b) w 0 + cond (b && not a) w 0 ≡ cond (differ a b) w 0
both_ways true true w = refl
both_ways true false w = omega arith
both_ways false true w = omega arith
both_ways false false w = refl

module _ (web : Web) (at : ℕ → ℕ) where
  even_is : (l : ℕ) → ((2 * l) % 2 == 0) ≡ true
  even_is l = eq-eqb _ _ (omega arith)

  odd_is : (l : ℕ) → ((2 * l + 1) % 2 == 0) ≡ false
  odd_is l = ne_eqb _ _ (λ e. absurd (omega arith))

  half_even : (l : ℕ) → (2 * l) / 2 ≡ l
  half_even l = omega arith

  half_odd : (l : ℕ) → (2 * l + 1) / 2 ≡ l
  half_odd l = omega arith

  tail_even : (l : ℕ) → tail_between web at (2 * l) ≡ at (web.one l)
  tail_even l = ap (λ (b : Bool). at (cond b (web.one ((2 * l) / 2)) (web.two ((2 * l) / 2)))) (even_is l) ∙ ap (λ (k : ℕ). at (web.one k)) (half_even l)

  head_even : (l : ℕ) → head_between web at (2 * l) ≡ at (web.two l)
  head_even l = ap (λ (b : Bool). at (cond b (web.two ((2 * l) / 2)) (web.one ((2 * l) / 2)))) (even_is l) ∙ ap (λ (k : ℕ). at (web.two k)) (half_even l)

  tail_odd : (l : ℕ) → tail_between web at (2 * l + 1) ≡ at (web.two l)
  tail_odd l = ap (λ (b : Bool). at (cond b (web.one ((2 * l + 1) / 2)) (web.two ((2 * l + 1) / 2)))) (odd_is l) ∙ ap (λ (k : ℕ). at (web.two k)) (half_odd l)

  head_odd : (l : ℕ) → head_between web at (2 * l + 1) ≡ at (web.one l)
  head_odd l = ap (λ (b : Bool). at (cond b (web.two ((2 * l + 1) / 2)) (web.one ((2 * l + 1) / 2)))) (odd_is l) ∙ ap (λ (k : ℕ). at (web.one k)) (half_odd l)

  abbrev capacity : ℕ → ℕ
  capacity a = web.weight (a / 2)

  -- what leaves a set of nodes in the net is what crosses it
  pub net_cut : (set : ℕ → Bool) → leaving (2 * web.links) (tail_between web at) (head_between web at) capacity set ≡ cut web (λ j. set (at j))
  net_cut set =
      sum_pairs (λ a. cond (set (tail_between web at a) && not (set (head_between web at a))) (capacity a) 0) web.links
      ∙ same_sum (λ l. cond (set (tail_between web at (2 * l)) && not (set (head_between web at (2 * l)))) (capacity (2 * l)) 0 + cond (set (tail_between web at (2 * l + 1)) && not (set (head_between web at (2 * l + 1)))) (capacity (2 * l + 1)) 0)
      (λ l. cond (differ (set (at (web.one l))) (set (at (web.two l)))) (web.weight l) 0) web.links
      (λ l below. omega (
        arith,
        ap (λ (k : ℕ). cond (set k && not (set (head_between web at (2 * l)))) (capacity (2 * l)) 0) (tail_even l),
        ap (λ (k : ℕ). cond (set (at (web.one l)) && not (set k)) (capacity (2 * l)) 0) (head_even l),
        ap (λ (k : ℕ). cond (set (at (web.one l)) && not (set (at (web.two l)))) (web.weight k) 0) (half_even l),
        ap (λ (k : ℕ). cond (set k && not (set (head_between web at (2 * l + 1)))) (capacity (2 * l + 1)) 0) (tail_odd l),
        ap (λ (k : ℕ). cond (set (at (web.two l)) && not (set k)) (capacity (2 * l + 1)) 0) (head_odd l),
        ap (λ (k : ℕ). cond (set (at (web.two l)) && not (set (at (web.one l)))) (web.weight k) 0) (half_odd l),
        both_ways (set (at (web.one l))) (set (at (web.two l))) (web.weight l),
      ))

  -- an odd node stands for itself
  pub odd_node_still : IsMerge web at → (r : ℕ) → IsOddNode web at r → at r ≡ r
  odd_node_still merge r node =
      let term = odd_term (λ j. cond (class at r j) (web.degree j) 0) web.junctions node.odd in
      let same : at term.0 ≡ r = by (at term.0 == r) refl (web.degree term.0) term.2 in ap at (sym same) ∙ merge.still term.0 term.1 ∙ same
    where
      by : {j : ℕ} (b : Bool) → (at j == r) ≡ b → (d : ℕ) → cond b d 0 % 2 ≡ 1 → at j ≡ r
      by {j} true e d odd = eqb-true (at j) r e
      by {j} false e d odd = absurd (omega arith)

  keeps_cut : IsWeb web → (set : ℕ → Bool) → Keeps web at set → cut web (λ j. set (at j)) ≡ cut web set
  keeps_cut is set keeps =
      same_sum (λ l. cond (differ (set (at (web.one l))) (set (at (web.two l)))) (web.weight l) 0) (λ l. cond (differ (set (web.one l)) (set (web.two l))) (web.weight l) 0) web.links
      (λ l below. ap (λ (b : Bool). cond (differ b (set (at (web.two l)))) (web.weight l) 0) (keeps (web.one l) (is.one_below l below)) ∙ ap (λ (b : Bool). cond (differ (set (web.one l)) b) (web.weight l) 0) (keeps (web.two l) (is.two_below l below)))

  -- a set of nodes that a flow shows to be least is a least cut between two nodes
  pub between_from_net : IsWeb web → IsMerge web at → (s t : ℕ) (found : ℕ → Bool) → at s ≡ s → at t ≡ t → found s ≡ true → found t ≡ false
      → ((set : ℕ → Bool) → set s ≡ true → set t ≡ false → leaving (2 * web.links) (tail_between web at) (head_between web at) capacity found ≤ leaving (2 * web.links) (tail_between web at) (head_between web at) capacity set)
      → IsLeastBetween web at s t (λ j. found (at j))
  between_from_net is merge s t found s_still t_still holds out least = record {
    keeps = λ j below. ap found (merge.still j below);
    holds = ap found s_still ∙ holds;
    leaves_out = ap found t_still ∙ out;
    least = λ other keeps has none. omega (arith, net_cut found, net_cut other, least other has none, keeps_cut is other keeps);
  }
