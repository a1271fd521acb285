use Rattle.std.proofs.Common.{◌≡◌, ℕ, ◌+◌, ◌*◌, Bool, false, cond, List, slice_index, ap, sym, ◌∙◌, arith}
use Rattle.std.proofs.lemmas.Grind.{common_steps}
use Rattle.wrp_town.specs.declared.town.Town.{Town}
use Rattle.wrp_town.specs.Arcs.{tail_of, head_of}
use Rattle.wrp_rules.specs.Rows.{joins_ends, chain_distance}
use Rattle.wrp_webs.specs.TownWebs.{demand_count}
use Rattle.wrp_webs.proofs.SumsBelow.{sum_more}
use Rattle.wrp_odd.specs.Points.{numbers_of}
use Rattle.wrp_kc.specs.Chains.{are_ends, distance, weighed_sum, joining_count}
use Rattle.wrp_kc.proofs.chain.count.Goals as goal

module _ (town : Town) (x : ℕ → ℕ) (k : ℕ) (of : List ℕ) (s tail head : ℕ) (at_tail : tail ≡ tail_of town (2 * s)) (at_head : head ≡ head_of town (2 * s)) where
  -- what is read off the two sets of the street is read off its ends
  of_ends : {X : Type 0} (f : ℕ → ℕ → X) → f (slice_index of tail) (slice_index of head) ≡ f (slice_index of (tail_of town (2 * s))) (slice_index of (head_of town (2 * s)))
  of_ends f = ap (λ (j : ℕ). f (slice_index of j) (slice_index of head)) at_tail ∙ ap (λ (j : ℕ). f (slice_index of (tail_of town (2 * s))) (slice_index of j)) at_head

  weighed_more : (d sum : ℕ) → d ≡ distance k (slice_index of tail) (slice_index of head) → sum ≡ x (2 * s) + x (2 * s + 1) → weighed_sum town x k of s + d * sum ≡ weighed_sum town x k of (s + 1)
  weighed_more d sum far numbers =
      ap (λ (n : ℕ). weighed_sum town x k of s + n * sum) (far ∙ of_ends (distance k))
      ∙ ap (λ (n : ℕ). weighed_sum town x k of s + chain_distance town k of (2 * s) * n) numbers
      ∙ sym (sum_more (λ i. chain_distance town k of (2 * i) * (x (2 * i) + x (2 * i + 1))) s)

  joining_same : false ≡ are_ends k (slice_index of tail) (slice_index of head) → joining_count town k of s ≡ joining_count town k of (s + 1)
  joining_same apart =
      let none : cond (joins_ends town k of (2 * s)) (demand_count town s) 0 ≡ 0 = ap (λ (t : Bool). cond t (demand_count town s) 0) (sym (apart ∙ of_ends (are_ends k))) in
      omega (arith, none, sum_more (λ i. cond (joins_ends town k of (2 * i)) (demand_count town i) 0) s)

pub returns-else-are_ends : goal.returns-else-are_ends
returns-else-are_ends c =
    let town = c.args.town.now in
    let x = numbers_of c.args.point.now in
    let k = c.args.k in
    let of = c.args.of.now in
    let s = c.args.street in
    record {
      sum = ap (λ (n : ℕ). n + c.from.result * c.tally_of-tally.result.sum) c.requires.before.sum ∙ weighed_more town x k of s c.tail.result c.head.result c.tail.ensures.value c.head.ensures.value c.from.result c.tally_of-tally.result.sum (c.from.ensures ∙ c.distance.ensures.value) c.tally_of-tally.ensures.sum;
      joining = c.requires.before.joining ∙ joining_same town x k of s c.tail.result c.head.result c.tail.ensures.value c.head.ensures.value c.if-are_ends.ensures;
      light = grind (arith, common_steps);
      few = omega arith;
    }
