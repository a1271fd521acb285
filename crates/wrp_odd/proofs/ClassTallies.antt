-- The tallies of classes, one street after the other.
use Rattle.std.proofs.Common.{◌≡◌, ℕ, ◌+◌, ◌*◌, ◌^◌, ◌≤◌, Bool, true, false, cond, ◌==◌, List, ap, ◌∙◌, arith}
use Rattle.wrp_town.specs.declared.town.Town.{Town}
use Rattle.wrp_town.specs.Arcs.{tail_of, head_of}
use Rattle.wrp_webs.specs.Webs.{differ, class}
use Rattle.wrp_webs.specs.Searching.{reading}
use Rattle.wrp_webs.specs.TownWebs.{demand_count}
use Rattle.wrp_webs.proofs.SumsBelow.{sum_more}
use Rattle.wrp_odd.specs.declared.tally.Tally.{Tally}
use Rattle.wrp_odd.specs.Crossing.{crosses_at, AreTallies, AreLight, IsCounted}

same_term : (f t f2 t2 c v w : ℕ) → f ≡ f2 → t ≡ t2 → v ≡ w → cond (differ (f == c) (t == c)) v 0 ≡ cond (differ (f2 == c) (t2 == c)) w 0
same_term f t f2 t2 c v w first second value =
    ap (λ k. cond (differ (k == c) (t == c)) v 0) first ∙ ap (λ k. cond (differ (f2 == c) (k == c)) v 0) second ∙ ap (λ k. cond (differ (f2 == c) (t2 == c)) k 0) value

-- a street more
pub tallies_more : (town : Town) (x : ℕ → ℕ) (labels : List ℕ) (n : ℕ) (old new : List Tally) (street : Tally) (from to : ℕ)
    → from ≡ reading labels (tail_of town (2 * n)) → to ≡ reading labels (head_of town (2 * n))
    → street.sum ≡ x (2 * n) + x (2 * n + 1) → street.demands ≡ demand_count town n
    → IsCounted from to street old new → AreTallies town x labels n old → AreTallies town x labels (n + 1) new
tallies_more town x labels n old new street from to from_is to_is sum_is demands_is counted are = record {
  long = counted.long ∙ are.long;
  sums = λ c below. omega (
    arith,
    counted.sums c (omega (arith, are.long)),
    are.sums c below,
    same_term from to (reading labels (tail_of town (2 * n))) (reading labels (head_of town (2 * n))) c street.sum (x (2 * n) + x (2 * n + 1)) from_is to_is sum_is,
    sum_more (λ s. cond (crosses_at town (class (reading labels) c) s) (x (2 * s) + x (2 * s + 1)) 0) n,
  );
  demands = λ c below. omega (
    arith,
    counted.demands c (omega (arith, are.long)),
    are.demands c below,
    same_term from to (reading labels (tail_of town (2 * n))) (reading labels (head_of town (2 * n))) c street.demands (demand_count town n) from_is to_is demands_is,
    sum_more (λ s. cond (crosses_at town (class (reading labels) c) s) (demand_count town s) 0) n,
  );
}

at_most : (b : Bool) (v : ℕ) → cond b v 0 ≤ v
at_most true v = omega arith
at_most false v = omega arith

pub light_more : (n : ℕ) (old new : List Tally) (street : Tally) (from to : ℕ) → street.sum ≤ 2 ^ 73 → street.demands ≤ 2 → IsCounted from to street old new → AreLight n old → AreLight (n + 1) new
light_more n old new street from to sum demands counted light = record {
  sums = λ c below. omega (arith, counted.sums c (omega (arith, counted.long)), light.sums c (omega (arith, counted.long)), at_most (differ (from == c) (to == c)) street.sum);
  demands = λ c below. omega (arith, counted.demands c (omega (arith, counted.long)), light.demands c (omega (arith, counted.long)), at_most (differ (from == c) (to == c)) street.demands);
}
