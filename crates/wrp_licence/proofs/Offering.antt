-- What stands after a bound was offered, and after records that are no cuts.
use Rattle.std.proofs.Common.{◌≡◌, ℕ, ◌*◌, ◌<◌, ◌≤◌, true, ◌≤ℤ◌, List, [], ◌∷◌, ◌++◌, None, ap, sym, ◌∙◌, subst, arith}
use Rattle.std.specs.List.{All}
use Rattle.std.proofs.lemmas.Int.{by_lt_z}
use Rattle.wrp_sums.proofs.Integers.{linear}
use Rattle.wrp_town.specs.declared.town.Town.{Town}
use Rattle.wrp_town.specs.declared.street.Step.{Step}
use Rattle.wrp_rules.specs.declared.record.Record.{Record}
use Rattle.wrp_rules.specs.declared.record.Record.TheVariants.{Bound, Tour}
use Rattle.wrp_rules.specs.Rows.{Row}
use Rattle.wrp_rules.specs.Nodes.{Node, root, Standing, standing, node_at, bound_at, with_bound}
use Rattle.wrp_rules.specs.Rules.{broken_rule, rows_are_there}
use Rattle.wrp_rules.specs.Lists.{is_valid}
use Rattle.wrp_writer.specs.Limits.{is_writable}
use Rattle.wrp_laws.specs.Points.{MeetsOver, IsPointOf, price}
use Rattle.wrp_laws.proofs.Boxes.{changed_at}
use Rattle.wrp_laws.proofs.PointCosts.{points_cost}
use Rattle.wrp_rows.specs.declared.point.Point.{Point}
use Rattle.wrp_odd.specs.Points.{denominator_of, numbers_of}
use Rattle.wrp_progress.specs.Progress.{HasNoLabels, IsOpenIn, node_in, node_count}
use Rattle.wrp_progress.proofs.Branching.{bound_follows}
use Rattle.wrp_progress.proofs.Growing.{standing_more}
use Rattle.wrp_box.specs.Relaxing.{IsPointIn}

module _ (town : Town) (items : List Record) (node den : ℕ) (mult : List (ℕ × ℕ)) where
  abbrev s : Standing
  s = standing town items

  pub bound_raised : node < node_count town items → (node_in town (items ++ Bound node den mult ∷ []) node).bound ≡ bound_at town s node den mult
  bound_raised there =
      ap (λ (t : Standing). (node_at town t node).bound) (standing_more town items (Bound node den mult))
      ∙ ap (λ (n : Node). n.bound) (changed_at (with_bound (bound_at town s node den mult)) node s.nodes (root town) there)

  module _ (e : ℕ) (x : ℕ → ℕ) (priced : bound_at town s node den mult ≡ price town e x) where
    pub bound_joined : node < node_count town items → (node_in town (items ++ Bound node den mult ∷ []) node).bound ≡ price town e x
    bound_joined there = bound_raised there ∙ priced

    pub bound_refused : is_valid town items ≡ true → HasNoLabels items → IsOpenIn town items node → is_writable (Bound node den mult) ≡ true → rows_are_there s mult ≡ true → IsPointOf town s.rows (node_in town items node) e x
        → (broken_rule town s (Bound node den mult) ≡ None → ⊥) → (node_in town items node).bound ≡ price town e x
    bound_refused valid unlabelled opened writable rows point refused =
        let most : (node_in town items node).bound ≤ℤ price town e x = points_cost town items valid node opened.there e x point in
        by_lt_z (node_in town items node).bound (bound_at town s node den mult)
        (λ below. absurd (refused (bound_follows town items unlabelled node den mult writable opened rows below)))
        (λ least. omega (arith, linear, priced, most, least))

-- a tour leaves every node as it is
pub tour_keeps : (town : Town) (items : List Record) (cost i : ℕ) (steps : List Step) → node_in town (items ++ Tour cost steps ∷ []) i ≡ node_in town items i
tour_keeps town items cost i steps = ap (λ (t : Standing). node_at town t i) (standing_more town items (Tour cost steps))

-- a point lies in the same box, and meets the same rows
pub point_kept : (town : Town) (s t : Standing) (node other : Node) (point : Point) → t.rows ≡ s.rows → other.lo ≡ node.lo → other.hi ≡ node.hi → IsPointIn town s node point → IsPointIn town t other point
point_kept town s t node other point rows lo hi is = record {
  is = is.is;
  numbers = is.numbers;
  of_node = record {
    positive = is.of_node.positive;
    at_least = λ arc legal. subst (λ (f : ℕ → ℕ). f arc * denominator_of point ≤ numbers_of point arc) (sym lo) (is.of_node.at_least arc legal);
    at_most = λ arc legal. subst (λ (f : ℕ → ℕ). numbers_of point arc ≤ f arc * denominator_of point) (sym hi) (is.of_node.at_most arc legal);
    meets = subst (λ (rs : List Row). All (MeetsOver town (denominator_of point) (numbers_of point)) rs) (sym rows) is.of_node.meets;
  };
}
