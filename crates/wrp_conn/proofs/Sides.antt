-- The sides of a least cut between two nodes, as light sets.
use Rattle.std.proofs.Common.{◌≡◌, ◌≢◌, ℕ, ◌+◌, ◌*◌, ◌<◌, ◌≤◌, Bool, true, false, cond, ◌&&◌, not, ℤ, pos, ◌<ℤ◌, to_z, of_z, List, length, slice_index, Option, Some, ap, sym, ◌∙◌, subst, arith}
use Rattle.std.specs.List.{All}
use Rattle.std.proofs.lemmas.List.{get_or_default}
use Rattle.std.specs.Int.{w128}
use Rattle.std.specs.Prelude.{◌≤ℤ◌, unsigned_abs, IfSome}
use Rattle.wrp_flow.specs.declared.net.BothCuts.{BothCuts}
use Rattle.std.proofs.lemmas.Int.{to_z-of_z}
use Rattle.wrp_sums.proofs.Integers.{linear, sized, casts, ≤-from_pos}
use Rattle.wrp_town.specs.declared.town.Town.{Town}
use Rattle.wrp_town.specs.Arcs.{tail_of, head_of}
use Rattle.wrp_town.proofs.TownLaws.{tail_of-below, head_of-below}
use Rattle.wrp_rules.specs.Rules.{all_below}
use Rattle.wrp_rules.specs.Sets.{is_in}
use Rattle.wrp_webs.specs.Webs.{outside}
use Rattle.wrp_webs.proofs.SumsBelow.{same_sum}
use Rattle.wrp_flow.specs.Flows.{ArePoles, leaving_in, IsSideOf}
use Rattle.wrp_rows.specs.declared.point.Point.{Point}
use Rattle.wrp_rows.specs.Marks.{is_marked}
use Rattle.wrp_rows.specs.Points.{most_denominator}
use Rattle.wrp_odd.specs.Points.{denominator_of, numbers_of}
use Rattle.wrp_conn.specs.declared.shrunk.Shrunk.{Shrunk}
use Rattle.wrp_conn.specs.Conns.{IsBalancedPoint}
use Rattle.wrp_conn.specs.Founds.{IsLight, IsSide}
use Rattle.wrp_conn.specs.Shrunk.{IsShrunk, IsAtNode}
use Rattle.wrp_conn.proofs.Points.{denominator_is}

module _ (town : Town) (point : Point) (shrunk : Shrunk) (is : IsBalancedPoint town point) (small : IsShrunk town (numbers_of point) shrunk) where
  pub nodes_small : All (λ node. node < length shrunk.nodes.items) shrunk.nodes.items
  nodes_small = λ k d below. omega (arith, small.nodes.long, get_or_default shrunk.nodes.items k d 0 below, small.nodes.below k (omega (arith, small.nodes.long)))

  pub nodes_below : (set : List ℕ) → all_below shrunk.net.nodes set ≡ true → all_below (length shrunk.nodes.items) set ≡ true
  nodes_below set below = subst (λ (n : ℕ). all_below n set ≡ true) (small.count ∙ sym small.nodes.long) below

  side_long : (nodes : List ℕ) (side : List Bool) → nodes ≡ shrunk.nodes.items → length side ≡ length nodes → length side ≡ length town.junctions
  side_long nodes side lent long = long ∙ ap (λ (xs : List ℕ). length xs) lent ∙ small.nodes.long

  module _ (r1 r2 : ℕ) (first : IsAtNode town shrunk.nodes.items r1) (second : IsAtNode town shrunk.nodes.items r2) where
    pub poles : tail_of town (2 * r1) ≢ tail_of town (2 * r2) → ArePoles shrunk.net (tail_of town (2 * r1)) (tail_of town (2 * r2))
    poles differ = record {
      source = omega (arith, small.count, tail_of-below town (2 * r1) (omega (arith, first.required.below)));
      sink = omega (arith, small.count, tail_of-below town (2 * r2) (omega (arith, second.required.below)));
      differ = differ;
    }

    -- a set of nodes that little leaves in the net, as marks of junctions
    pub side_is_light : (set : ℕ → Bool) (side : List Bool) (value : ℕ) → IsSide shrunk.nodes.items set side → set (tail_of town (2 * r1)) ≡ true → set (tail_of town (2 * r2)) ≡ false
        → leaving_in shrunk.net set ≡ value → value < denominator_of point → IsLight town point r1 r2 value (is_marked side)
    side_is_light set side value marks holds out worth low = record {
      first = first.required;
      second = second.required;
      uncrossed = λ arc below required. at (tail_of town arc) (tail_of-below town arc below) ∙ small.uncrossed set arc below required ∙ sym (at (head_of town arc) (head_of-below town arc below));
      holds = at (tail_of town (2 * r1)) (tail_of-below town (2 * r1) (omega (arith, first.required.below))) ∙ ap set first.still ∙ holds;
      leaves_out = at (tail_of town (2 * r2)) (tail_of-below town (2 * r2) (omega (arith, second.required.below))) ∙ ap set second.still ∙ out;
      weighs = same_sum (λ a. cond (is_marked side (tail_of town a) && not (is_marked side (head_of town a))) (numbers_of point a) 0)
          (λ a. cond (set (slice_index shrunk.nodes.items (tail_of town a)) && not (set (slice_index shrunk.nodes.items (head_of town a)))) (numbers_of point a) 0) (2 * length town.streets)
          (λ a below. ap (λ (b : Bool). cond (b && not (is_marked side (head_of town a))) (numbers_of point a) 0) (at (tail_of town a) (tail_of-below town a below))
          ∙ ap (λ (b : Bool). cond (set (slice_index shrunk.nodes.items (tail_of town a)) && not b) (numbers_of point a) 0) (at (head_of town a) (head_of-below town a below)))
          ∙ sym (small.leaves set)
          ∙ worth;
      light = low;
    }
      where
        at : (j : ℕ) → j < length town.junctions → is_marked side j ≡ set (slice_index shrunk.nodes.items j)
        at j below = marks.is j (omega (arith, small.nodes.long))

  -- the value of a cut is below the denominator
  value_low : (value : ℕ) (z : ℤ) → pos value ≡ z → z <ℤ point.den → value < denominator_of point
  value_low value z same low =
      let den : pos (denominator_of point) ≡ point.den = denominator_is town point is in
      let above : value + 1 ≤ denominator_of point = ≤-from_pos (value + 1) (denominator_of point) (omega (arith, linear)) in
      omega arith

-- ---- what a least cut shows

-- a number of 128 bits that is passed is the same
passed : (town : Town) (point : Point) → IsBalancedPoint town point → to_z w128 (of_z w128 point.den) ≡ point.den
passed town point is =
    let positive : pos 1 ≤ℤ point.den = is.is.positive in
    let most : point.den ≤ℤ pos most_denominator = is.is.low in
    to_z-of_z w128 point.den (omega (arith, casts))

worth_is : (m value : ℕ) (z : ℤ) → pos m ≡ z → value ≡ unsigned_abs z → (m ≡ value) × (pos value ≡ z)
worth_is m value z worth size = (omega (arith, sized), omega (arith, sized))

module _ (town : Town) (point : Point) (shrunk : Shrunk) (is : IsBalancedPoint town point) (small : IsShrunk town (numbers_of point) shrunk) (r1 r2 : ℕ) (first : IsAtNode town shrunk.nodes.items r1)
    (second : IsAtNode town shrunk.nodes.items r2) (s t : ℕ) (s_is : s ≡ tail_of town (2 * r1)) (t_is : t ≡ tail_of town (2 * r2)) where
  module _ (nodes : List ℕ) (side : List Bool) (value : ℕ) (z : ℤ) (lent : nodes ≡ shrunk.nodes.items) (size : value ≡ unsigned_abs z) (low : z <ℤ point.den) where
    -- the side of the source is light
    near_light : (set lent_set : List ℕ) → lent_set ≡ set → IsSideOf shrunk.net s t set → IsSide nodes (is_in lent_set) side → pos (leaving_in shrunk.net (is_in set)) ≡ z → IsLight town point r1 r2 value (is_marked side)
    near_light set lent_set same of marks worth =
        let at = worth_is (leaving_in shrunk.net (is_in set)) value z worth size in
        side_is_light town point shrunk is small r1 r2 first second (is_in set) side value (subst (λ (xs : List ℕ). IsSide xs (is_in set) side) lent (subst (λ (xs : List ℕ). IsSide nodes (is_in xs) side) same marks))
        (ap (is_in set) (sym s_is) ∙ of.holds) (ap (is_in set) (sym t_is) ∙ of.leaves_out) at.0 (value_low town point shrunk is small value z at.1 low)

    -- and what is outside the side of the sink
    far_light : (set lent_set : List ℕ) → lent_set ≡ set → IsSideOf shrunk.net t s set → IsSide nodes (λ node. not (is_in lent_set node)) side → pos (leaving_in shrunk.net (outside (is_in set))) ≡ z
        → IsLight town point r1 r2 value (is_marked side)
    far_light set lent_set same of marks worth =
        let at = worth_is (leaving_in shrunk.net (outside (is_in set))) value z worth size in
        side_is_light town point shrunk is small r1 r2 first second (outside (is_in set)) side value
        (subst (λ (xs : List ℕ). IsSide xs (outside (is_in set)) side) lent (subst (λ (xs : List ℕ). IsSide nodes (outside (is_in xs)) side) same marks))
        (ap not (ap (is_in set) (sym s_is) ∙ of.leaves_out)) (ap not (ap (is_in set) (sym t_is) ∙ of.holds)) at.0 (value_low town point shrunk is small value z at.1 low)

  -- both sides of a cut that was found, as they are lent
  module _ (found : Option BothCuts) (both : BothCuts) (some : found ≡ Some both) (sets : IfSome found (λ both. IsSideOf shrunk.net s t both.cut.set × IsSideOf shrunk.net t s both.sink_side))
      (worth : IfSome found (λ both. (pos (leaving_in shrunk.net (is_in both.cut.set)) ≡ both.cut.value) × (pos (leaving_in shrunk.net (outside (is_in both.sink_side))) ≡ both.cut.value)))
      (below : IfSome found (λ both. both.cut.value <ℤ to_z w128 (of_z w128 point.den))) (nodes lent_set : List ℕ) (side lent_side : List Bool) (value : ℕ) (lent : nodes ≡ shrunk.nodes.items)
      (passed_size : value ≡ unsigned_abs (to_z w128 (of_z w128 both.cut.value))) (same_side : lent_side ≡ side) where
    low : both.cut.value <ℤ point.den
    low = subst (λ (z : ℤ). both.cut.value <ℤ z) (passed town point is) (subst (λ (o : Option BothCuts). IfSome o (λ both. both.cut.value <ℤ to_z w128 (of_z w128 point.den))) some below)

    both_sets : IsSideOf shrunk.net s t both.cut.set × IsSideOf shrunk.net t s both.sink_side
    both_sets = subst (λ (o : Option BothCuts). IfSome o (λ both. IsSideOf shrunk.net s t both.cut.set × IsSideOf shrunk.net t s both.sink_side)) some sets

    both_worth : (pos (leaving_in shrunk.net (is_in both.cut.set)) ≡ both.cut.value) × (pos (leaving_in shrunk.net (outside (is_in both.sink_side))) ≡ both.cut.value)
    both_worth = subst (λ (o : Option BothCuts). IfSome o (λ both. (pos (leaving_in shrunk.net (is_in both.cut.set)) ≡ both.cut.value) × (pos (leaving_in shrunk.net (outside (is_in both.sink_side))) ≡ both.cut.value))) some worth

    size : value ≡ unsigned_abs both.cut.value
    size =
        let worth : pos (leaving_in shrunk.net (is_in both.cut.set)) ≡ both.cut.value = both_worth.0 in
        let most : point.den ≤ℤ pos most_denominator = is.is.low in
        let less : both.cut.value <ℤ point.den = low in
        passed_size ∙ ap unsigned_abs (to_z-of_z w128 both.cut.value (omega (arith, casts)))

    pub near_shows : lent_set ≡ both.cut.set → IsSide nodes (is_in lent_set) side → (length lent_side ≡ length town.junctions) × IsLight town point r1 r2 value (is_marked lent_side)
    near_shows same marks = (
      ap (λ (xs : List Bool). length xs) same_side ∙ side_long town point shrunk is small nodes side lent marks.long,
      subst (λ (xs : List Bool). IsLight town point r1 r2 value (is_marked xs)) (sym same_side) (near_light nodes side value both.cut.value lent size low both.cut.set lent_set same both_sets.0 marks both_worth.0),
    )

    pub far_shows : lent_set ≡ both.sink_side → IsSide nodes (λ node. not (is_in lent_set node)) side → (length lent_side ≡ length town.junctions) × IsLight town point r1 r2 value (is_marked lent_side)
    far_shows same marks = (
      ap (λ (xs : List Bool). length xs) same_side ∙ side_long town point shrunk is small nodes side lent marks.long,
      subst (λ (xs : List Bool). IsLight town point r1 r2 value (is_marked xs)) (sym same_side) (far_light nodes side value both.cut.value lent size low both.sink_side lent_set same both_sets.1 marks both_worth.1),
    )
