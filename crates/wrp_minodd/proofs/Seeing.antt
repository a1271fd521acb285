-- What a least cut between two odd nodes shows.
use Rattle.std.proofs.Common.{◌≡◌, ℕ, ◌+◌, ◌<◌, ◌≤◌, Bool, true, false, cond, not, ◌==◌, ℤ, pos, ◌≤ℤ◌, ◌<ℤ◌, List, [], ◌∷◌, ◌++◌, length, Option, None, Some, ap, refl, sym, ◌∙◌, subst, inl, inr, arith}
use Rattle.std.specs.List.{All}
use Rattle.std.specs.Prelude.{unsigned_abs, IfSome}
use Rattle.std.proofs.lemmas.Bool.{cases_lt}
use Rattle.std.proofs.lemmas.List.{get_or_default}
use Rattle.wrp_sums.proofs.Integers.{≤-from_pos, linear, sized}
use Rattle.wrp_town.specs.declared.town.Town.{Town}
use Rattle.wrp_rules.specs.declared.record.Record.{Record}
use Rattle.wrp_rules.specs.Sets.{is_in}
use Rattle.wrp_rows.specs.declared.point.Point.{Point}
use Rattle.wrp_flow.specs.declared.net.Net.{Net}
use Rattle.wrp_flow.specs.Flows.{leaving_in, IsSideOf, LeavesAll}
use Rattle.wrp_webs.specs.Webs.{Web, outside, cut, Keeps, IsWeb, IsOdd, IsOddNode}
use Rattle.wrp_webs.specs.Searching.{reading, IsPending}
use Rattle.wrp_webs.proofs.Found.{same_cut}
use Rattle.wrp_webs.proofs.Pairs.{odd_node_still}
use Rattle.wrp_webs.proofs.OddRows.{town_is_web}
use Rattle.wrp_odd.specs.Points.{denominator_of, numbers_of}
use Rattle.wrp_minodd.specs.declared.pairs.Best.{Best}
use Rattle.wrp_minodd.specs.declared.pairs.Seen.{Seen}
use Rattle.wrp_minodd.specs.Looks.{web_of, inner, IsNetOf, IsSide, IsFar, IsBest, least_of, HasSeen, IsKept, AreBrokenOnce}
use Rattle.wrp_minodd.proofs.Farness.{far_less, far_more}

one_inside : (b : Bool) → (cond b 1 0 == 1) ≡ b
one_inside true = refl
one_inside false = refl

one_outside : (b : Bool) → (cond b 0 1 == 1) ≡ not b
one_outside true = refl
one_outside false = refl

module _ (web : Web) (is : IsWeb web) (map : List ℕ) (pending : IsPending web map) (net : Net) (net_is : IsNetOf web (reading map) net) where
  -- the net bounds the web
  pub web_bound : (s t least : ℕ) (bound : ℤ) → LeavesAll net s t bound → pos least ≤ℤ bound → (set : ℕ → Bool) → Keeps web (reading map) set → set s ≡ true → set t ≡ false → least ≤ cut web set
  web_bound s t least bound all low set keeps holds out =
      let enough : least ≤ leaving_in net set = ≤-from_pos least (leaving_in net set) (omega (arith, linear, low, all set holds out)) in
      omega (arith, net_is.leaves set, same_cut web (λ j. set (reading map j)) set is keeps)

  -- ---- a side as labels

  pub inner_is : (nodes labels : List ℕ) → IsSide map nodes 1 0 labels → (j : ℕ) → j < web.junctions → inner labels j ≡ is_in nodes (reading map j)
  inner_is nodes labels side j below = ap (λ (k : ℕ). k == 1) (side.is j (omega (arith, pending.count))) ∙ one_inside (is_in nodes (reading map j))

  pub inner_is_not : (nodes labels : List ℕ) → IsSide map nodes 0 1 labels → (j : ℕ) → j < web.junctions → inner labels j ≡ not (is_in nodes (reading map j))
  inner_is_not nodes labels side j below = ap (λ (k : ℕ). k == 1) (side.is j (omega (arith, pending.count))) ∙ one_outside (is_in nodes (reading map j))

  module _ (nodes labels : List ℕ) (side : IsSide map nodes 1 0 labels) where
    pub side_keeps : Keeps web (reading map) (inner labels)
    side_keeps = λ j below.
        inner_is nodes labels side (reading map j) (pending.merge.below j below) ∙ ap (is_in nodes) (pending.merge.still j below) ∙ sym (inner_is nodes labels side j below)

    pub side_at : (node : ℕ) → IsOddNode web (reading map) node → inner labels node ≡ is_in nodes node
    side_at node odd = inner_is nodes labels side node odd.below ∙ ap (is_in nodes) (odd_node_still web (reading map) pending.merge node odd)

    pub side_weighs : (value : ℕ) → pos (leaving_in net (is_in nodes)) ≡ pos value → cut web (inner labels) ≡ value
    side_weighs value worth =
        same_cut web (inner labels) (λ j. is_in nodes (reading map j)) is (inner_is nodes labels side) ∙ sym (net_is.leaves (is_in nodes)) ∙ omega (arith, linear, worth)

  pub far_side_weighs : (nodes labels : List ℕ) → IsSide map nodes 0 1 labels → (value : ℕ) → pos (leaving_in net (outside (is_in nodes))) ≡ pos value → cut web (inner labels) ≡ value
  far_side_weighs nodes labels side value worth =
      same_cut web (inner labels) (λ j. not (is_in nodes (reading map j))) is (inner_is_not nodes labels side) ∙ sym (net_is.leaves (outside (is_in nodes))) ∙ omega (arith, linear, worth)

-- ---- one pair more

abbrev best_of : Seen → Option Best
best_of seen = seen.best

-- a set that is light, as what may be kept
pub record IsLight (web : Web) (bound : ℕ) (at : ℕ → ℕ) (s t value found : ℕ) (labels : List ℕ) : Type 0 where
  pub long : length labels ≡ web.junctions
  pub two : All (λ label. label < 2) labels
  pub keeps : Keeps web at (inner labels)
  pub holds : inner labels s ≡ true
  pub leaves_out : inner labels t ≡ false
  pub node : IsOddNode web at t
  pub value_is : cut web (inner labels) ≡ value
  pub light : value < bound
  pub even : IsOdd web (inner labels) → 0 < found

as_best : (web : Web) (bound : ℕ) (at : ℕ → ℕ) (s t value found : ℕ) (labels : List ℕ) (best : Best) → IsLight web bound at s t value found labels → best.value ≡ value → best.inside.items ≡ labels → best.t ≡ t → IsBest web bound at s found best
as_best web bound at s t value found labels best is value_is labels_are t_is = record {
  long = ap (λ (xs : List ℕ). length xs) labels_are ∙ is.long;
  two = subst (All (λ label. label < 2)) (sym labels_are) is.two;
  keeps = subst (λ (xs : List ℕ). Keeps web at (inner xs)) (sym labels_are) is.keeps;
  holds = ap (λ (xs : List ℕ). inner xs s) labels_are ∙ is.holds;
  leaves_out = ap (λ (xs : List ℕ). inner xs best.t) labels_are ∙ ap (inner labels) t_is ∙ is.leaves_out;
  node = subst (IsOddNode web at) (sym t_is) is.node;
  value = ap (λ (xs : List ℕ). cut web (inner xs)) labels_are ∙ is.value_is ∙ sym value_is;
  light = omega (arith, is.light);
  even = λ odd. is.even (subst (λ (xs : List ℕ). IsOdd web (inner xs)) labels_are odd);
}

-- a best set stays one as records are found
still_best : (web : Web) (bound : ℕ) (at : ℕ → ℕ) (s found more : ℕ) (best : Best) → found ≤ more → IsBest web bound at s found best → IsBest web bound at s more best
still_best web bound at s found more best grown is = record {
  long = is.long;
  two = is.two;
  keeps = is.keeps;
  holds = is.holds;
  leaves_out = is.leaves_out;
  node = is.node;
  value = is.value;
  light = is.light;
  even = λ odd. omega (arith, is.even odd);
}

pub all_still : (web : Web) (bound : ℕ) (at : ℕ → ℕ) (s found more : ℕ) (best : Option Best) → found ≤ more → IfSome best (IsBest web bound at s found) → IfSome best (IsBest web bound at s more)
all_still web bound at s found more None grown is = is
all_still web bound at s found more (Some best) grown is = still_best web bound at s found more best grown is

module _ (town : Town) (point : Point) (map : List ℕ) (s t value : ℕ) (nodes labels : List ℕ) (old mid new : Seen)
    (seen : HasSeen town point map s nodes old) (broken : AreBrokenOnce town point mid.records.items) (grown : length old.records.items ≤ length mid.records.items) (same_best : mid.best ≡ old.best)
    (is : IsLight (web_of town point) (denominator_of point) (reading map) s t value (length mid.records.items) labels)
    (bounded : (set : ℕ → Bool) → Keeps (web_of town point) (reading map) set → set s ≡ true → set t ≡ false → value ≤ cut (web_of town point) set) (kept : IsKept (denominator_of point) value labels t mid new) where
  count_same : length new.records.items ≡ length mid.records.items
  count_same = ap (λ (xs : List Record). length xs) kept.records

  by_lighter : value < least_of (denominator_of point) old.best → HasSeen town point map s (nodes ++ t ∷ []) new
  by_lighter lighter =
      let best = kept.lighter (subst (λ (o : Option Best). value < least_of (denominator_of point) o) (sym same_best) lighter) in
      record {
        broken = subst (AreBrokenOnce town point) (sym kept.records) broken;
        far = subst (λ (o : Option Best). IsFar (web_of town point) (reading map) s (nodes ++ t ∷ []) (least_of (denominator_of point) o)) (sym best.1)
            (subst (IsFar (web_of town point) (reading map) s (nodes ++ t ∷ [])) (sym best.2)
            (far_more (web_of town point) (reading map) s t nodes value (far_less (web_of town point) (reading map) s nodes (least_of (denominator_of point) old.best) value (omega arith) seen.far) bounded));
        best = subst (λ (o : Option Best). IfSome o (IsBest (web_of town point) (denominator_of point) (reading map) s (length new.records.items))) (sym best.1)
            (subst (λ (k : ℕ). IsBest (web_of town point) (denominator_of point) (reading map) s k best.0) (sym count_same)
            (as_best (web_of town point) (denominator_of point) (reading map) s t value (length mid.records.items) labels best.0 is best.2 best.3 best.4));
      }

  by_heavier : least_of (denominator_of point) old.best ≤ value → HasSeen town point map s (nodes ++ t ∷ []) new
  by_heavier heavier =
      let same : new.best ≡ old.best = kept.heavier (subst (λ (o : Option Best). least_of (denominator_of point) o ≤ value) (sym same_best) heavier) ∙ same_best in
      record {
        broken = subst (AreBrokenOnce town point) (sym kept.records) broken;
        far = subst (λ (o : Option Best). IsFar (web_of town point) (reading map) s (nodes ++ t ∷ []) (least_of (denominator_of point) o)) (sym same)
            (far_more (web_of town point) (reading map) s t nodes (least_of (denominator_of point) old.best) seen.far (λ set keeps holds out. least_below old.best heavier set (bounded set keeps holds out)));
        best = subst (λ (o : Option Best). IfSome o (IsBest (web_of town point) (denominator_of point) (reading map) s (length new.records.items))) (sym same)
            (subst (λ (k : ℕ). IfSome old.best (IsBest (web_of town point) (denominator_of point) (reading map) s k)) (sym count_same)
            (all_still (web_of town point) (denominator_of point) (reading map) s (length old.records.items) (length mid.records.items) old.best grown seen.best));
      }
    where
      least_below : (o : Option Best) → least_of (denominator_of point) o ≤ value → (set : ℕ → Bool) → value ≤ cut (web_of town point) set → least_of (denominator_of point) o ≤ cut (web_of town point) set
      least_below None less set most = absurd (omega (arith, is.light))
      least_below (Some b) less set most = omega arith

  pub seen_more : HasSeen town point map s (nodes ++ t ∷ []) new
  seen_more = elim (cases_lt value (least_of (denominator_of point) old.best)) [ inl lighter ↦ by_lighter lighter | inr heavier ↦ by_heavier heavier ]

-- nothing light between the two
pub seen_none : (town : Town) (point : Point) (map : List ℕ) (s t : ℕ) (nodes : List ℕ) (seen : Seen) → HasSeen town point map s nodes seen
    → ((set : ℕ → Bool) → Keeps (web_of town point) (reading map) set → set s ≡ true → set t ≡ false → denominator_of point ≤ cut (web_of town point) set) → HasSeen town point map s (nodes ++ t ∷ []) seen
seen_none town point map s t nodes seen has bounded = record {
  broken = has.broken;
  far = far_more (web_of town point) (reading map) s t nodes (least_of (denominator_of point) seen.best) has.far (λ set keeps holds out. below seen.best has.best set (bounded set keeps holds out));
  best = has.best;
}
  where
    below : (o : Option Best) → IfSome o (IsBest (web_of town point) (denominator_of point) (reading map) s (length seen.records.items)) → (set : ℕ → Bool) → denominator_of point ≤ cut (web_of town point) set → least_of (denominator_of point) o ≤ cut (web_of town point) set
    below None best set most = most
    below (Some b) best set most = omega (arith, best.light)

-- ---- what the calls ask

pub map_small : (web : Web) (map : List ℕ) → IsPending web map → All (λ node. node < length map) map
map_small web map pending = λ k d below. omega (arith, pending.count, get_or_default map k d 0 below, pending.merge.below k (omega (arith, pending.count)))

pub labels_small : (map nodes labels : List ℕ) (a b n : ℕ) → IsSide map nodes a b labels → a < n → b < n → All (λ label. label < n) labels
labels_small map nodes labels a b n side first second = λ k d below. omega (arith, get_or_default labels k d 0 below, side.is k (omega (arith, side.long)), one_of (is_in nodes (reading map k)))
  where
    one_of : (t : Bool) → cond t a b < n
    one_of true = first
    one_of false = second

pub den_is : (z : ℤ) → pos 1 ≤ℤ z → pos (unsigned_abs z) ≡ z
den_is z positive = omega (arith, sized)

module _ (town : Town) (point : Point) (map : List ℕ) (net : Net) (s t : ℕ) (positive : pos 1 ≤ℤ point.den) (pending : IsPending (web_of town point) map) (net_is : IsNetOf (web_of town point) (reading map) net)
    (first : IsOddNode (web_of town point) (reading map) s) (second : IsOddNode (web_of town point) (reading map) t) where
  town_web_is : IsWeb (web_of town point)
  town_web_is = town_is_web town (denominator_of point) (numbers_of point)

  -- the cut that was found, as a light set
  pub near_is_light : (set near : List ℕ) (z : ℤ) (value found : ℕ) → IsSideOf net s t set → IsSide map set 1 0 near → pos (leaving_in net (is_in set)) ≡ z → pos value ≡ z → z <ℤ point.den
      → (IsOdd (web_of town point) (inner near) → cut (web_of town point) (inner near) < denominator_of point → 0 < found) → IsLight (web_of town point) (denominator_of point) (reading map) s t value found near
  near_is_light set near z value found side labels worth value_is below noted =
      let weighs : cut (web_of town point) (inner near) ≡ value = side_weighs (web_of town point) town_web_is map pending net net_is set near labels value (worth ∙ sym value_is) in
      let light : value < denominator_of point = less value z (denominator_of point) point.den value_is (den_is point.den positive) below in
      record {
        long = labels.long ∙ pending.count;
        two = labels_small map set near 1 0 2 labels (omega arith) (omega arith);
        keeps = side_keeps (web_of town point) town_web_is map pending net net_is set near labels;
        holds = side_at (web_of town point) town_web_is map pending net net_is set near labels s first ∙ side.holds;
        leaves_out = side_at (web_of town point) town_web_is map pending net net_is set near labels t second ∙ side.leaves_out;
        node = second;
        value_is = weighs;
        light = light;
        even = λ odd. noted odd (omega arith);
      }
    where
      less : (m : ℕ) (z : ℤ) (n : ℕ) (w : ℤ) → pos m ≡ z → pos n ≡ w → z <ℤ w → m < n
      less m z n w a b h = let above : m + 1 ≤ n = ≤-from_pos (m + 1) n (omega (arith, linear)) in omega arith

  pub value_bounds : (z : ℤ) (value : ℕ) → LeavesAll net s t z → pos value ≡ z → (set : ℕ → Bool) → Keeps (web_of town point) (reading map) set → set s ≡ true → set t ≡ false → value ≤ cut (web_of town point) set
  value_bounds z value all value_is = web_bound (web_of town point) town_web_is map pending net net_is s t value z all (omega (arith, linear, value_is))

  pub den_bounds : LeavesAll net s t point.den → (set : ℕ → Bool) → Keeps (web_of town point) (reading map) set → set s ≡ true → set t ≡ false → denominator_of point ≤ cut (web_of town point) set
  den_bounds all = value_bounds point.den (denominator_of point) all (den_is point.den positive)
