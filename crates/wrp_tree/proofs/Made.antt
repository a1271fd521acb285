-- What a record that breaks no rule makes of what is kept.
use Rattle.std.proofs.Common.{◌≡◌, ℕ, ◌+◌, ◌<◌, min, Bool, true, false, cond, ◌&&◌, ◌==◌, pos, ℤ, nat_lt, nat_le, drop, List, [], ◌∷◌, ◌++◌, length, map, Option, None, Some, ap, refl, sym, ◌∙◌, subst, arith}
use Rattle.std.specs.Prelude.{IsSome}
use Rattle.std.specs.Option.{option_map_or, option_to_list}
use Rattle.std.specs.List.{count_by, list_all, last_or}
use Rattle.std.proofs.lemmas.Bool.{and_parts, ltb-true}
use Rattle.std.proofs.lemmas.List.{append-nil}
use Rattle.std.proofs.lemmas.List.Sums.{sum_by_push}
use Rattle.wrp_sums.proofs.Integers.{tests}
use Rattle.wrp_town.specs.declared.town.Town.{Town}
use Rattle.wrp_town.specs.declared.street.Step.{Step}
use Rattle.wrp_town.specs.Arcs.{is_legal}
use Rattle.wrp_town.specs.Walks.{is_closed_walk, serves_all, walk_cost}
use Rattle.wrp_town.proofs.TownLaws.{legal_below, few_streets, few_demands}
use Rattle.wrp_rules.specs.declared.record.Record.{Record}
use Rattle.wrp_rules.specs.declared.record.Record.TheVariants.{Tour, Conn, Odd, Round, Kc, Bound, Empty, Apart, Point, Blind, Split, Labels}
use Rattle.wrp_rules.specs.declared.rule.Rule.{Rule}
use Rattle.wrp_rules.specs.declared.rule.Rule.TheVariants as rules
use Rattle.wrp_rules.specs.Contents.{has_number_rules}
use Rattle.wrp_rules.specs.Rows.{Row, row_of, base_rows}
use Rattle.wrp_rules.specs.Nodes.{Standing, is_below, node_at, bound_at, with_bound, closed, changed, nodes_after, upper_after, after}
use Rattle.wrp_rules.specs.Rules.{is_cut, is_alone, node_is_there, node_is_open, rows_are_there, streets_are_there, junctions_are_there, leads_to_split, parts_range, first_broken, rules_of, broken_rule}
use Rattle.wrp_nodes.specs.Kept.{split_nodes, IsSound as IsSoundNode}
use Rattle.wrp_rows.specs.Pools.{RowPool, sparse_of, committed, HasRowsOf}
use Rattle.wrp_tree.specs.declared.kept.Kept.{Kept}
use Rattle.wrp_tree.specs.declared.index.NodeIndex.{NodeIndex}
use Rattle.wrp_tree.specs.declared.plan.Plan.{Plan}
use Rattle.wrp_tree.specs.declared.plan.Plan.TheVariants as plans
use Rattle.wrp_tree.specs.Indexes.{IsIndexed, HasOpen, HasChildren}
use Rattle.wrp_tree.specs.Keeping.{IsKept}
use Rattle.wrp_tree.specs.Plans.{plan_of, planned_bound, HasRoomFor, IsReadyFor, IsPlanned, IsMade, IsHalvable, IsFor, RowIsMade}
use Rattle.wrp_tree.proofs.Keeping.{kept_sound, below_count, in_all, same_in_all}
use Rattle.wrp_tree.proofs.Wholes.{told_kept}

-- ---- the rules that are kept

pub kept_first : (rule : Rule) (is : Bool) (others : List (Rule × Bool)) → first_broken ((rule, is) ∷ others) ≡ None → (is ≡ true) × (first_broken others ≡ None)
kept_first rule true others e = (refl, e)
kept_first rule false others e = absurd (clash e)
  where
    clash : Some rule ≡ None → ⊥
    clash e = cc

pub record IsPermitted (town : Town) (s : Standing) (item : Record) : Type 0 where
  pub numbers : has_number_rules item ≡ true
  pub alone : is_alone s item ≡ true
  pub kind : first_broken (rules_of town s item) ≡ None

pub permitted : (town : Town) (s : Standing) (item : Record) → broken_rule town s item ≡ None → IsPermitted town s item
permitted town s item none =
    let one = kept_first rules.Number (has_number_rules item) ((rules.Lonely, is_alone s item) ∷ rules_of town s item) none in
    let two = kept_first rules.Lonely (is_alone s item) (rules_of town s item) one.1 in
    record { numbers = one.0; alone = two.0; kind = two.1 }

-- the rules of a record whose numbers are in their ranges and that may stand next are those of its kind
pub of_kind : (town : Town) (s : Standing) (item : Record) → has_number_rules item ≡ true → is_alone s item ≡ true → broken_rule town s item ≡ first_broken (rules_of town s item)
of_kind town s item numbers alone =
    ap (λ (t : Bool). first_broken ((rules.Number, t) ∷ (rules.Lonely, is_alone s item) ∷ rules_of town s item)) numbers
    ∙ ap (λ (t : Bool). first_broken ((rules.Lonely, t) ∷ rules_of town s item)) alone

pub not_alone : (town : Town) (s : Standing) (item : Record) → has_number_rules item ≡ true → is_alone s item ≡ false → broken_rule town s item ≡ Some rules.Lonely
not_alone town s item numbers alone =
    ap (λ (t : Bool). first_broken ((rules.Number, t) ∷ (rules.Lonely, is_alone s item) ∷ rules_of town s item)) numbers
    ∙ ap (λ (t : Bool). first_broken ((rules.Lonely, t) ∷ rules_of town s item)) alone

-- a node that is there and open
pub has_open : (town : Town) (s : Standing) (kept : Kept) (node : ℕ) → IsKept town s kept → node_is_there s node ≡ true → node_is_open town s node ≡ true → HasOpen node kept.index
has_open town s kept node is there told = record {
  sound = kept_sound town s kept is;
  there = below_count town s kept is node there;
  told = told_kept town s.nodes s.upper kept.index is.index node (below_count town s kept is node there) ∙ told;
}

-- the first two rules of a record of a node are kept
pub open_kept : (a b : Rule) (t u v : Bool) (others : List (Rule × Bool)) → first_broken ((a, t && u) ∷ (b, v) ∷ others) ≡ None → (t ≡ true) × (v ≡ true)
open_kept a b t u v others none =
    let one = kept_first a (t && u) ((b, v) ∷ others) none in
    ((and_parts t u one.0).0, (kept_first b v others one.1).0)

-- ---- what is made

rows_same : (s : Standing) (item : Record) (town : Town) (pool : RowPool) → row_of town s.rows item ≡ None → is_cut item ≡ false → HasRowsOf s pool → HasRowsOf (after town s item) pool
rows_same s item town pool none cut has = record {
  rows = has.rows ∙ ap (map (sparse_of pool.town)) (sym same);
  cuts = ap length same ∙ has.cuts ∙ sym (ap (λ (n : ℕ). length (base_rows pool.town) + n) (sum_by_push (λ r. cond (is_cut r) 1 0) s.records item ∙ plus));
}
  where
    same : s.rows ++ option_to_list (row_of town s.rows item) ≡ s.rows
    same = ap (λ (o : Option Row). s.rows ++ option_to_list o) none ∙ append-nil s.rows

    plus : count_by is_cut s.records + cond (is_cut item) 1 0 ≡ count_by is_cut s.records
    plus = by (is_cut item) cut
      where
        by : (t : Bool) → t ≡ false → count_by is_cut s.records + cond t 1 0 ≡ count_by is_cut s.records
        by true e = cc
        by false e = omega arith

pub made_rowless : (town : Town) (s : Standing) (item : Record) (old new : Kept) → IsKept town s old → row_of town s.rows item ≡ None → is_cut item ≡ false → new.rows ≡ old.rows → new ≡ record old { rows = new.rows; index = new.index }
    → IsIndexed town (nodes_after town s item) (upper_after s.upper item) new.index → IsMade town s item old new
made_rowless town s item old new is none cut rows others index = record {
  others = others;
  rows_town = ap (λ (p : RowPool). p.town) rows ∙ is.rows_town;
  rows = subst (HasRowsOf (after town s item)) (sym rows) (rows_same s item town old.rows none cut is.rows);
  index = index;
}

-- a cut changes no node
pub cut_index : (town : Town) (s : Standing) (item : Record) (index : NodeIndex) → is_cut item ≡ true → IsIndexed town s.nodes s.upper index → IsIndexed town (nodes_after town s item) (upper_after s.upper item) index
cut_index town s (Conn r1 r2 set) index cut is = is
cut_index town s (Odd set) index cut is = is
cut_index town s (Round divisor mult) index cut is = is
cut_index town s (Kc k of) index cut is = is
cut_index town s (Tour cost steps) index cut is = cc
cut_index town s (Bound node den mult) index cut is = cc
cut_index town s (Empty node mult) index cut is = cc
cut_index town s (Apart node r1 r2 set) index cut is = cc
cut_index town s (Point node den numbers) index cut is = cc
cut_index town s (Blind node) index cut is = cc
cut_index town s (Split node arc k) index cut is = cc
cut_index town s (Labels labels streets) index cut is = cc

-- a cheaper tour is the cheapest
pub cheapest : (upper : Option ℕ) (cost : ℕ) → is_below (pos cost) upper ≡ true → Some (option_map_or (min cost) upper cost) ≡ Some cost
cheapest None cost below = refl
cheapest (Some least) cost below = let less : cost < least = omega (arith, tests, below) in ap Some (omega (arith, less))

pub last_of_five : (a b c d e : Rule) (t u v w x : Bool) → first_broken ((a, t) ∷ (b, u) ∷ (c, v) ∷ (d, w) ∷ (e, x) ∷ []) ≡ None → x ≡ true
last_of_five a b c d e t u v w x none =
    let one = kept_first a t ((b, u) ∷ (c, v) ∷ (d, w) ∷ (e, x) ∷ []) none in
    let two = kept_first b u ((c, v) ∷ (d, w) ∷ (e, x) ∷ []) one.1 in
    let three = kept_first c v ((d, w) ∷ (e, x) ∷ []) two.1 in
    let four = kept_first d w ((e, x) ∷ []) three.1 in
    (kept_first e x [] four.1).0

-- ---- records of a node

bound_open : (town : Town) (s : Standing) (node den : ℕ) (mult : List (ℕ × ℕ)) → broken_rule town s (Bound node den mult) ≡ None → (node_is_there s node ≡ true) × (node_is_open town s node ≡ true)
bound_open town s node den mult none = open_kept rules.Range rules.Closed (node_is_there s node) (rows_are_there s mult) (node_is_open town s node) (drop 2 (rules_of town s (Bound node den mult))) (permitted town s (Bound node den mult) none).kind

empty_open : (town : Town) (s : Standing) (node : ℕ) (mult : List (ℕ × ℕ)) → broken_rule town s (Empty node mult) ≡ None → (node_is_there s node ≡ true) × (node_is_open town s node ≡ true)
empty_open town s node mult none = open_kept rules.Range rules.Closed (node_is_there s node) (rows_are_there s mult) (node_is_open town s node) (drop 2 (rules_of town s (Empty node mult))) (permitted town s (Empty node mult) none).kind

apart_open : (town : Town) (s : Standing) (node r1 r2 : ℕ) (set : List ℕ) → broken_rule town s (Apart node r1 r2 set) ≡ None → (node_is_there s node ≡ true) × (node_is_open town s node ≡ true)
apart_open town s node r1 r2 set none =
    let kind = (permitted town s (Apart node r1 r2 set) none).kind in
    let one = kept_first rules.Range (node_is_there s node && streets_are_there town (r1 ∷ r2 ∷ []) && junctions_are_there town set) (drop 1 (rules_of town s (Apart node r1 r2 set))) kind in
    let two = kept_first rules.Closed (node_is_open town s node) (drop 2 (rules_of town s (Apart node r1 r2 set))) one.1 in
    let there = and_parts (node_is_there s node && streets_are_there town (r1 ∷ r2 ∷ [])) (junctions_are_there town set) one.0 in
    ((and_parts (node_is_there s node) (streets_are_there town (r1 ∷ r2 ∷ [])) there.0).0, two.0)

split_open : (town : Town) (s : Standing) (node arc k : ℕ) → broken_rule town s (Split node arc k) ≡ None → (node_is_there s node ≡ true) × (node_is_open town s node ≡ true)
split_open town s node arc k none = open_kept rules.Range rules.Closed (node_is_there s node) (is_legal town arc) (node_is_open town s node) (drop 2 (rules_of town s (Split node arc k))) (permitted town s (Split node arc k) none).kind

-- the node of such a record
abbrev pub closes : ℕ → Record → Type 0
closes node (Bound n den mult) = n ≡ node
closes node (Empty n mult) = n ≡ node
closes node (Apart n r1 r2 set) = n ≡ node
closes node (Split n arc k) = n ≡ node
closes node _ = ⊥

-- it is open
pub has_open_node : (town : Town) (s : Standing) (kept : Kept) (item : Record) (node : ℕ) → IsKept town s kept → broken_rule town s item ≡ None → closes node item → HasOpen node kept.index
has_open_node town s kept (Bound n den mult) node is none same = subst (λ (m : ℕ). HasOpen m kept.index) same (has_open town s kept n is (bound_open town s n den mult none).0 (bound_open town s n den mult none).1)
has_open_node town s kept (Empty n mult) node is none same = subst (λ (m : ℕ). HasOpen m kept.index) same (has_open town s kept n is (empty_open town s n mult none).0 (empty_open town s n mult none).1)
has_open_node town s kept (Apart n r1 r2 set) node is none same = subst (λ (m : ℕ). HasOpen m kept.index) same (has_open town s kept n is (apart_open town s n r1 r2 set none).0 (apart_open town s n r1 r2 set none).1)
has_open_node town s kept (Split n arc k) node is none same = subst (λ (m : ℕ). HasOpen m kept.index) same (has_open town s kept n is (split_open town s n arc k none).0 (split_open town s n arc k none).1)
has_open_node town s kept (Tour cost steps) node is none same = absurd same
has_open_node town s kept (Conn r1 r2 set) node is none same = absurd same
has_open_node town s kept (Odd set) node is none same = absurd same
has_open_node town s kept (Round divisor mult) node is none same = absurd same
has_open_node town s kept (Kc k of) node is none same = absurd same
has_open_node town s kept (Point n den numbers) node is none same = absurd same
has_open_node town s kept (Blind n) node is none same = absurd same
has_open_node town s kept (Labels labels streets) node is none same = absurd same

tour_low : (town : Town) (s : Standing) (cost : ℕ) (steps : List Step) → broken_rule town s (Tour cost steps) ≡ None → is_below (pos cost) s.upper ≡ true
tour_low town s cost steps none = last_of_five rules.Range rules.Walk rules.Serve rules.Cost rules.Dear (list_all (λ step. nat_lt step.street (length town.streets)) steps) (is_closed_walk town steps) (serves_all town steps) (walk_cost town steps == cost) (is_below (pos cost) s.upper) (permitted town s (Tour cost steps) none).kind

pub tour_is_low : (town : Town) (s : Standing) (item : Record) (cost : ℕ) (steps : List Step) → item ≡ Tour cost steps → broken_rule town s item ≡ None → is_below (pos cost) s.upper ≡ true
tour_is_low town s item cost steps is none = tour_low town s cost steps (subst (λ (i : Record). broken_rule town s i ≡ None) is none)

-- ---- what each kind makes

module _ (town : Town) (s : Standing) (item : Record) (plan : Plan) (old new : Kept) (ready : IsReadyFor town s item plan old) (others : new ≡ record old { rows = new.rows; index = new.index }) where
  as_kind : (kind : Record) → item ≡ kind → IsMade town s kind old new → IsMade town s item old new
  as_kind kind is made = subst (λ (i : Record). IsMade town s i old new) (sym is) made

  module _ (rows : new.rows ≡ old.rows) where
    pub made_tour : (cost : ℕ) (steps : List Step) → item ≡ Tour cost steps → IsIndexed town s.nodes (Some cost) new.index → IsMade town s item old new
    made_tour cost steps is index =
        let low = tour_low town s cost steps (subst (λ (i : Record). broken_rule town s i ≡ None) is ready.valid) in
        as_kind (Tour cost steps) is (made_rowless town s (Tour cost steps) old new ready.kept_is refl refl rows others (subst (λ (u : Option ℕ). IsIndexed town s.nodes u new.index) (sym (cheapest s.upper cost low)) index))

    pub made_bound : (node den : ℕ) (mult : List (ℕ × ℕ)) → item ≡ Bound node den mult → IsIndexed town (changed (with_bound (planned_bound plan)) node s.nodes) s.upper new.index → IsMade town s item old new
    made_bound node den mult is index =
        let bound : planned_bound plan ≡ bound_at town s node den mult = ap planned_bound (ready.plan_is ∙ ap (plan_of town s) is) in
        as_kind (Bound node den mult) is (made_rowless town s (Bound node den mult) old new ready.kept_is refl refl rows others (subst (λ (z : ℤ). IsIndexed town (changed (with_bound z) node s.nodes) s.upper new.index) bound index))

    pub made_empty : (node : ℕ) (mult : List (ℕ × ℕ)) → item ≡ Empty node mult → IsIndexed town (changed closed node s.nodes) s.upper new.index → IsMade town s item old new
    made_empty node mult is index = as_kind (Empty node mult) is (made_rowless town s (Empty node mult) old new ready.kept_is refl refl rows others index)

    pub made_apart : (node r1 r2 : ℕ) (set : List ℕ) → item ≡ Apart node r1 r2 set → IsIndexed town (changed closed node s.nodes) s.upper new.index → IsMade town s item old new
    made_apart node r1 r2 set is index = as_kind (Apart node r1 r2 set) is (made_rowless town s (Apart node r1 r2 set) old new ready.kept_is refl refl rows others index)

    pub made_split : (node arc k : ℕ) → item ≡ Split node arc k → (HasChildren town s.nodes node arc k old.index → IsIndexed town (split_nodes town node arc k s.nodes) s.upper new.index) → IsMade town s item old new
    made_split node arc k is index =
        let plan_is : plan ≡ plans.Halve node arc k = ready.plan_is ∙ ap (plan_of town s) is in
        as_kind (Split node arc k) is (made_rowless town s (Split node arc k) old new ready.kept_is refl refl rows others (index (subst (λ (p : Plan). HasRoomFor town s p old) plan_is ready.room)))

  pub made_cut : is_cut item ≡ true → new.rows ≡ committed old.rows → new.index ≡ old.index → HasRowsOf (after old.rows.town s item) new.rows → IsMade town s item old new
  made_cut cut rows index has = record {
    others = others;
    rows_town = ap (λ (p : RowPool). p.town) rows ∙ ready.kept_is.rows_town;
    rows = subst (λ (t : Town). HasRowsOf (after t s item) new.rows) ready.kept_is.rows_town has;
    index = subst (IsIndexed town (nodes_after town s item) (upper_after s.upper item)) (sym index) (cut_index town s item old.index cut ready.kept_is.index);
  }

-- ---- splits that are planned

small_split : (town : Town) (s : Standing) (kept : Kept) (node arc k : ℕ) → IsKept town s kept → first_broken (rules_of town s (Split node arc k)) ≡ None
    → IsHalvable (plans.Halve node arc k) kept.index × IsFor town s (plans.Halve node arc k)
small_split town s kept node arc k is none =
    let one = kept_first rules.Range (node_is_there s node && is_legal town arc) (drop 1 (rules_of town s (Split node arc k))) none in
    let both = and_parts (node_is_there s node) (is_legal town arc) one.0 in
    let two = kept_first rules.Closed (node_is_open town s node) (drop 2 (rules_of town s (Split node arc k))) one.1 in
    let three = kept_first rules.Alone (option_map_or (leads_to_split node) (last_or None s.records) false) (drop 3 (rules_of town s (Split node arc k))) two.1 in
    let four = kept_first rules.Part (parts_range (node_at town s node) arc k) [] three.1 in
    let range = and_parts (nat_le ((node_at town s node).lo arc) k) (nat_lt k ((node_at town s node).hi arc)) four.0 in
    let there = below_count town s kept is node both.0 in
    let sound = subst (IsSoundNode town) (same_in_all town s kept is node there) (is.index.whole.sound node (in_all town s kept is node there)) in (
      (there, omega (arith, legal_below town arc both.1, few_streets town), omega (arith, ltb-true k ((node_at town s node).hi arc) range.1, sound.most arc both.1, few_demands town)),
      (both.1, four.0),
    )

pub planned_split : (town : Town) (s : Standing) (kept : Kept) (item : Record) → IsKept town s kept → first_broken (rules_of town s item) ≡ None → IsHalvable (plan_of town s item) kept.index × IsFor town s (plan_of town s item)
planned_split town s kept (Split node arc k) is none = small_split town s kept node arc k is none
planned_split town s kept (Tour cost steps) is none = (tt, tt)
planned_split town s kept (Conn r1 r2 set) is none = (tt, tt)
planned_split town s kept (Odd set) is none = (tt, tt)
planned_split town s kept (Round divisor mult) is none = (tt, tt)
planned_split town s kept (Kc k of) is none = (tt, tt)
planned_split town s kept (Bound node den mult) is none = (tt, tt)
planned_split town s kept (Empty node mult) is none = (tt, tt)
planned_split town s kept (Apart node r1 r2 set) is none = (tt, tt)
planned_split town s kept (Point node den numbers) is none = (tt, tt)
planned_split town s kept (Blind node) is none = (tt, tt)
planned_split town s kept (Labels labels streets) is none = (tt, tt)

-- ---- what is ready

-- another index of the same nodes
pub kept_index : (town : Town) (s : Standing) (kept : Kept) (index : NodeIndex) → IsKept town s kept → IsIndexed town s.nodes s.upper index → IsKept town s (record kept { index = index })
kept_index town s kept index is same = record {
  records = is.records;
  rows_town = is.rows_town;
  rows = is.rows;
  index = same;
  base = is.base;
  blind = is.blind;
  labelled = is.labelled;
}

-- a row that is planned is made
row_made : (town : Town) (s : Standing) (item : Record) (kept : Kept) → (is_cut item ≡ true → IsSome kept.rows.prepared) → RowIsMade (plan_of town s item) kept
row_made town s (Conn r1 r2 set) kept made = made refl
row_made town s (Odd set) kept made = made refl
row_made town s (Round divisor mult) kept made = made refl
row_made town s (Kc k of) kept made = made refl
row_made town s (Tour cost steps) kept made = tt
row_made town s (Bound node den mult) kept made = tt
row_made town s (Empty node mult) kept made = tt
row_made town s (Apart node r1 r2 set) kept made = tt
row_made town s (Point node den numbers) kept made = tt
row_made town s (Blind node) kept made = tt
row_made town s (Split node arc k) kept made = tt
row_made town s (Labels labels streets) kept made = tt

pub row_is_made : (town : Town) (s : Standing) (item : Record) (plan : Plan) (kept : Kept) → IsPlanned town s item plan kept → RowIsMade plan kept
row_is_made town s item plan kept planned = subst (λ (p : Plan). RowIsMade p kept) (sym planned.plan_is) (row_made town s item kept planned.made)
