-- How many nodes a valid list has: the boxes of the unsplit nodes have together as many points as that of the root.
use Rattle.std.proofs.Common.{◌≡◌, ℕ, zero, suc, ◌+◌, ◌-◌, ◌*◌, ◌^◌, ◌<◌, ◌≤◌, Bool, true, false, cond, ◌||◌, ◌==◌, List, [], ◌∷◌, length, count_by, is_none, ap, refl, sym, ◌∙◌, subst, inl, inr, ◌⊎◌, arith, eq-eqb, mul-le-mul}
use Rattle.std.specs.List.{sum_by, Contains}
use Rattle.std.proofs.Math.Nat.{pow-suc, pow-zero}
use Rattle.std.proofs.lemmas.Bool.{ne_eqb, cases_eq}
use Rattle.wrp_sums.specs.Sums.{numbers_below}
use Rattle.wrp_sums.proofs.SumsOver.{inside_head, inside_tail}
use Rattle.wrp_sums.proofs.FirstNumbers.{passes_of_inside}
use Rattle.wrp_town.specs.declared.town.Town.{Town}
use Rattle.wrp_town.specs.Arcs.{is_legal, arcs, legal_arcs, demands}
use Rattle.wrp_rules.specs.declared.record.Record.{Record}
use Rattle.wrp_rules.specs.declared.record.Record.TheVariants.{Split}
use Rattle.wrp_rules.specs.Nodes.{Node, root, Standing, start, node_at, at_most, at_least, after, standing}
use Rattle.wrp_rules.specs.Rules.{broken_rule}
use Rattle.wrp_rules.specs.Lists.{is_valid}
use Rattle.wrp_rules.proofs.LegalArcs.{legal_once}
use Rattle.wrp_laws.specs.Boxes.{is_split, IsPartition}
use Rattle.wrp_laws.proofs.Thinning.{count_cons}
use Rattle.wrp_laws.proofs.Chains.{sum_more}
use Rattle.wrp_laws.proofs.CutRows.{goes_on_keeps}
use Rattle.wrp_laws.proofs.Boxes.{KeepsBoxes, IsSplitOf, SplitsBy, change_of, partition_kept, partition_split, starts_as_partition, nodes_are, split_is, unsplit, new_unsplit}

-- ---- sums over the first numbers

same_below : (f g : ℕ → ℕ) (n : ℕ) → ((i : ℕ) → i < n → f i ≡ g i) → sum_by f (numbers_below n) ≡ sum_by g (numbers_below n)
same_below f g zero same = refl
same_below f g (suc n) same =
    omega (arith, sum_more f n, sum_more g n, same n (omega arith), same_below f g n (λ i below. same i (omega arith)))

least_below : (f g : ℕ → ℕ) (n : ℕ) → ((i : ℕ) → i < n → f i ≤ g i) → sum_by f (numbers_below n) ≤ sum_by g (numbers_below n)
least_below f g zero least = omega arith
least_below f g (suc n) least =
    omega (arith, sum_more f n, sum_more g n, least n (omega arith), least_below f g n (λ i below. least i (omega arith)))

-- two that differ at k alone
but_one_below : (f g : ℕ → ℕ) (k n : ℕ) → k < n → ((i : ℕ) → i < n → (i ≡ k → ⊥) → f i ≡ g i) → sum_by f (numbers_below n) + g k ≡ sum_by g (numbers_below n) + f k
but_one_below f g k zero below same = absurd (omega arith)
but_one_below f g k (suc n) below same = by (cases_eq n k) (λ under. but_one_below f g k n under (λ i less. same i (omega arith)))
  where
    by : (n ≡ k) ⊎ (n ≡ k → ⊥) → (k < n → sum_by f (numbers_below n) + g k ≡ sum_by g (numbers_below n) + f k) → sum_by f (numbers_below (suc n)) + g k ≡ sum_by g (numbers_below (suc n)) + f k
    by (inl here) rest =
        omega (arith, sum_more f n, sum_more g n, same_below f g n (λ i less. same i (omega arith) (λ e. absurd (omega arith))), ap f here, ap g here)
    by (inr there) rest = omega (arith, sum_more f n, sum_more g n, same n (omega arith) there, rest (omega arith))

-- ---- points of a box

-- how many lists of numbers lie between lo and hi at these arcs
abbrev points : (ℕ → ℕ) → (ℕ → ℕ) → List ℕ → ℕ
points lo hi [] = 1
points lo hi (arc ∷ others) = (hi arc + 1 - lo arc) * points lo hi others

points_some : (town : Town) (lo hi : ℕ → ℕ) (xs : List ℕ) → ((arc : ℕ) → Contains xs arc → lo arc ≤ hi arc) → 1 ≤ points lo hi xs
points_some town lo hi [] filled = omega arith
points_some town lo hi (arc ∷ others) filled =
    let here : 1 ≤ hi arc + 1 - lo arc = (let own = filled arc (inside_head arc others) in omega arith) in
    let rest : 1 ≤ points lo hi others = points_some town lo hi others (λ a inside. filled a (inside_tail arc others a inside)) in
    let product : 1 * 1 ≤ (hi arc + 1 - lo arc) * points lo hi others = mul-le-mul here rest in product

-- an arc that isn't there
points_without : (lo hi lo2 hi2 : ℕ → ℕ) (arc : ℕ) (xs : List ℕ) → ((a : ℕ) → (a ≡ arc → ⊥) → (lo a ≡ lo2 a) × (hi a ≡ hi2 a)) → count_by (λ a. a == arc) xs ≡ 0 → points lo hi xs ≡ points lo2 hi2 xs
points_without lo hi lo2 hi2 arc [] same none = refl
points_without lo hi lo2 hi2 arc (a ∷ others) same none =
    let count = count_cons (λ b. b == arc) a others in
    let differs : a ≡ arc → ⊥ = λ e. absurd (omega (arith, ap (λ (t : Bool). cond {A = ℕ} t 1 0) (eq-eqb a arc e))) in
    let here : hi a + 1 - lo a ≡ hi2 a + 1 - lo2 a = omega (arith, (same a differs).0, (same a differs).1) in
    ap (λ (n : ℕ). n * points lo hi others) here
    ∙ ap (λ (n : ℕ). (hi2 a + 1 - lo2 a) * n) (points_without lo hi lo2 hi2 arc others same (omega arith))

-- ---- the two halves

if_same : (arc k : ℕ) (f : ℕ → ℕ) (a : ℕ) → (a ≡ arc → ⊥) → cond (a == arc) k (f a) ≡ f a
if_same arc k f a differs = ap (λ (t : Bool). cond t k (f a)) (ne_eqb a arc differs)

if_here : (arc k : ℕ) (f : ℕ → ℕ) (a : ℕ) → a ≡ arc → cond (a == arc) k (f a) ≡ k
if_here arc k f a same = ap (λ (t : Bool). cond t k (f a)) (eq-eqb a arc same)

module _ (lo hi : ℕ → ℕ) (arc k : ℕ) (low : lo arc ≤ k) (high : k < hi arc) where
  abbrev first_hi : ℕ → ℕ
  first_hi a = cond (a == arc) k (hi a)

  abbrev second_lo : ℕ → ℕ
  second_lo a = cond (a == arc) (k + 1) (lo a)

  halves_here : (a p q r : ℕ) → a ≡ arc → p ≡ r → q ≡ r → (first_hi a + 1 - lo a) * p + (hi a + 1 - second_lo a) * q ≡ (hi a + 1 - lo a) * r
  halves_here a p q r is one two =
      let first : first_hi a + 1 - lo a ≡ k + 1 - lo a = ap (λ (n : ℕ). n + 1 - lo a) (if_here arc k hi a is) in
      let second : hi a + 1 - second_lo a ≡ hi a + 1 - (k + 1) = ap (λ (n : ℕ). hi a + 1 - n) (if_here arc (k + 1) lo a is) in
      let whole : (k + 1 - lo a) + (hi a + 1 - (k + 1)) ≡ hi a + 1 - lo a = omega (arith, ap lo is, ap hi is) in
      omega (
        arith,
        ap (λ (n : ℕ). n * p) first,
        ap (λ (n : ℕ). n * q) second,
        ap (λ (n : ℕ). (k + 1 - lo a) * n) one,
        ap (λ (n : ℕ). (hi a + 1 - (k + 1)) * n) two,
        ap (λ (n : ℕ). n * r) whole,
      )

  points_split : (xs : List ℕ) → count_by (λ a. a == arc) xs ≡ 1 → points lo first_hi xs + points second_lo hi xs ≡ points lo hi xs
  points_split [] once = absurd (omega arith)
  points_split (a ∷ others) once = by (cases_eq a arc) (points_split others)
    where
      by : (a ≡ arc) ⊎ (a ≡ arc → ⊥) → (count_by (λ b. b == arc) others ≡ 1 → points lo first_hi others + points second_lo hi others ≡ points lo hi others) → points lo first_hi (a ∷ others) + points second_lo hi (a ∷ others) ≡ points lo hi (a ∷ others)
      by (inl is) rest =
          let count = count_cons (λ b. b == arc) a others in
          let none : count_by (λ b. b == arc) others ≡ 0 = omega (arith, ap (λ (t : Bool). cond {A = ℕ} t 1 0) (eq-eqb a arc is)) in
          halves_here a (points lo first_hi others) (points second_lo hi others) (points lo hi others) is
          (points_without lo first_hi lo hi arc others (λ b differs. (refl, if_same arc k hi b differs)) none)
          (points_without second_lo hi lo hi arc others (λ b differs. (if_same arc (k + 1) lo b differs, refl)) none)
      by (inr differs) rest =
          let count = count_cons (λ b. b == arc) a others in
          let left = rest (omega (arith, ap (λ (t : Bool). cond {A = ℕ} t 1 0) (ne_eqb a arc differs))) in
          omega (
            arith,
            ap (λ (n : ℕ). (n + 1 - lo a) * points lo first_hi others) (if_same arc k hi a differs),
            ap (λ (n : ℕ). (hi a + 1 - n) * points second_lo hi others) (if_same arc (k + 1) lo a differs),
            ap (λ (n : ℕ). (hi a + 1 - lo a) * n) left,
          )

-- ---- all unsplit nodes

-- the sum of a weight of boxes over the unsplit nodes
abbrev tally : Town → ((ℕ → ℕ) → (ℕ → ℕ) → ℕ) → Standing → ℕ
tally town w s = sum_by (λ i. cond (is_split s.records i) 0 (w (node_at town s i).lo (node_at town s i).hi)) (numbers_below (length s.nodes))

tally_kept : (town : Town) (w : (ℕ → ℕ) → (ℕ → ℕ) → ℕ) (old new : Standing) → KeepsBoxes town old new → tally town w new ≡ tally town w old
tally_kept town w old new keeps =
    ap (λ (n : ℕ). sum_by (λ i. cond (is_split new.records i) 0 (w (node_at town new i).lo (node_at town new i).hi)) (numbers_below n)) keeps.count
    ∙ same_below (λ i. cond (is_split new.records i) 0 (w (node_at town new i).lo (node_at town new i).hi)) (λ i. cond (is_split old.records i) 0 (w (node_at town old i).lo (node_at town old i).hi)) (length old.nodes)
    (λ i below. ap (λ (t : Bool). cond t 0 (w (node_at town new i).lo (node_at town new i).hi)) (keeps.splits i)
    ∙ ap (λ (lo : ℕ → ℕ). cond (is_split old.records i) 0 (w lo (node_at town new i).hi)) (keeps.lo i)
    ∙ ap (λ (hi : ℕ → ℕ). cond (is_split old.records i) 0 (w (node_at town old i).lo hi)) (keeps.hi i))

module _ (town : Town) (w : (ℕ → ℕ) → (ℕ → ℕ) → ℕ) (s : Standing) (node arc k : ℕ) (by : SplitsBy town s node arc k) (is : IsPartition town s) where
  abbrev now : Standing
  now = after town s (Split node arc k)

  abbrev box : Node
  box = node_at town s node

  abbrev old_term : ℕ → ℕ
  old_term i = cond (is_split s.records i) 0 (w (node_at town s i).lo (node_at town s i).hi)

  abbrev new_term : ℕ → ℕ
  new_term i = cond (is_split now.records i) 0 (w (node_at town now i).lo (node_at town now i).hi)

  other_terms : (i : ℕ) → i < length s.nodes → (i ≡ node → ⊥) → new_term i ≡ old_term i
  other_terms i below differs =
      let are = nodes_are town s node arc k by is in
      ap (λ (t : Bool). cond t 0 (w (node_at town now i).lo (node_at town now i).hi)) (split_is town s node arc k by is i ∙ ap (λ (t : Bool). is_split s.records i || t) (ne_eqb node i (λ e. differs (sym e))) ∙ or_false (is_split s.records i))
      ∙ ap (λ (n : Node). cond (is_split s.records i) 0 (w n.lo n.hi)) (are.others i below differs)
    where
      or_false : (b : Bool) → (b || false) ≡ b
      or_false true = refl
      or_false false = refl

  here_old : old_term node ≡ w box.lo box.hi
  here_old = ap (λ (t : Bool). cond t 0 (w box.lo box.hi)) (unsplit town s node arc k by is)

  here_new : new_term node ≡ 0
  here_new =
      ap (λ (t : Bool). cond t 0 (w (node_at town now node).lo (node_at town now node).hi)) (split_is town s node arc k by is node ∙ ap (λ (t : Bool). is_split s.records node || t) (eq-eqb node node refl) ∙ or_true (is_split s.records node))
    where
      or_true : (b : Bool) → (b || true) ≡ true
      or_true true = refl
      or_true false = refl

  first_term : new_term (length s.nodes) ≡ w (at_most arc k box).lo (at_most arc k box).hi
  first_term =
      ap (λ (t : Bool). cond t 0 (w (node_at town now (length s.nodes)).lo (node_at town now (length s.nodes)).hi)) (new_unsplit town s node arc k by is (length s.nodes) (omega arith))
      ∙ ap (λ (n : Node). w n.lo n.hi) ((nodes_are town s node arc k by is).first_is (length s.nodes) refl)

  second_term : new_term (suc (length s.nodes)) ≡ w (at_least arc (k + 1) box).lo (at_least arc (k + 1) box).hi
  second_term =
      ap (λ (t : Bool). cond t 0 (w (node_at town now (suc (length s.nodes))).lo (node_at town now (suc (length s.nodes))).hi)) (new_unsplit town s node arc k by is (suc (length s.nodes)) (omega arith))
      ∙ ap (λ (n : Node). w n.lo n.hi) ((nodes_are town s node arc k by is).second_is (suc (length s.nodes)) (omega arith))

  -- a split takes the node's weight away and adds that of its halves
  tally_split : tally town w now + w box.lo box.hi ≡ tally town w s + (w (at_most arc k box).lo (at_most arc k box).hi + w (at_least arc (k + 1) box).lo (at_least arc (k + 1) box).hi)
  tally_split =
      let long : length now.nodes ≡ suc (suc (length s.nodes)) = omega (arith, (nodes_are town s node arc k by is).count) in
      omega (
        arith,
        ap (λ (n : ℕ). sum_by new_term (numbers_below n)) long,
        sum_more new_term (suc (length s.nodes)),
        sum_more new_term (length s.nodes),
        but_one_below new_term old_term node (length s.nodes) by.there other_terms,
        here_old,
        here_new,
        first_term,
        second_term,
      )

-- the points of the boxes
abbrev box_points : Town → (ℕ → ℕ) → (ℕ → ℕ) → ℕ
box_points town lo hi = points lo hi (legal_arcs town)

-- what a valid list keeps: as many points as the root's box has, and one node more than twice less than unsplit ones
pub record IsTallied (town : Town) (s : Standing) : Type 0 where
  pub partition : IsPartition town s
  pub points : tally town (box_points town) s ≡ box_points town (root town).lo (root town).hi
  pub nodes : length s.nodes + 1 ≡ 2 * tally town (λ lo hi. 1) s

tallied_after : (town : Town) (s : Standing) (item : Record) → is_none (broken_rule town s item) ≡ true → IsTallied town s → IsTallied town (after town s item)
tallied_after town s item sound t = of_change (change_of town s item sound)
  where
    at_split : (node arc k : ℕ) → SplitsBy town s node arc k → IsTallied town (after town s (Split node arc k))
    at_split node arc k by =
        let box = node_at town s node in
        let halves : box_points town (at_most arc k box).lo (at_most arc k box).hi + box_points town (at_least arc (k + 1) box).lo (at_least arc (k + 1) box).hi ≡ box_points town box.lo box.hi = points_split box.lo box.hi arc k by.low by.high (legal_arcs town) (legal_once town arc by.legal) in
        record {
          partition = partition_split town s node arc k by t.partition;
          points = omega (arith, tally_split town (box_points town) s node arc k by t.partition, t.points);
          nodes = omega (arith, tally_split town (λ lo hi. 1) s node arc k by t.partition, t.nodes, (nodes_are town s node arc k by t.partition).count);
        }

    of_change : KeepsBoxes town s (after town s item) ⊎ IsSplitOf town s item → IsTallied town (after town s item)
    of_change (inl keeps) = record {
      partition = partition_kept town s (after town s item) keeps t.partition;
      points = tally_kept town (box_points town) s (after town s item) keeps ∙ t.points;
      nodes = omega (arith, tally_kept town (λ lo hi. 1) s (after town s item) keeps, t.nodes, keeps.count);
    }
    of_change (inr split) = subst (λ i. IsTallied town (after town s i)) (sym split.is) (at_split split.node split.arc split.k split.by)

root_points : (m : ℕ) (xs : List ℕ) → points (λ arc. 0) (λ arc. m) xs ≡ (m + 1) ^ length xs
root_points m [] = sym (pow-zero (m + 1))
root_points m (arc ∷ others) =
    let bare : m + 1 - 0 ≡ m + 1 = omega arith in
    let power : (m + 1) * (m + 1) ^ length others ≡ (m + 1) ^ suc (length others) = omega (arith, pow-suc (m + 1) (length others)) in
    ap (λ (n : ℕ). n * points (λ a. 0) (λ a. m) others) bare ∙ ap (λ (n : ℕ). (m + 1) * n) (root_points m others) ∙ power

tally_start : (town : Town) → IsTallied town (start town)
tally_start town = record {
  partition = starts_as_partition town;
  points = omega arith;
  nodes = refl;
}

pub tallied : (town : Town) (records : List Record) → is_valid town records ≡ true → IsTallied town (standing town records)
tallied town records valid =
    goes_on_keeps town (IsTallied town) (tallied_after town) (start town) records valid (tally_start town)

-- at most 2 (m + 1)^a - 1 nodes, for m demands and a legal arcs
pub few_nodes : (town : Town) (records : List Record) → is_valid town records ≡ true → length (standing town records).nodes + 1 ≤ 2 * (length (demands town) + 1) ^ length (legal_arcs town)
few_nodes town records valid =
    let s = standing town records in
    let t = tallied town records valid in
    let least : tally town (λ lo hi. 1) s ≤ tally town (box_points town) s =
    least_below (λ i. cond (is_split s.records i) 0 1) (λ i. cond (is_split s.records i) 0 (box_points town (node_at town s i).lo (node_at town s i).hi)) (length s.nodes) (λ i below. under (is_split s.records i) (box_points town (node_at town s i).lo (node_at town s i).hi)
    (points_some town (node_at town s i).lo (node_at town s i).hi (legal_arcs town) (λ arc inside. t.partition.filled i below arc (passes_of_inside (is_legal town) (arcs town) arc inside)))) in
    omega (arith, t.nodes, t.points, least, root_points (length (demands town)) (legal_arcs town))
  where
    under : (b : Bool) (n : ℕ) → 1 ≤ n → cond b 0 1 ≤ cond b 0 n
    under true n h = omega arith
    under false n h = h
