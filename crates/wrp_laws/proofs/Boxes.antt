-- The boxes of the unsplit nodes of a valid list are disjoint and cover the box of the root.
use Rattle.std.proofs.Common.{◌≡◌, ℕ, zero, suc, ◌+◌, ◌<◌, ◌≤◌, Bool, true, false, cond, ◌||◌, not, ◌==◌, nat_le, nat_lt, List, [], ◌∷◌, ◌++◌, length, get_or, is_none, ap, refl, sym, ◌∙◌, subst, inl, inr, ◌⊎◌, arith, eq-eqb, length-append}
use Rattle.std.proofs.lemmas.Bool.{and_parts, or_cases, or_parts, or_from, eqb-true, eqb-false, ne_eqb, leb-true, ltb-true, cases_eq, cases_lt, false≢true, true≢false, not-true, false_from_ne_true}
use Rattle.std.proofs.lemmas.List.{get_or_append_left}
use Rattle.std.proofs.lemmas.List.Folds.{list_any-append}
use Rattle.wrp_town.specs.declared.town.Town.{Town}
use Rattle.wrp_town.specs.Arcs.{is_legal}
use Rattle.wrp_rules.specs.declared.record.Record.{Record}
use Rattle.wrp_rules.specs.declared.record.Record.TheVariants.{Tour, Conn, Odd, Round, Kc, Bound, Empty, Apart, Point, Blind, Split, Labels}
use Rattle.wrp_rules.specs.Nodes.{Node, root, Standing, start, node_at, with_bound, closed, at_most, at_least, changed, bound_value, is_below, after, standing}
use Rattle.wrp_rules.specs.Rules.{broken_rule, node_is_there}
use Rattle.wrp_rules.specs.Lists.{is_valid}
use Rattle.wrp_laws.proofs.Rules.{rules_kept, all_rules}
use Rattle.wrp_laws.specs.Boxes.{IsInside, splits, is_split, IsPartition}
use Rattle.wrp_laws.proofs.CutRows.{goes_on_keeps}

-- ---- lists of nodes

pub length-changed : (change : Node → Node) (i : ℕ) (nodes : List Node) → length (changed change i nodes) ≡ length nodes
length-changed change i [] = refl
length-changed change zero (node ∷ nodes) = refl
length-changed change (suc i) (node ∷ nodes) = ap suc (length-changed change i nodes)

pub changed_at : (change : Node → Node) (i : ℕ) (nodes : List Node) (d : Node) → i < length nodes → get_or (changed change i nodes) i d ≡ change (get_or nodes i d)
changed_at change i [] d below = absurd (omega arith)
changed_at change zero (node ∷ nodes) d below = refl
changed_at change (suc i) (node ∷ nodes) d below = changed_at change i nodes d (omega arith)

pub changed_other : (change : Node → Node) (i j : ℕ) (nodes : List Node) (d : Node) → (j ≡ i → ⊥) → get_or (changed change i nodes) j d ≡ get_or nodes j d
changed_other change i j [] d differs = refl
changed_other change zero zero (node ∷ nodes) d differs = absurd (differs refl)
changed_other change zero (suc j) (node ∷ nodes) d differs = refl
changed_other change (suc i) zero (node ∷ nodes) d differs = refl
changed_other change (suc i) (suc j) (node ∷ nodes) d differs =
    changed_other change i j nodes d (λ same. differs (ap suc same))

-- what a change keeps of each node, it keeps of all
pub changed_keeps : {X : Type 0} (f : Node → X) (change : Node → Node) → ((n : Node) → f (change n) ≡ f n) → (i j : ℕ) (nodes : List Node) (d : Node) → f (get_or (changed change i nodes) j d) ≡ f (get_or nodes j d)
changed_keeps f change keeps i j [] d = refl
changed_keeps f change keeps zero zero (node ∷ nodes) d = keeps node
changed_keeps f change keeps zero (suc j) (node ∷ nodes) d = refl
changed_keeps f change keeps (suc i) zero (node ∷ nodes) d = refl
changed_keeps f change keeps (suc i) (suc j) (node ∷ nodes) d = changed_keeps f change keeps i j nodes d

still_closed : (change : Node → Node) → ((n : Node) → n.is_closed ≡ true → (change n).is_closed ≡ true) → (i j : ℕ) (nodes : List Node) (d : Node) → (get_or nodes j d).is_closed ≡ true → (get_or (changed change i nodes) j d).is_closed ≡ true
still_closed change keeps i j [] d h = h
still_closed change keeps zero zero (node ∷ nodes) d h = keeps node h
still_closed change keeps zero (suc j) (node ∷ nodes) d h = h
still_closed change keeps (suc i) zero (node ∷ nodes) d h = h
still_closed change keeps (suc i) (suc j) (node ∷ nodes) d h = still_closed change keeps i j nodes d h

at_first_new : {X : Type 0} (xs : List X) (a b d : X) (j : ℕ) → j ≡ length xs → get_or (xs ++ a ∷ b ∷ []) j d ≡ a
at_first_new [] a b d zero e = refl
at_first_new [] a b d (suc j) e = absurd (omega arith)
at_first_new (x ∷ xs) a b d zero e = absurd (omega arith)
at_first_new (x ∷ xs) a b d (suc j) e = at_first_new xs a b d j (omega arith)

at_second_new : {X : Type 0} (xs : List X) (a b d : X) (j : ℕ) → j ≡ length xs + 1 → get_or (xs ++ a ∷ b ∷ []) j d ≡ b
at_second_new [] a b d zero e = absurd (omega arith)
at_second_new [] a b d (suc zero) e = refl
at_second_new [] a b d (suc (suc j)) e = absurd (omega arith)
at_second_new (x ∷ xs) a b d zero e = absurd (omega arith)
at_second_new (x ∷ xs) a b d (suc j) e = at_second_new xs a b d j (omega arith)

-- a node closed, and two more
pub record AreSplit (d : Node) (old new : List Node) (node : ℕ) (first second : Node) : Type 0 where
  pub count : length new ≡ length old + 2
  pub first_is : (i : ℕ) → i ≡ length old → get_or new i d ≡ first
  pub second_is : (i : ℕ) → i ≡ length old + 1 → get_or new i d ≡ second
  pub here : get_or new node d ≡ closed (get_or old node d)
  pub others : (i : ℕ) → i < length old → (i ≡ node → ⊥) → get_or new i d ≡ get_or old i d
  pub lo : (i : ℕ) → i < length old → (get_or new i d).lo ≡ (get_or old i d).lo
  pub hi : (i : ℕ) → i < length old → (get_or new i d).hi ≡ (get_or old i d).hi
  pub bound : (i : ℕ) → i < length old → (get_or new i d).bound ≡ (get_or old i d).bound

pub are_split : (d : Node) (old : List Node) (node : ℕ) (first second : Node) → node < length old → AreSplit d old (changed closed node old ++ first ∷ second ∷ []) node first second
are_split d old node first second there =
    let long = length-changed closed node old in
    let front = λ (i : ℕ) (below : i < length old). get_or_append_left (changed closed node old) (first ∷ second ∷ []) d i (omega arith) in
    record {
      count = omega (arith, length-append (changed closed node old) (first ∷ second ∷ []));
      first_is = λ i is. at_first_new (changed closed node old) first second d i (omega arith);
      second_is = λ i is. at_second_new (changed closed node old) first second d i (omega arith);
      here = front node there ∙ changed_at closed node old d there;
      others = λ i below differs. front i below ∙ changed_other closed node i old d differs;
      lo = λ i below. ap (λ (n : Node). n.lo) (front i below) ∙ changed_keeps (λ n. n.lo) closed (λ n. refl) node i old d;
      hi = λ i below. ap (λ (n : Node). n.hi) (front i below) ∙ changed_keeps (λ n. n.hi) closed (λ n. refl) node i old d;
      bound = λ i below. ap (λ (n : Node). n.bound) (front i below) ∙ changed_keeps (λ n. n.bound) closed (λ n. refl) node i old d;
    }

-- ---- boxes

pub same_box : (town : Town) (a b : Node) (x : ℕ → ℕ) → a.lo ≡ b.lo → a.hi ≡ b.hi → IsInside town a x → IsInside town b x
same_box town a b x lo hi inside = record {
  at_least = λ arc legal. subst (λ (f : ℕ → ℕ). f arc ≤ x arc) lo (inside.at_least arc legal);
  at_most = λ arc legal. subst (λ (f : ℕ → ℕ). x arc ≤ f arc) hi (inside.at_most arc legal);
}

-- the two halves of a box
below_choice : (t : Bool) (x k h : ℕ) → (t ≡ true → x ≤ k) → x ≤ h → x ≤ cond t k h
below_choice true x k h first other = first refl
below_choice false x k h first other = other

above_choice : (t : Bool) (x k h : ℕ) → (t ≡ true → k ≤ x) → h ≤ x → cond t k h ≤ x
above_choice true x k h first other = first refl
above_choice false x k h first other = other

pub from_below_choice : (t : Bool) (x k h : ℕ) → (t ≡ true → k ≤ h) → x ≤ cond t k h → x ≤ h
from_below_choice true x k h within low = let w = within refl in omega arith
from_below_choice false x k h within low = low

pub from_above_choice : (t : Bool) (x k h : ℕ) → (t ≡ true → h ≤ k) → cond t k h ≤ x → h ≤ x
from_above_choice true x k h within high = let w = within refl in omega arith
from_above_choice false x k h within high = high

pub into_first : (town : Town) (node : Node) (arc k : ℕ) (x : ℕ → ℕ) → x arc ≤ k → IsInside town node x → IsInside town (at_most arc k node) x
into_first town node arc k x low inside = record {
  at_least = inside.at_least;
  at_most = λ a legal. below_choice (a == arc) (x a) k (node.hi a) (λ e. subst (λ b. x b ≤ k) (sym (eqb-true a arc e)) low) (inside.at_most a legal);
}

pub into_second : (town : Town) (node : Node) (arc k : ℕ) (x : ℕ → ℕ) → k ≤ x arc → IsInside town node x → IsInside town (at_least arc k node) x
into_second town node arc k x high inside = record {
  at_least = λ a legal. above_choice (a == arc) (x a) k (node.lo a) (λ e. subst (λ b. k ≤ x b) (sym (eqb-true a arc e)) high) (inside.at_least a legal);
  at_most = inside.at_most;
}

pub out_of_first : (town : Town) (node : Node) (arc k : ℕ) (x : ℕ → ℕ) → k ≤ node.hi arc → IsInside town (at_most arc k node) x → IsInside town node x
out_of_first town node arc k x within inside = record {
  at_least = inside.at_least;
  at_most = λ a legal. from_below_choice (a == arc) (x a) k (node.hi a) (λ e. subst (λ b. k ≤ node.hi b) (sym (eqb-true a arc e)) within) (inside.at_most a legal);
}

pub out_of_second : (town : Town) (node : Node) (arc k : ℕ) (x : ℕ → ℕ) → node.lo arc ≤ k → IsInside town (at_least arc k node) x → IsInside town node x
out_of_second town node arc k x within inside = record {
  at_least = λ a legal. from_above_choice (a == arc) (x a) k (node.lo a) (λ e. subst (λ b. node.lo b ≤ k) (sym (eqb-true a arc e)) within) (inside.at_least a legal);
  at_most = inside.at_most;
}

first_low : (town : Town) (node : Node) (arc k : ℕ) (x : ℕ → ℕ) → is_legal town arc ≡ true → IsInside town (at_most arc k node) x → x arc ≤ k
first_low town node arc k x legal inside =
    subst (λ (t : Bool). x arc ≤ cond t k (node.hi arc)) (eq-eqb arc arc refl) (inside.at_most arc legal)

second_high : (town : Town) (node : Node) (arc k : ℕ) (x : ℕ → ℕ) → is_legal town arc ≡ true → IsInside town (at_least arc k node) x → k ≤ x arc
second_high town node arc k x legal inside =
    subst (λ (t : Bool). cond t k (node.lo arc) ≤ x arc) (eq-eqb arc arc refl) (inside.at_least arc legal)

-- ---- the unsplit nodes

pub starts_as_partition : (town : Town) → IsPartition town (start town)
starts_as_partition town = record {
  splits_there = λ i is. absurd (false≢true is);
  splits_closed = λ i is. absurd (false≢true is);
  filled = filled;
  cover = λ x inside. (0, omega arith, refl, inside);
  apart = λ x i j first second one two in_i in_j. let a : i ≡ 0 = omega arith in let b : j ≡ 0 = omega arith in a ∙ sym b;
}
  where
    filled : (i : ℕ) → i < length (root town ∷ []) → (arc : ℕ) → is_legal town arc ≡ true → (get_or (root town ∷ []) i (root town)).lo arc ≤ (get_or (root town ∷ []) i (root town)).hi arc
    filled zero below arc legal = omega arith
    filled (suc i) below arc legal = absurd (omega arith)

-- what keeps the boxes
pub record KeepsBoxes (town : Town) (old new : Standing) : Type 0 where
  pub count : length new.nodes ≡ length old.nodes
  pub lo : (i : ℕ) → (node_at town new i).lo ≡ (node_at town old i).lo
  pub hi : (i : ℕ) → (node_at town new i).hi ≡ (node_at town old i).hi
  pub still : (i : ℕ) → (node_at town old i).is_closed ≡ true → (node_at town new i).is_closed ≡ true
  pub splits : (i : ℕ) → is_split new.records i ≡ is_split old.records i

pub partition_kept : (town : Town) (old new : Standing) → KeepsBoxes town old new → IsPartition town old → IsPartition town new
partition_kept town old new keeps is = record {
  splits_there = λ i split. let before = is.splits_there i (sym (keeps.splits i) ∙ split) in omega (arith, keeps.count);
  splits_closed = λ i split. keeps.still i (is.splits_closed i (sym (keeps.splits i) ∙ split));
  filled = λ i below arc legal.
      let before = is.filled i (omega (arith, keeps.count)) arc legal in
      omega (arith, ap (λ (f : ℕ → ℕ). f arc) (keeps.lo i), ap (λ (f : ℕ → ℕ). f arc) (keeps.hi i));
  cover = λ x inside.
      let c = is.cover x inside in
      (c.0, omega (arith, c.1, keeps.count), keeps.splits c.0 ∙ c.2, same_box town (node_at town old c.0) (node_at town new c.0) x (sym (keeps.lo c.0)) (sym (keeps.hi c.0)) c.3);
  apart = λ x i j first second one two in_i in_j.
      is.apart x i j (omega (arith, keeps.count)) (omega (arith, keeps.count)) (sym (keeps.splits i) ∙ one) (sym (keeps.splits j) ∙ two)
      (same_box town (node_at town new i) (node_at town old i) x (keeps.lo i) (keeps.hi i) in_i)
      (same_box town (node_at town new j) (node_at town old j) x (keeps.lo j) (keeps.hi j) in_j);
}

or_false : (b : Bool) → (b || false) ≡ b
or_false true = refl
or_false false = refl

-- a record that splits nothing
no_split : (records : List Record) (item : Record) (i : ℕ) → splits i item ≡ false → is_split (records ++ item ∷ []) i ≡ is_split records i
no_split records item i none =
    list_any-append (splits i) records (item ∷ []) ∙ ap (λ b. is_split records i || (b || false)) none ∙ or_false (is_split records i)

same_nodes : (town : Town) (s : Standing) (item : Record) → (after town s item).nodes ≡ s.nodes → ((i : ℕ) → splits i item ≡ false) → KeepsBoxes town s (after town s item)
same_nodes town s item same none = record {
  count = ap length same;
  lo = λ i. ap (λ (nodes : List Node). (get_or nodes i (root town)).lo) same;
  hi = λ i. ap (λ (nodes : List Node). (get_or nodes i (root town)).hi) same;
  still = λ i h. ap (λ (nodes : List Node). (get_or nodes i (root town)).is_closed) same ∙ h;
  splits = λ i. no_split s.records item i (none i);
}

changed_node : (town : Town) (s : Standing) (item : Record) (change : Node → Node) (node : ℕ) → (after town s item).nodes ≡ changed change node s.nodes → ((n : Node) → (change n).lo ≡ n.lo) → ((n : Node) → (change n).hi ≡ n.hi) → ((n : Node) → n.is_closed ≡ true → (change n).is_closed ≡ true) → ((i : ℕ) → splits i item ≡ false) → KeepsBoxes town s (after town s item)
changed_node town s item change node same lo hi still none = record {
  count = ap length same ∙ length-changed change node s.nodes;
  lo = λ i. ap (λ (nodes : List Node). (get_or nodes i (root town)).lo) same ∙ changed_keeps (λ n. n.lo) change lo node i s.nodes (root town);
  hi = λ i. ap (λ (nodes : List Node). (get_or nodes i (root town)).hi) same ∙ changed_keeps (λ n. n.hi) change hi node i s.nodes (root town);
  still = λ i h. ap (λ (nodes : List Node). (get_or nodes i (root town)).is_closed) same ∙ still_closed change still node i s.nodes (root town) h;
  splits = λ i. no_split s.records item i (none i);
}

-- ---- a split

-- what the rules of a split say
pub record SplitsBy (town : Town) (s : Standing) (node arc k : ℕ) : Type 0 where
  pub there : node < length s.nodes
  pub legal : is_legal town arc ≡ true
  pub unclosed : (node_at town s node).is_closed ≡ false
  pub low : (node_at town s node).lo arc ≤ k
  pub high : k < (node_at town s node).hi arc

pub splits_by : (town : Town) (s : Standing) (node arc k : ℕ) → is_none (broken_rule town s (Split node arc k)) ≡ true → SplitsBy town s node arc k
splits_by town s node arc k sound =
    let range = and_parts (node_is_there s node) (is_legal town arc) (rules_kept (all_rules town s (Split node arc k)) sound 2) in
    let closed = and_parts (not (node_at town s node).is_closed) (is_below (node_at town s node).bound s.upper) (rules_kept (all_rules town s (Split node arc k)) sound 3) in
    let part = and_parts (nat_le ((node_at town s node).lo arc) k) (nat_lt k ((node_at town s node).hi arc)) (rules_kept (all_rules town s (Split node arc k)) sound 5) in
    record {
      there = ltb-true node (length s.nodes) range.0;
      legal = range.1;
      unclosed = not-true (node_at town s node).is_closed closed.0;
      low = leb-true ((node_at town s node).lo arc) k part.0;
      high = ltb-true k ((node_at town s node).hi arc) part.1;
    }

module _ (town : Town) (s : Standing) (node arc k : ℕ) (by : SplitsBy town s node arc k) (is : IsPartition town s) where
  abbrev pub next : Standing
  next = after town s (Split node arc k)

  abbrev pub parent : Node
  parent = node_at town s node

  pub nodes_are : AreSplit (root town) s.nodes next.nodes node (at_most arc k parent) (at_least arc (k + 1) parent)
  nodes_are = are_split (root town) s.nodes node (at_most arc k parent) (at_least arc (k + 1) parent) by.there

  pub split_is : (i : ℕ) → is_split next.records i ≡ (is_split s.records i || (node == i))
  split_is i =
      list_any-append (splits i) s.records (Split node arc k ∷ []) ∙ ap (λ b. is_split s.records i || b) (or_false (node == i))

  -- a number of a node is an old one, or one of the two new ones
  which : (i : ℕ) → i < length next.nodes → (i < length s.nodes) ⊎ ((i ≡ length s.nodes) ⊎ (i ≡ length s.nodes + 1))
  which i below =
      elim (cases_lt i (length s.nodes)) [
        | inl old ↦ inl old
        | inr new ↦ elim (cases_eq i (length s.nodes)) [ inl first ↦ inr (inl first) | inr other ↦ inr (inr (omega (arith, nodes_are.count))) ]
      ]

  old_box : (i : ℕ) → i < length s.nodes → (x : ℕ → ℕ) → IsInside town (node_at town next i) x → IsInside town (node_at town s i) x
  old_box i below x inside = same_box town (node_at town next i) (node_at town s i) x (nodes_are.lo i below) (nodes_are.hi i below) inside

  new_box : (i : ℕ) → i < length s.nodes → (x : ℕ → ℕ) → IsInside town (node_at town s i) x → IsInside town (node_at town next i) x
  new_box i below x inside =
      same_box town (node_at town s i) (node_at town next i) x (sym (nodes_are.lo i below)) (sym (nodes_are.hi i below)) inside

  pub unsplit : is_split s.records node ≡ false
  unsplit =
      false_from_ne_true (is_split s.records node) (λ split. true≢false (sym (is.splits_closed node split) ∙ by.unclosed))

  -- a new number is that of no split
  pub new_unsplit : (i : ℕ) → length s.nodes ≤ i → is_split next.records i ≡ false
  new_unsplit i new =
      split_is i
      ∙ or_from (is_split s.records i) (node == i) (false_from_ne_true (is_split s.records i) (λ split. let there = is.splits_there i split in omega arith)) (ne_eqb node i (λ same. let there = by.there in omega arith))

  old_unsplit : (i : ℕ) → is_split next.records i ≡ false → (is_split s.records i ≡ false) × (i ≡ node → ⊥)
  old_unsplit i none =
      let parts = or_parts (is_split s.records i) (node == i) (sym (split_is i) ∙ none) in
      (parts.0, λ same. eqb-false node i parts.1 (sym same))

  -- the box in which a box lies
  abbrev Above : (ℕ → ℕ) → ℕ → Type 0
  Above x i = (j : ℕ) × (j < length s.nodes) × (is_split s.records j ≡ false) × (IsInside town (node_at town s j) x) × ((i ≡ j) ⊎ ((length s.nodes ≤ i) × (j ≡ node)))

  above : (x : ℕ → ℕ) (i : ℕ) → i < length next.nodes → is_split next.records i ≡ false → IsInside town (node_at town next i) x → Above x i
  above x i below none inside = of_which (which i below)
    where
      of_which : (i < length s.nodes) ⊎ ((i ≡ length s.nodes) ⊎ (i ≡ length s.nodes + 1)) → Above x i
      of_which (inl old) = (i, old, (old_unsplit i none).0, old_box i old x inside, inl refl)
      of_which (inr (inl first)) = (
        node,
        by.there,
        unsplit,
        out_of_first town parent arc k x (let h = by.high in omega arith) (subst (λ n. IsInside town n x) (nodes_are.first_is i first) inside),
        inr (omega arith, refl),
      )
      of_which (inr (inr second)) = (
        node,
        by.there,
        unsplit,
        out_of_second town parent arc (k + 1) x (let h = by.low in omega arith) (subst (λ n. IsInside town n x) (nodes_are.second_is i second) inside),
        inr (omega arith, refl),
      )

  -- two new numbers are the same where one list of numbers is in both boxes
  same_half : (x : ℕ → ℕ) (i j : ℕ) → (i ≡ length s.nodes) ⊎ (i ≡ length s.nodes + 1) → (j ≡ length s.nodes) ⊎ (j ≡ length s.nodes + 1) → IsInside town (node_at town next i) x → IsInside town (node_at town next j) x → i ≡ j
  same_half x i j (inl a) (inl b) in_i in_j = omega arith
  same_half x i j (inr a) (inr b) in_i in_j = omega arith
  same_half x i j (inl a) (inr b) in_i in_j =
      let low = first_low town parent arc k x by.legal (subst (λ n. IsInside town n x) (nodes_are.first_is i a) in_i) in
      let high = second_high town parent arc (k + 1) x by.legal (subst (λ n. IsInside town n x) (nodes_are.second_is j b) in_j) in
      absurd (omega arith)
  same_half x i j (inr a) (inl b) in_i in_j =
      let low = first_low town parent arc k x by.legal (subst (λ n. IsInside town n x) (nodes_are.first_is j b) in_j) in
      let high = second_high town parent arc (k + 1) x by.legal (subst (λ n. IsInside town n x) (nodes_are.second_is i a) in_i) in
      absurd (omega arith)

  new_half : (i : ℕ) → i < length next.nodes → length s.nodes ≤ i → (i ≡ length s.nodes) ⊎ (i ≡ length s.nodes + 1)
  new_half i below new =
      elim (cases_eq i (length s.nodes)) [ inl first ↦ inl first | inr other ↦ inr (omega (arith, nodes_are.count)) ]

  split_apart : (x : ℕ → ℕ) (i j : ℕ) → i < length next.nodes → j < length next.nodes → is_split next.records i ≡ false → is_split next.records j ≡ false → IsInside town (node_at town next i) x → IsInside town (node_at town next j) x → i ≡ j
  split_apart x i j below_i below_j none_i none_j in_i in_j = both (above x i below_i none_i in_i) (above x j below_j none_j in_j)
    where
      places : (a b : ℕ) → a ≡ b → (i ≡ a) ⊎ ((length s.nodes ≤ i) × (a ≡ node)) → (j ≡ b) ⊎ ((length s.nodes ≤ j) × (b ≡ node)) → i ≡ j
      places a b same (inl p) (inl q) = omega arith
      places a b same (inl p) (inr q) = absurd ((old_unsplit i none_i).1 (omega arith))
      places a b same (inr p) (inl q) = absurd ((old_unsplit j none_j).1 (omega arith))
      places a b same (inr p) (inr q) = same_half x i j (new_half i below_i p.0) (new_half j below_j q.0) in_i in_j

      both : Above x i → Above x j → i ≡ j
      both (a, below_a, none_a, in_a, p) (b, below_b, none_b, in_b, q) =
          places a b (is.apart x a b below_a below_b none_a none_b in_a in_b) p q

  split_cover : (x : ℕ → ℕ) → IsInside town (root town) x → (i : ℕ) × (i < length next.nodes) × (is_split next.records i ≡ false) × (IsInside town (node_at town next i) x)
  split_cover x inside = of_old (is.cover x inside)
    where
      half : IsInside town parent x → (x arc ≤ k) ⊎ (k < x arc) → (i : ℕ) × (i < length next.nodes) × (is_split next.records i ≡ false) × (IsInside town (node_at town next i) x)
      half within (inl low) = (
        length s.nodes,
        omega (arith, nodes_are.count),
        new_unsplit (length s.nodes) (omega arith),
        subst (λ n. IsInside town n x) (sym (nodes_are.first_is (length s.nodes) refl)) (into_first town parent arc k x low within),
      )
      half within (inr high) = (
        length s.nodes + 1,
        omega (arith, nodes_are.count),
        new_unsplit (length s.nodes + 1) (omega arith),
        subst (λ n. IsInside town n x) (sym (nodes_are.second_is (length s.nodes + 1) refl)) (into_second town parent arc (k + 1) x (omega arith) within),
      )

      low_or_high : (x arc ≤ k) ⊎ (k < x arc)
      low_or_high = elim (cases_lt k (x arc)) [ inl more ↦ inr more | inr less ↦ inl less ]

      of_old : (i : ℕ) × (i < length s.nodes) × (is_split s.records i ≡ false) × (IsInside town (node_at town s i) x) → (i : ℕ) × (i < length next.nodes) × (is_split next.records i ≡ false) × (IsInside town (node_at town next i) x)
      of_old (i, below, none, within) =
          elim (cases_eq i node) [
            | inl same ↦ half (subst (λ n. IsInside town (node_at town s n) x) same within) low_or_high
            | inr differs ↦ (i, omega (arith, nodes_are.count), split_is i ∙ or_from (is_split s.records i) (node == i) none (ne_eqb node i (λ e. differs (sym e))), new_box i below x within)
          ]

  filled_first : (a : ℕ) → is_legal town a ≡ true → (at_most arc k parent).lo a ≤ (at_most arc k parent).hi a
  filled_first a legal =
      below_choice (a == arc) (parent.lo a) k (parent.hi a) (λ e. subst (λ b. parent.lo b ≤ k) (sym (eqb-true a arc e)) by.low) (is.filled node by.there a legal)

  filled_second : (a : ℕ) → is_legal town a ≡ true → (at_least arc (k + 1) parent).lo a ≤ (at_least arc (k + 1) parent).hi a
  filled_second a legal =
      above_choice (a == arc) (parent.hi a) (k + 1) (parent.lo a) (λ e. subst (λ b. k + 1 ≤ parent.hi b) (sym (eqb-true a arc e)) (let h = by.high in omega arith)) (is.filled node by.there a legal)

  split_filled : (i : ℕ) → i < length next.nodes → (a : ℕ) → is_legal town a ≡ true → (node_at town next i).lo a ≤ (node_at town next i).hi a
  split_filled i below a legal = of_which (which i below)
    where
      of_which : (i < length s.nodes) ⊎ ((i ≡ length s.nodes) ⊎ (i ≡ length s.nodes + 1)) → (node_at town next i).lo a ≤ (node_at town next i).hi a
      of_which (inl old) =
          let before = is.filled i old a legal in
          omega (arith, ap (λ (f : ℕ → ℕ). f a) (nodes_are.lo i old), ap (λ (f : ℕ → ℕ). f a) (nodes_are.hi i old))
      of_which (inr (inl first)) = subst (λ (n : Node). n.lo a ≤ n.hi a) (sym (nodes_are.first_is i first)) (filled_first a legal)
      of_which (inr (inr second)) = subst (λ (n : Node). n.lo a ≤ n.hi a) (sym (nodes_are.second_is i second)) (filled_second a legal)

  split_there : (i : ℕ) → is_split next.records i ≡ true → i < length next.nodes
  split_there i split =
      elim (or_cases (is_split s.records i) (node == i) (sym (split_is i) ∙ split)) [
        | inl old ↦ (let before = is.splits_there i old in omega (arith, nodes_are.count))
        | inr new ↦ (let same = eqb-true node i new in omega (arith, nodes_are.count, by.there))
      ]

  split_closed : (i : ℕ) → is_split next.records i ≡ true → (node_at town next i).is_closed ≡ true
  split_closed i split =
      elim (cases_eq i node) [
        | inl same ↦ subst (λ j. (node_at town next j).is_closed ≡ true) (sym same) (ap (λ (n : Node). n.is_closed) nodes_are.here)
        | inr differs ↦ (
            let old : is_split s.records i ≡ true = elim (or_cases (is_split s.records i) (node == i) (sym (split_is i) ∙ split)) [ inl before ↦ before | inr new ↦ absurd (differs (sym (eqb-true node i new))) ] in
            ap (λ (n : Node). n.is_closed) (nodes_are.others i (is.splits_there i old) differs) ∙ is.splits_closed i old
            )
      ]

  pub partition_split : IsPartition town next
  partition_split = record {
    splits_there = split_there;
    splits_closed = split_closed;
    filled = split_filled;
    cover = split_cover;
    apart = split_apart;
  }

-- ---- lists

-- a record keeps the boxes, or it is a split
pub record IsSplitOf (town : Town) (s : Standing) (item : Record) : Type 0 where
  pub node : ℕ
  pub arc : ℕ
  pub k : ℕ
  pub is : item ≡ Split node arc k
  pub by : SplitsBy town s node arc k

pub change_of : (town : Town) (s : Standing) (item : Record) → is_none (broken_rule town s item) ≡ true → KeepsBoxes town s (after town s item) ⊎ IsSplitOf town s item
change_of town s (Split node arc k) sound = inr (record { node = node; arc = arc; k = k; is = refl; by = splits_by town s node arc k sound })
change_of town s (Bound node den mult) sound =
    inl (changed_node town s (Bound node den mult) (with_bound (bound_value town s.rows (node_at town s node) den mult)) node refl (λ n. refl) (λ n. refl) (λ n h. h) (λ i. refl))
change_of town s (Empty node mult) sound = inl (changed_node town s (Empty node mult) closed node refl (λ n. refl) (λ n. refl) (λ n h. refl) (λ i. refl))
change_of town s (Apart node r1 r2 set) sound =
    inl (changed_node town s (Apart node r1 r2 set) closed node refl (λ n. refl) (λ n. refl) (λ n h. refl) (λ i. refl))
change_of town s (Tour cost steps) sound = inl (same_nodes town s (Tour cost steps) refl (λ i. refl))
change_of town s (Conn r1 r2 set) sound = inl (same_nodes town s (Conn r1 r2 set) refl (λ i. refl))
change_of town s (Odd set) sound = inl (same_nodes town s (Odd set) refl (λ i. refl))
change_of town s (Round divisor mult) sound = inl (same_nodes town s (Round divisor mult) refl (λ i. refl))
change_of town s (Kc k of) sound = inl (same_nodes town s (Kc k of) refl (λ i. refl))
change_of town s (Point node den numbers) sound = inl (same_nodes town s (Point node den numbers) refl (λ i. refl))
change_of town s (Blind node) sound = inl (same_nodes town s (Blind node) refl (λ i. refl))
change_of town s (Labels labels streets) sound = inl (same_nodes town s (Labels labels streets) refl (λ i. refl))

pub partition_after : (town : Town) (s : Standing) (item : Record) → is_none (broken_rule town s item) ≡ true → IsPartition town s → IsPartition town (after town s item)
partition_after town s item sound is = by (change_of town s item sound)
  where
    by : KeepsBoxes town s (after town s item) ⊎ IsSplitOf town s item → IsPartition town (after town s item)
    by (inl keeps) = partition_kept town s (after town s item) keeps is
    by (inr split) = subst (λ i. IsPartition town (after town s i)) (sym split.is) (partition_split town s split.node split.arc split.k split.by is)

-- the boxes of the unsplit nodes of a valid list
pub boxes_cover : (town : Town) (records : List Record) → is_valid town records ≡ true → IsPartition town (standing town records)
boxes_cover town records valid =
    goes_on_keeps town (IsPartition town) (partition_after town) (start town) records valid (starts_as_partition town)
