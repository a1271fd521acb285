-- One more node, cut out of the box of another; and both halves of a split.
use Rattle.std.proofs.Common.{◌≡◌, ℕ, ◌+◌, ◌*◌, ◌<◌, ◌≤◌, Bool, ◌==◌, cond, true, false, ◌⊎◌, inl, inr, List, [], ◌∷◌, ◌++◌, length, take, ap, refl, sym, ◌∙◌, subst, arith, length-append, append_assoc}
use Rattle.std.proofs.lemmas.Bool.{and_parts, eqb-true, leb-true, ltb-true, cases_lt}
use Rattle.std.proofs.lemmas.List.{get_or_append_left, take_at}
use Rattle.wrp_town.specs.declared.town.Town.{Town}
use Rattle.wrp_town.specs.Arcs.{is_legal}
use Rattle.wrp_town.proofs.TownLaws.{legal_below}
use Rattle.wrp_rules.specs.Nodes.{Node, root, closed, changed, at_most, at_least}
use Rattle.wrp_rules.specs.Rules.{parts_range}
use Rattle.wrp_nodes.specs.declared.kept.KeptNode.{KeptNode}
use Rattle.wrp_nodes.specs.declared.kept.Cut.TheVariants.{AtLeast, AtMost}
use Rattle.wrp_nodes.specs.Kept.{node_in, kept_root, kept_at, HaveSameBox, IsWithin, IsSound, AreLinked, Keeps, IsCutOut, HasNodes, Becomes, Splits, GainsChildren, children, child_of}
use Rattle.wrp_nodes.proofs.NodeLists.{changed-append, get_or_next}
use Rattle.wrp_nodes.proofs.Keeping.{zip_at, zip_length, zip_push}

-- ---- one more

pub kept_before : (kept : List KeptNode) (new : KeptNode) (i : ℕ) → i < length kept → kept_at (kept ++ new ∷ []) i ≡ kept_at kept i
kept_before kept new i below = get_or_append_left kept (new ∷ []) kept_root i below

pub push_links : (arcs : ℕ) (kept : List KeptNode) (new : KeptNode) → new.parent < length kept → new.arc < arcs → AreLinked arcs kept → AreLinked arcs (kept ++ new ∷ [])
push_links arcs kept new parent arc linked = record {
  root = omega (arith, length-append kept (new ∷ []), linked.root);
  parent = λ i some below. elim (cases_lt i (length kept)) [
    | inl old ↦ omega (arith, ap (λ (k : KeptNode). k.parent) (kept_before kept new i old), linked.parent i some old)
    | inr next ↦ omega (arith, ap (λ (k : KeptNode). k.parent) (get_or_next kept new kept_root i (omega (arith, length-append kept (new ∷ [])))))
  ];
  arc = λ i some below. elim (cases_lt i (length kept)) [
    | inl old ↦ omega (arith, ap (λ (k : KeptNode). k.arc) (kept_before kept new i old), linked.arc i some old)
    | inr next ↦ omega (arith, ap (λ (k : KeptNode). k.arc) (get_or_next kept new kept_root i (omega (arith, length-append kept (new ∷ [])))))
  ];
}

module _ (town : Town) (kept : List KeptNode) (nodes : List Node) (new : KeptNode) (node : Node) (has : HasNodes town kept nodes) where
  long : length kept ≡ length nodes
  long = zip_length kept nodes has.keeps

  before : (i : ℕ) → i < length kept → node_in town (nodes ++ node ∷ []) i ≡ node_in town nodes i
  before i below = get_or_append_left nodes (node ∷ []) (root town) i (omega (arith, long))

  cut_out_of : (i : ℕ) → 0 < i → i < length (kept ++ new ∷ []) → new.parent < length kept → IsCutOut town new (node_in town nodes new.parent) node → (i < length kept) ⊎ (length kept ≤ i) → IsCutOut town (kept_at (kept ++ new ∷ []) i) (node_in town (nodes ++ node ∷ []) (kept_at (kept ++ new ∷ []) i).parent) (node_in town (nodes ++ node ∷ []) i)
  cut_out_of i some below parent cut (inl old) =
      let same = kept_before kept new i old in
      let own : IsCutOut town (kept_at kept i) (node_in town (nodes ++ node ∷ []) (kept_at kept i).parent) (node_in town (nodes ++ node ∷ []) i) =
      subst (λ (n : Node). IsCutOut town (kept_at kept i) (node_in town (nodes ++ node ∷ []) (kept_at kept i).parent) n) (sym (before i old))
      (subst (λ (n : Node). IsCutOut town (kept_at kept i) n (node_in town nodes i)) (sym (before (kept_at kept i).parent (omega (arith, has.linked.parent i some old)))) (has.others i some old)) in
      subst (λ (k : KeptNode). IsCutOut town k (node_in town (nodes ++ node ∷ []) k.parent) (node_in town (nodes ++ node ∷ []) i)) (sym same) own
  cut_out_of i some below parent cut (inr next) =
      let is : i ≡ length kept = omega (arith, length-append kept (new ∷ [])) in
      let own : IsCutOut town new (node_in town (nodes ++ node ∷ []) new.parent) (node_in town (nodes ++ node ∷ []) i) =
      subst (λ (n : Node). IsCutOut town new (node_in town (nodes ++ node ∷ []) new.parent) n) (sym (get_or_next nodes node (root town) i (omega (arith, long))))
      (subst (λ (n : Node). IsCutOut town new n node) (sym (before new.parent parent)) cut) in
      subst (λ (k : KeptNode). IsCutOut town k (node_in town (nodes ++ node ∷ []) k.parent) (node_in town (nodes ++ node ∷ []) i)) (sym (get_or_next kept new kept_root i is)) own

  sound_of : (i : ℕ) → i < length (kept ++ new ∷ []) → IsSound town node → (i < length kept) ⊎ (length kept ≤ i) → IsSound town (node_in town (nodes ++ node ∷ []) i)
  sound_of i below sound (inl old) = subst (IsSound town) (sym (before i old)) (has.sound i old)
  sound_of i below sound (inr next) = subst (IsSound town) (sym (get_or_next nodes node (root town) i (omega (arith, long, length-append kept (new ∷ []))))) sound

  pub nodes_pushed : new.parent < length kept → new.arc < 2 * length town.streets → Keeps new node → IsCutOut town new (node_in town nodes new.parent) node → IsSound town node → HasNodes town (kept ++ new ∷ []) (nodes ++ node ∷ [])
  nodes_pushed parent arc both cut sound = record {
    linked = push_links (2 * length town.streets) kept new parent arc has.linked;
    keeps = zip_push kept nodes new node has.keeps both;
    first = subst (λ (n : Node). HaveSameBox town n (root town)) (sym (before 0 has.linked.root)) has.first;
    others = λ i some below. cut_out_of i some below parent cut (cases_lt i (length kept));
    sound = λ i below. sound_of i below sound (cases_lt i (length kept));
  }

-- ---- the two halves of a range

least_choice : (t : Bool) (x k h : ℕ) → (t ≡ true → x ≤ k) → x ≤ h → x ≤ cond t k h
least_choice true x k h first other = first refl
least_choice false x k h first other = other

greatest_choice : (t : Bool) (x k h : ℕ) → (t ≡ true → k ≤ x) → h ≤ x → cond t k h ≤ x
greatest_choice true x k h first other = first refl
greatest_choice false x k h first other = other

module _ (town : Town) (parent : Node) (arc k : ℕ) (low : parent.lo arc ≤ k) (high : k < parent.hi arc) (sound : IsSound town parent) where
  low_at : (a : ℕ) → (a == arc) ≡ true → parent.lo a ≤ k
  low_at a same = subst (λ (b : ℕ). parent.lo b ≤ k) (sym (eqb-true a arc same)) low

  high_at : (a : ℕ) → (a == arc) ≡ true → k < parent.hi a
  high_at a same = subst (λ (b : ℕ). k < parent.hi b) (sym (eqb-true a arc same)) high

  hi_falls : (a : ℕ) → (at_most arc k parent).hi a ≤ parent.hi a
  hi_falls a = greatest_choice (a == arc) (parent.hi a) k (parent.hi a) (λ same. omega (arith, high_at a same)) (omega arith)

  lo_rises : (a : ℕ) → parent.lo a ≤ (at_least arc (k + 1) parent).lo a
  lo_rises a = least_choice (a == arc) (parent.lo a) (k + 1) (parent.lo a) (λ same. omega (arith, low_at a same)) (omega arith)

  pub first_within : IsWithin town (at_most arc k parent) parent
  first_within = record { lo = λ a legal. omega arith; hi = λ a legal. hi_falls a }

  pub second_within : IsWithin town (at_least arc (k + 1) parent) parent
  second_within = record { lo = λ a legal. lo_rises a; hi = λ a legal. omega arith }

  pub first_sound : IsSound town (at_most arc k parent)
  first_sound = record {
    some = λ a legal. least_choice (a == arc) (parent.lo a) k (parent.hi a) (low_at a) (sound.some a legal);
    most = λ a legal. omega (arith, hi_falls a, sound.most a legal);
  }

  pub second_sound : IsSound town (at_least arc (k + 1) parent)
  second_sound = record {
    some = λ a legal. greatest_choice (a == arc) (parent.hi a) (k + 1) (parent.lo a) (λ same. omega (arith, high_at a same)) (sound.some a legal);
    most = sound.most;
  }

-- ---- a split

module _ (kept : List KeptNode) (node arc k : ℕ) (there : node < length kept) where
  abbrev first : KeptNode
  first = child_of kept node arc (AtMost k)

  abbrev second : KeptNode
  second = child_of (kept ++ first ∷ []) node arc (AtLeast (k + 1))

  abbrev both : List KeptNode
  both = (kept ++ first ∷ []) ++ second ∷ []

  there_too : node < length (kept ++ first ∷ [])
  there_too = omega (arith, length-append kept (first ∷ []))

  both_links : (arcs : ℕ) → arc < arcs → AreLinked arcs kept → AreLinked arcs both
  both_links arcs inside linked =
      push_links arcs (kept ++ first ∷ []) second there_too inside (push_links arcs kept first there inside linked)

  module _ (town : Town) (nodes : List Node) (has : HasNodes town kept nodes) (legal : is_legal town arc ≡ true) (parts : parts_range (node_in town nodes node) arc k ≡ true) where
    abbrev parent : Node
    parent = node_in town nodes node

    abbrev one : Node
    one = at_most arc k parent

    abbrev two : Node
    two = at_least arc (k + 1) parent

    low : parent.lo arc ≤ k
    low = leb-true (parent.lo arc) k (and_parts _ _ parts).0

    high : k < parent.hi arc
    high = ltb-true k (parent.hi arc) (and_parts _ _ parts).1

    inside : arc < 2 * length town.streets
    inside = legal_below town arc legal

    own : Keeps (kept_at kept node) parent
    own = zip_at kept nodes node kept_root (root town) has.keeps there

    sound : IsSound town parent
    sound = has.sound node there

    has_first : HasNodes town (kept ++ first ∷ []) (nodes ++ one ∷ [])
    has_first = nodes_pushed town kept nodes first one has there inside
        (record { bound = own.bound; is_closed = own.is_closed })
        (record { arc = legal; box = record { lo = λ a is. refl; hi = λ a is. refl }; within = first_within town parent arc k low high sound })
        (first_sound town parent arc k low high sound)

    same_parent : node_in town (nodes ++ one ∷ []) node ≡ parent
    same_parent = before town kept nodes first one has node there

    has_both : HasNodes town both ((nodes ++ one ∷ []) ++ two ∷ [])
    has_both = nodes_pushed town (kept ++ first ∷ []) (nodes ++ one ∷ []) second two has_first there_too inside
        (record { bound = ap (λ (l : KeptNode). l.bound) (kept_before kept first node there) ∙ own.bound; is_closed = ap (λ (l : KeptNode). l.is_closed) (kept_before kept first node there) ∙ own.is_closed })
        (subst (λ (n : Node). IsCutOut town second n two) (sym same_parent) (record { arc = legal; box = record { lo = λ a is. refl; hi = λ a is. refl }; within = second_within town parent arc k low high sound }))
        (second_sound town parent arc k low high sound)

  pub gains : GainsChildren kept both node arc k
  gains = record {
    count = omega (arith, length-append kept (first ∷ []), length-append (kept ++ first ∷ []) (second ∷ []));
    front = ap (take (length kept)) (append_assoc kept (first ∷ []) (second ∷ [])) ∙ take_at kept (first ∷ second ∷ []) (length kept) refl;
    linked = both_links;
    nodes = λ town nodes has legal parts. subst (HasNodes town both) (append_assoc nodes (at_most arc k (node_in town nodes node) ∷ []) (at_least arc (k + 1) (node_in town nodes node) ∷ [])) (has_both town nodes has legal parts);
  }

-- with two nodes more, a node is closed
pub splits : (kept both new : List KeptNode) (node arc k : ℕ) → node < length kept → GainsChildren kept both node arc k → Becomes both new (changed closed node) → Splits kept new node arc k
splits kept both new node arc k there gains closes = record {
  count = closes.count ∙ gains.count;
  linked = λ arcs inside linked. closes.linked arcs (gains.linked arcs inside linked);
  nodes = λ town nodes has legal parts.
      subst (HasNodes town new) (changed-append closed node nodes (children town node arc k nodes) (omega (arith, zip_length kept nodes has.keeps)))
      (closes.nodes town (nodes ++ children town node arc k nodes) (gains.nodes town nodes has legal parts));
}
