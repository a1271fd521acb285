-- A node with a new bound, or closed: its box stays as it was.
use Rattle.std.proofs.Common.{◌≡◌, ℕ, ◌*◌, ◌<◌, ◌==◌, cond, true, ℤ, List, length, set, ap, refl, sym, ◌∙◌, subst, arith}
use Rattle.std.proofs.Math.ListN.{length-set}
use Rattle.wrp_town.specs.declared.town.Town.{Town}
use Rattle.wrp_town.specs.Arcs.{is_legal}
use Rattle.wrp_rules.specs.Nodes.{Node, root, with_bound, closed, changed}
use Rattle.wrp_nodes.specs.declared.kept.KeptNode.{KeptNode}
use Rattle.wrp_nodes.specs.declared.kept.Cut.{Cut}
use Rattle.wrp_nodes.specs.declared.kept.Cut.TheVariants.{AtLeast, AtMost}
use Rattle.wrp_nodes.specs.Kept.{node_in, kept_root, kept_at, cut_by, HaveSameBox, IsSound, AreLinked, Keeps, IsCutOut, HasNodes, Becomes}
use Rattle.wrp_nodes.proofs.NodeLists.{set_keeps, changed_keeps}
use Rattle.wrp_nodes.proofs.Keeping.{zip_at, zip_changed}

-- the same ends of all ranges
pub record HaveSameEnds (one other : Node) : Type 0 where
  pub lo : one.lo ≡ other.lo
  pub hi : one.hi ≡ other.hi

at : (f g : ℕ → ℕ) (arc : ℕ) → f ≡ g → f arc ≡ g arc
at f g arc same = ap (λ (h : ℕ → ℕ). h arc) same

pub cut_by_same : (cut : Cut) (arc : ℕ) (one other : Node) → HaveSameEnds one other → HaveSameEnds (cut_by cut arc one) (cut_by cut arc other)
cut_by_same (AtLeast k) arc one other same =
    record { lo = ap (λ (f : ℕ → ℕ). λ (a : ℕ). cond (a == arc) k (f a)) same.lo; hi = same.hi }
cut_by_same (AtMost k) arc one other same =
    record { lo = same.lo; hi = ap (λ (f : ℕ → ℕ). λ (a : ℕ). cond (a == arc) k (f a)) same.hi }

pub box_same : (town : Town) (a b c d : Node) → HaveSameEnds a c → HaveSameEnds b d → HaveSameBox town c d → HaveSameBox town a b
box_same town a b c d first second box = record {
  lo = λ arc legal. at a.lo c.lo arc first.lo ∙ box.lo arc legal ∙ sym (at b.lo d.lo arc second.lo);
  hi = λ arc legal. at a.hi c.hi arc first.hi ∙ box.hi arc legal ∙ sym (at b.hi d.hi arc second.hi);
}

pub sound_same : (town : Town) (a b : Node) → HaveSameEnds a b → IsSound town b → IsSound town a
sound_same town a b same sound = record {
  some = λ arc legal. omega (arith, at a.lo b.lo arc same.lo, at a.hi b.hi arc same.hi, sound.some arc legal);
  most = λ arc legal. omega (arith, at a.hi b.hi arc same.hi, sound.most arc legal);
}

pub cut_out_same : (town : Town) (k l : KeptNode) (p q m n : Node) → k.cut ≡ l.cut → k.arc ≡ l.arc → HaveSameEnds p q → HaveSameEnds m n → IsCutOut town l q n → IsCutOut town k p m
cut_out_same town k l p q m n cut arc parents nodes is = record {
  arc = ap (is_legal town) arc ∙ is.arc;
  box = subst (λ (c : Cut). HaveSameBox town m (cut_by c k.arc p)) (sym cut) (subst (λ (a : ℕ). HaveSameBox town m (cut_by l.cut a p)) (sym arc) (box_same town m (cut_by l.cut l.arc p) n (cut_by l.cut l.arc q) nodes (cut_by_same l.cut l.arc p q parents) is.box));
  within = record {
    lo = λ a legal. omega (arith, at p.lo q.lo a parents.lo, at m.lo n.lo a nodes.lo, is.within.lo a legal);
    hi = λ a legal. omega (arith, at p.hi q.hi a parents.hi, at m.hi n.hi a nodes.hi, is.within.hi a legal);
  };
}

-- ---- a kept node in the place of another that is cut out alike

pub record AreCutAlike (one other : KeptNode) : Type 0 where
  pub parent : one.parent ≡ other.parent
  pub arc : one.arc ≡ other.arc
  pub cut : one.cut ≡ other.cut

pub set_links : (arcs : ℕ) (kept : List KeptNode) (i : ℕ) (new : KeptNode) → AreCutAlike new (kept_at kept i) → AreLinked arcs kept → AreLinked arcs (set kept i new)
set_links arcs kept i new alike linked = record {
  root = omega (arith, length-set {A = KeptNode}, linked.root);
  parent = λ j some below. omega (arith, set_keeps (λ (k : KeptNode). k.parent) kept i j new kept_root alike.parent, linked.parent j some (omega (arith, length-set {A = KeptNode})));
  arc = λ j some below. omega (arith, set_keeps (λ (k : KeptNode). k.arc) kept i j new kept_root alike.arc, linked.arc j some (omega (arith, length-set {A = KeptNode})));
}

module _ (change : Node → Node) (keeps : (n : Node) → HaveSameEnds (change n) n) where
  ends_changed : (town : Town) (nodes : List Node) (i j : ℕ) → HaveSameEnds (node_in town (changed change i nodes) j) (node_in town nodes j)
  ends_changed town nodes i j = record {
    lo = changed_keeps (λ (n : Node). n.lo) change (λ n. (keeps n).lo) i j nodes (root town);
    hi = changed_keeps (λ (n : Node). n.hi) change (λ n. (keeps n).hi) i j nodes (root town);
  }

  nodes_changed : (town : Town) (kept : List KeptNode) (nodes : List Node) (i : ℕ) (new : KeptNode) → i < length kept → AreCutAlike new (kept_at kept i) → Keeps new (change (node_in town nodes i)) → HasNodes town kept nodes → HasNodes town (set kept i new) (changed change i nodes)
  nodes_changed town kept nodes i new there alike both has = record {
    linked = set_links (2 * length town.streets) kept i new alike has.linked;
    keeps = zip_changed change kept nodes i new (root town) has.keeps there both;
    first = box_same town (node_in town (changed change i nodes) 0) (root town) (node_in town nodes 0) (root town) (ends_changed town nodes i 0) (record { lo = refl; hi = refl }) has.first;
    others = λ j some below. cut_out_same town (kept_at (set kept i new) j) (kept_at kept j)
        (node_in town (changed change i nodes) (kept_at (set kept i new) j).parent) (node_in town nodes (kept_at kept j).parent)
        (node_in town (changed change i nodes) j) (node_in town nodes j)
        (set_keeps (λ (k : KeptNode). k.cut) kept i j new kept_root alike.cut)
        (set_keeps (λ (k : KeptNode). k.arc) kept i j new kept_root alike.arc)
        (record {
          lo = (ends_changed town nodes i (kept_at (set kept i new) j).parent).lo ∙ ap (λ (p : ℕ). (node_in town nodes p).lo) (parents j);
          hi = (ends_changed town nodes i (kept_at (set kept i new) j).parent).hi ∙ ap (λ (p : ℕ). (node_in town nodes p).hi) (parents j);
        })
        (ends_changed town nodes i j)
        (has.others j some (omega (arith, length-set {A = KeptNode})));
    sound = λ j below. sound_same town (node_in town (changed change i nodes) j) (node_in town nodes j) (ends_changed town nodes i j) (has.sound j (omega (arith, length-set {A = KeptNode})));
  }
    where
      parents : (j : ℕ) → (kept_at (set kept i new) j).parent ≡ (kept_at kept j).parent
      parents j = set_keeps (λ (k : KeptNode). k.parent) kept i j new kept_root alike.parent

pub becomes_changed : (change : Node → Node) → ((n : Node) → HaveSameEnds (change n) n) → (kept : List KeptNode) (i : ℕ) (new : KeptNode) → i < length kept → AreCutAlike new (kept_at kept i) → ((n : Node) → Keeps (kept_at kept i) n → Keeps new (change n)) → Becomes kept (set kept i new) (changed change i)
becomes_changed change keeps kept i new there alike both = record {
  count = length-set kept i new;
  linked = λ arcs linked. set_links arcs kept i new alike linked;
  nodes = λ town nodes has. nodes_changed change keeps town kept nodes i new there alike (both (node_in town nodes i) (zip_at kept nodes i kept_root (root town) has.keeps there)) has;
}

-- a new bound
pub becomes_bound : (bound : ℤ) (kept : List KeptNode) (i : ℕ) (new : KeptNode) → i < length kept → new ≡ record (kept_at kept i) { bound = bound } → Becomes kept (set kept i new) (changed (with_bound bound) i)
becomes_bound bound kept i new there is =
    becomes_changed (with_bound bound) (λ n. record { lo = refl; hi = refl }) kept i new there
    (record { parent = ap (λ (k : KeptNode). k.parent) is; arc = ap (λ (k : KeptNode). k.arc) is; cut = ap (λ (k : KeptNode). k.cut) is })
    (λ n both. record { bound = ap (λ (k : KeptNode). k.bound) is; is_closed = ap (λ (k : KeptNode). k.is_closed) is ∙ both.is_closed })

-- closed
pub becomes_closed : (kept : List KeptNode) (i : ℕ) (new : KeptNode) → i < length kept → new ≡ record (kept_at kept i) { is_closed = true } → Becomes kept (set kept i new) (changed closed i)
becomes_closed kept i new there is =
    becomes_changed closed (λ n. record { lo = refl; hi = refl }) kept i new there
    (record { parent = ap (λ (k : KeptNode). k.parent) is; arc = ap (λ (k : KeptNode). k.arc) is; cut = ap (λ (k : KeptNode). k.cut) is })
    (λ n both. record { bound = ap (λ (k : KeptNode). k.bound) is ∙ both.bound; is_closed = ap (λ (k : KeptNode). k.is_closed) is })
