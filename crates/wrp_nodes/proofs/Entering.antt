-- From rest into the box of a node, along the way to the root.
use Rattle.std.proofs.Common.{◌≡◌, ℕ, ◌<◌, ◌≤◌, min, max, Bool, cond, true, ◌⊎◌, inl, inr, List, length, set, ap, refl, sym, ◌∙◌, subst, arith, get_or-set_same, get_or-set_other}
use Rattle.std.proofs.Math.ListN.{length-set}
use Rattle.std.proofs.lemmas.Bool.{cases_eq, eq-eqb, ne_eqb}
use Rattle.wrp_town.specs.declared.town.Town.{Town}
use Rattle.wrp_town.specs.Arcs.{is_legal}
use Rattle.wrp_rules.specs.Nodes.{Node}
use Rattle.wrp_nodes.specs.declared.kept.KeptNode.{KeptNode}
use Rattle.wrp_nodes.specs.declared.kept.UseRange.{UseRange}
use Rattle.wrp_nodes.specs.declared.kept.Cut.{Cut}
use Rattle.wrp_nodes.specs.declared.kept.Cut.TheVariants.{AtLeast, AtMost}
use Rattle.wrp_nodes.specs.declared.boxes.Boxes.{Boxes}
use Rattle.wrp_nodes.specs.Kept.{node_in, kept_at, cut_range, cut_by, HasNodes}
use Rattle.wrp_nodes.specs.Tables.{whole_range, range_at, Fits, IsAtRest, IsCutAbove, AreCutAbove, HasEntered}

-- on the way from a node to the root: the box of the node is what the table has within the box of
-- the place that was reached
pub record IsOnTheWay (town : Town) (kept : List KeptNode) (node at : ℕ) (boxes : Boxes) : Type 0 where
  pub fits : Fits town boxes
  pub most : (arc : ℕ) → (range_at boxes arc).hi ≤ boxes.most
  pub others : AreCutAbove kept node boxes
  pub further : (arc : ℕ) → IsCutAbove kept arc at → IsCutAbove kept arc node
  pub lo : (nodes : List Node) → HasNodes town kept nodes → (arc : ℕ) → is_legal town arc ≡ true → max (range_at boxes arc).lo ((node_in town nodes at).lo arc) ≡ (node_in town nodes node).lo arc
  pub hi : (nodes : List Node) → HasNodes town kept nodes → (arc : ℕ) → is_legal town arc ≡ true → min (range_at boxes arc).hi ((node_in town nodes at).hi arc) ≡ (node_in town nodes node).hi arc

-- the table with another range of an arc
abbrev pub with_range : Boxes → ℕ → UseRange → Boxes
with_range boxes arc range = record boxes { ranges = set boxes.ranges arc range }

pub range_here : (boxes : Boxes) (arc : ℕ) (range : UseRange) → arc < length boxes.ranges → range_at (with_range boxes arc range) arc ≡ range
range_here boxes arc range inside = get_or-set_same boxes.ranges arc range (whole_range boxes) inside

pub range_elsewhere : (boxes : Boxes) (arc other : ℕ) (range : UseRange) → (other ≡ arc → ⊥) → range_at (with_range boxes arc range) other ≡ range_at boxes other
range_elsewhere boxes arc other range differs = get_or-set_other boxes.ranges arc other range (whole_range boxes) differs

-- what a range of each arc is that keeps a fact
pub at_each : (P : ℕ → UseRange → Type 0) (boxes : Boxes) (arc : ℕ) (range : UseRange) → arc < length boxes.ranges → P arc range → ((other : ℕ) → (other ≡ arc → ⊥) → P other (range_at boxes other)) → (other : ℕ) → P other (range_at (with_range boxes arc range) other)
at_each P boxes arc range inside here elsewhere other = elim (cases_eq other arc) [
  | inl same ↦ subst (λ (a : ℕ). P a (range_at (with_range boxes arc range) a)) (sym same) (subst (P arc) (sym (range_here boxes arc range inside)) here)
  | inr differs ↦ subst (P other) (sym (range_elsewhere boxes arc other range differs)) (elsewhere other differs)
]

cut_below : (cut : Cut) (range : UseRange) (most : ℕ) → range.hi ≤ most → (cut_range cut range).hi ≤ most
cut_below (AtLeast k) range most below = below
cut_below (AtMost k) range most below = omega arith

-- at the arc that is cut
pub cut_lo_here : (cut : Cut) (arc : ℕ) (parent : Node) (range : UseRange) (own whole : ℕ) → parent.lo arc ≤ own → own ≡ (cut_by cut arc parent).lo arc → max range.lo own ≡ whole → max (cut_range cut range).lo (parent.lo arc) ≡ whole
cut_lo_here (AtLeast k) arc parent range own whole rises is sum =
    let here : own ≡ k = is ∙ ap (λ (t : Bool). cond t k (parent.lo arc)) (eq-eqb arc arc refl) in
    omega arith
cut_lo_here (AtMost k) arc parent range own whole rises is sum = omega arith

pub cut_hi_here : (cut : Cut) (arc : ℕ) (parent : Node) (range : UseRange) (own whole : ℕ) → own ≤ parent.hi arc → own ≡ (cut_by cut arc parent).hi arc → min range.hi own ≡ whole → min (cut_range cut range).hi (parent.hi arc) ≡ whole
cut_hi_here (AtLeast k) arc parent range own whole falls is sum = omega arith
cut_hi_here (AtMost k) arc parent range own whole falls is sum =
    let here : own ≡ k = is ∙ ap (λ (t : Bool). cond t k (parent.hi arc)) (eq-eqb arc arc refl) in
    omega arith

-- at other arcs the parent has what the node has
pub cut_lo_elsewhere : (cut : Cut) (arc other : ℕ) (parent : Node) → (other ≡ arc → ⊥) → (cut_by cut arc parent).lo other ≡ parent.lo other
cut_lo_elsewhere (AtLeast k) arc other parent differs = ap (λ (t : Bool). cond t k (parent.lo other)) (ne_eqb other arc differs)
cut_lo_elsewhere (AtMost k) arc other parent differs = refl

pub cut_hi_elsewhere : (cut : Cut) (arc other : ℕ) (parent : Node) → (other ≡ arc → ⊥) → (cut_by cut arc parent).hi other ≡ parent.hi other
cut_hi_elsewhere (AtLeast k) arc other parent differs = refl
cut_hi_elsewhere (AtMost k) arc other parent differs = ap (λ (t : Bool). cond t k (parent.hi other)) (ne_eqb other arc differs)

-- ---- one node further

module _ (town : Town) (kept : List KeptNode) (node at : ℕ) (boxes : Boxes) (some : 0 < at) (there : at < length kept) (inside : (kept_at kept at).arc < length boxes.ranges) (way : IsOnTheWay town kept node at boxes) where
  abbrev own : KeptNode
  own = kept_at kept at

  abbrev range : UseRange
  range = cut_range own.cut (range_at boxes own.arc)

  abbrev next : Boxes
  next = with_range boxes own.arc range

  lo_next : (nodes : List Node) → HasNodes town kept nodes → (arc : ℕ) → is_legal town arc ≡ true → max (range_at next arc).lo ((node_in town nodes own.parent).lo arc) ≡ (node_in town nodes node).lo arc
  lo_next nodes has arc =
      let cut = has.others at some there in
      at_each (λ a r. is_legal town a ≡ true → max r.lo ((node_in town nodes own.parent).lo a) ≡ (node_in town nodes node).lo a) boxes own.arc range inside
      (λ legal. cut_lo_here own.cut own.arc (node_in town nodes own.parent) (range_at boxes own.arc) ((node_in town nodes at).lo own.arc) ((node_in town nodes node).lo own.arc) (cut.within.lo own.arc legal) (cut.box.lo own.arc legal) (way.lo nodes has own.arc legal))
      (λ other differs legal. omega (arith, cut.box.lo other legal, cut_lo_elsewhere own.cut own.arc other (node_in town nodes own.parent) differs, way.lo nodes has other legal))
      arc

  hi_next : (nodes : List Node) → HasNodes town kept nodes → (arc : ℕ) → is_legal town arc ≡ true → min (range_at next arc).hi ((node_in town nodes own.parent).hi arc) ≡ (node_in town nodes node).hi arc
  hi_next nodes has arc =
      let cut = has.others at some there in
      at_each (λ a r. is_legal town a ≡ true → min r.hi ((node_in town nodes own.parent).hi a) ≡ (node_in town nodes node).hi a) boxes own.arc range inside
      (λ legal. cut_hi_here own.cut own.arc (node_in town nodes own.parent) (range_at boxes own.arc) ((node_in town nodes at).hi own.arc) ((node_in town nodes node).hi own.arc) (cut.within.hi own.arc legal) (cut.box.hi own.arc legal) (way.hi nodes has own.arc legal))
      (λ other differs legal. omega (arith, cut.box.hi other legal, cut_hi_elsewhere own.cut own.arc other (node_in town nodes own.parent) differs, way.hi nodes has other legal))
      arc

  pub one_further : IsOnTheWay town kept node own.parent next
  one_further = record {
    fits = record { arcs = length-set boxes.ranges own.arc range ∙ way.fits.arcs; most = way.fits.most };
    most = at_each (λ a r. r.hi ≤ boxes.most) boxes own.arc range inside (cut_below own.cut (range_at boxes own.arc) boxes.most (way.most own.arc)) (λ other differs. way.most other);
    others = at_each (λ a r. (r ≡ whole_range boxes) ⊎ IsCutAbove kept a node) boxes own.arc range inside (inr (way.further own.arc (IsCutAbove.here at some refl))) (λ other differs. way.others other);
    further = λ arc cut. way.further arc (IsCutAbove.above at some cut);
    lo = lo_next;
    hi = hi_next;
  }

-- ---- the ends of the way

pub sets_out : (town : Town) (kept : List KeptNode) (node : ℕ) (boxes : Boxes) → node < length kept → IsAtRest town boxes → IsOnTheWay town kept node node boxes
sets_out town kept node boxes there rest = record {
  fits = rest.fits;
  most = λ arc. omega (arith, ap (λ (r : UseRange). r.hi) (rest.ranges arc));
  others = λ arc. inl (rest.ranges arc);
  further = λ arc cut. cut;
  lo = λ nodes has arc legal. omega (arith, ap (λ (r : UseRange). r.lo) (rest.ranges arc));
  hi = λ nodes has arc legal. omega (arith, ap (λ (r : UseRange). r.hi) (rest.ranges arc), rest.fits.most, (has.sound node there).most arc legal);
}

pub arrives : (town : Town) (kept : List KeptNode) (node : ℕ) (boxes : Boxes) → IsOnTheWay town kept node 0 boxes → HasEntered town kept node boxes
arrives town kept node boxes way = record {
  fits = way.fits;
  others = way.others;
  box = λ nodes has. record {
    lo = λ arc legal. omega (arith, way.lo nodes has arc legal, has.first.lo arc legal);
    hi = λ arc legal. omega (arith, way.hi nodes has arc legal, has.first.hi arc legal, way.most arc, way.fits.most);
  };
}
