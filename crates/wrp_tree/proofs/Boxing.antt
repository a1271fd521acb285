-- The bounds on the way from a node to the root.
use Rattle.std.proofs.Common.{◌≡◌, ℕ, ◌*◌, ◌<◌, ◌≤◌, min, max, Bool, true, false, ◌⊎◌, inl, inr, List, length, get_or, ap, refl, sym, ◌∙◌, subst, arith, get_or-set_same, get_or-set_other}
use Rattle.std.proofs.Math.ListN.{length-set}
use Rattle.std.proofs.lemmas.Bool.{cases_eq, cases_lt, false≢true}
use Rattle.std.proofs.lemmas.List.{get_or_past}
use Rattle.wrp_town.specs.declared.town.Town.{Town}
use Rattle.wrp_town.specs.Arcs.{is_legal, demands}
use Rattle.wrp_town.proofs.TownLaws.{legal_below}
use Rattle.wrp_rules.specs.Nodes.{Node}
use Rattle.wrp_nodes.specs.declared.kept.KeptNode.{KeptNode}
use Rattle.wrp_nodes.specs.declared.kept.UseRange.{UseRange}
use Rattle.wrp_nodes.specs.declared.kept.Cut.{Cut}
use Rattle.wrp_nodes.specs.declared.kept.Cut.TheVariants.{AtLeast, AtMost}
use Rattle.wrp_nodes.specs.Kept.{node_in, kept_at, cut_range, HasNodes}
use Rattle.wrp_nodes.proofs.Entering.{cut_lo_here, cut_hi_here, cut_lo_elsewhere, cut_hi_elsewhere}
use Rattle.wrp_rows.specs.declared.point.Bounds.{Bounds}
use Rattle.wrp_rows.specs.Points.{AreBounds, AreBoundsOf}
use Rattle.wrp_tree.specs.Boxes.{FitBounds, AreWhole, cut_bounds}

abbrev lo_at : Bounds → ℕ → ℕ
lo_at bounds arc = get_or bounds.lo arc 0

abbrev hi_at : Bounds → ℕ → ℕ
hi_at bounds arc = get_or bounds.hi arc 0

-- the box of the node is what the bounds leave of the box of the place that was reached
pub record IsOnTheWay (town : Town) (kept : List KeptNode) (node at : ℕ) (bounds : Bounds) : Type 0 where
  pub fit : FitBounds town bounds
  pub most : (arc : ℕ) → hi_at bounds arc ≤ length (demands town)
  pub illegal : (nodes : List Node) → HasNodes town kept nodes → (arc : ℕ) → is_legal town arc ≡ false → (lo_at bounds arc ≡ 0) × (hi_at bounds arc ≡ 0)
  pub lo : (nodes : List Node) → HasNodes town kept nodes → (arc : ℕ) → is_legal town arc ≡ true → max (lo_at bounds arc) ((node_in town nodes at).lo arc) ≡ (node_in town nodes node).lo arc
  pub hi : (nodes : List Node) → HasNodes town kept nodes → (arc : ℕ) → is_legal town arc ≡ true → min (hi_at bounds arc) ((node_in town nodes at).hi arc) ≡ (node_in town nodes node).hi arc

-- the range of an arc
abbrev range_in : Bounds → ℕ → UseRange
range_in bounds arc = record { lo = lo_at bounds arc; hi = hi_at bounds arc }

-- what a cut makes of the ranges
here : (cut : Cut) (arc : ℕ) (bounds : Bounds) → arc < length bounds.lo → arc < length bounds.hi → (lo_at (cut_bounds cut arc bounds) arc ≡ (cut_range cut (range_in bounds arc)).lo) × (hi_at (cut_bounds cut arc bounds) arc ≡ (cut_range cut (range_in bounds arc)).hi)
here (AtLeast k) arc bounds inside inside_too = (get_or-set_same bounds.lo arc (max (lo_at bounds arc) k) 0 inside, refl)
here (AtMost k) arc bounds inside inside_too = (refl, get_or-set_same bounds.hi arc (min (hi_at bounds arc) k) 0 inside_too)

elsewhere : (cut : Cut) (arc other : ℕ) (bounds : Bounds) → (other ≡ arc → ⊥) → (lo_at (cut_bounds cut arc bounds) other ≡ lo_at bounds other) × (hi_at (cut_bounds cut arc bounds) other ≡ hi_at bounds other)
elsewhere (AtLeast k) arc other bounds differs = (get_or-set_other bounds.lo arc other (max (lo_at bounds arc) k) 0 differs, refl)
elsewhere (AtMost k) arc other bounds differs = (refl, get_or-set_other bounds.hi arc other (min (hi_at bounds arc) k) 0 differs)

fits : (cut : Cut) (arc : ℕ) (town : Town) (bounds : Bounds) → FitBounds town bounds → FitBounds town (cut_bounds cut arc bounds)
fits (AtLeast k) arc town bounds fit = record { long_lo = length-set bounds.lo arc (max (lo_at bounds arc) k) ∙ fit.long_lo; long_hi = fit.long_hi }
fits (AtMost k) arc town bounds fit = record { long_lo = fit.long_lo; long_hi = length-set bounds.hi arc (min (hi_at bounds arc) k) ∙ fit.long_hi }

cut_falls : (cut : Cut) (range : UseRange) → (cut_range cut range).hi ≤ range.hi
cut_falls (AtLeast k) range = omega arith
cut_falls (AtMost k) range = omega arith

module _ (town : Town) (kept : List KeptNode) (node at : ℕ) (bounds : Bounds) (some : 0 < at) (there : at < length kept) (inside : (kept_at kept at).arc < 2 * length town.streets) (way : IsOnTheWay town kept node at bounds) where
  abbrev own : KeptNode
  own = kept_at kept at

  abbrev next : Bounds
  next = cut_bounds own.cut own.arc bounds

  now : (lo_at next own.arc ≡ (cut_range own.cut (range_in bounds own.arc)).lo) × (hi_at next own.arc ≡ (cut_range own.cut (range_in bounds own.arc)).hi)
  now = here own.cut own.arc bounds (omega (arith, way.fit.long_lo)) (omega (arith, way.fit.long_hi))

  most_next : (arc : ℕ) → hi_at next arc ≤ length (demands town)
  most_next arc = elim (cases_eq arc own.arc) [
    | inl same ↦ omega (arith, ap (hi_at next) same, now.1, cut_falls own.cut (range_in bounds own.arc), way.most own.arc)
    | inr differs ↦ omega (arith, (elsewhere own.cut own.arc arc bounds differs).1, way.most arc)
  ]

  illegal_next : (nodes : List Node) → HasNodes town kept nodes → (arc : ℕ) → is_legal town arc ≡ false → (lo_at next arc ≡ 0) × (hi_at next arc ≡ 0)
  illegal_next nodes has arc illegal = elim (cases_eq arc own.arc) [
    | inl same ↦ absurd (false≢true (sym illegal ∙ ap (is_legal town) same ∙ (has.others at some there).arc))
    | inr differs ↦ (omega (arith, (elsewhere own.cut own.arc arc bounds differs).0, (way.illegal nodes has arc illegal).0), omega (arith, (elsewhere own.cut own.arc arc bounds differs).1, (way.illegal nodes has arc illegal).1))
  ]

  lo_next : (nodes : List Node) → HasNodes town kept nodes → (arc : ℕ) → is_legal town arc ≡ true → max (lo_at next arc) ((node_in town nodes own.parent).lo arc) ≡ (node_in town nodes node).lo arc
  lo_next nodes has arc legal =
      let cut = has.others at some there in
      elim (cases_eq arc own.arc) [
        | inl same ↦ subst (λ (a : ℕ). max (lo_at next a) ((node_in town nodes own.parent).lo a) ≡ (node_in town nodes node).lo a) (sym same)
            (ap (λ (n : ℕ). max n ((node_in town nodes own.parent).lo own.arc)) now.0
            ∙ cut_lo_here own.cut own.arc (node_in town nodes own.parent) (range_in bounds own.arc) ((node_in town nodes at).lo own.arc) ((node_in town nodes node).lo own.arc) (cut.within.lo own.arc cut.arc) (cut.box.lo own.arc cut.arc) (way.lo nodes has own.arc cut.arc))
        | inr differs ↦ omega (arith, (elsewhere own.cut own.arc arc bounds differs).0, cut.box.lo arc legal, cut_lo_elsewhere own.cut own.arc arc (node_in town nodes own.parent) differs, way.lo nodes has arc legal)
      ]

  hi_next : (nodes : List Node) → HasNodes town kept nodes → (arc : ℕ) → is_legal town arc ≡ true → min (hi_at next arc) ((node_in town nodes own.parent).hi arc) ≡ (node_in town nodes node).hi arc
  hi_next nodes has arc legal =
      let cut = has.others at some there in
      elim (cases_eq arc own.arc) [
        | inl same ↦ subst (λ (a : ℕ). min (hi_at next a) ((node_in town nodes own.parent).hi a) ≡ (node_in town nodes node).hi a) (sym same)
            (ap (λ (n : ℕ). min n ((node_in town nodes own.parent).hi own.arc)) now.1
            ∙ cut_hi_here own.cut own.arc (node_in town nodes own.parent) (range_in bounds own.arc) ((node_in town nodes at).hi own.arc) ((node_in town nodes node).hi own.arc) (cut.within.hi own.arc cut.arc) (cut.box.hi own.arc cut.arc) (way.hi nodes has own.arc cut.arc))
        | inr differs ↦ omega (arith, (elsewhere own.cut own.arc arc bounds differs).1, cut.box.hi arc legal, cut_hi_elsewhere own.cut own.arc arc (node_in town nodes own.parent) differs, way.hi nodes has arc legal)
      ]

  pub one_further : IsOnTheWay town kept node own.parent next
  one_further = record { fit = fits own.cut own.arc town bounds way.fit; most = most_next; illegal = illegal_next; lo = lo_next; hi = hi_next }

pub sets_out : (town : Town) (kept : List KeptNode) (node : ℕ) (bounds : Bounds) → node < length kept → AreWhole town bounds → IsOnTheWay town kept node node bounds
sets_out town kept node bounds there whole = record {
  fit = whole.fit;
  most = λ arc. by arc (is_legal town arc) refl;
  illegal = λ nodes has arc illegal. (whole.lo arc, whole.illegal arc illegal);
  lo = λ nodes has arc legal. omega (arith, whole.lo arc);
  hi = λ nodes has arc legal. omega (arith, whole.legal arc legal, (has.sound node there).most arc legal);
}
  where
    by : (arc : ℕ) (t : Bool) → is_legal town arc ≡ t → hi_at bounds arc ≤ length (demands town)
    by arc true legal = omega (arith, whole.legal arc legal)
    by arc false illegal = omega (arith, whole.illegal arc illegal)

module _ (town : Town) (kept : List KeptNode) (node : ℕ) (bounds : Bounds) (way : IsOnTheWay town kept node 0 bounds) (there : node < length kept) (nodes : List Node) (has : HasNodes town kept nodes) where
  pub arrives_box : AreBoundsOf town (node_in town nodes node) bounds
  arrives_box = record {
    lo = λ arc legal. omega (arith, way.lo nodes has arc legal, has.first.lo arc legal);
    hi = λ arc legal. omega (arith, way.hi nodes has arc legal, has.first.hi arc legal, way.most arc);
  }

  pub arrives_bounds : AreBounds town bounds
  arrives_bounds = record {
    long_lo = way.fit.long_lo;
    long_hi = way.fit.long_hi;
    ordered = λ arc. by arc (is_legal town arc) refl;
    low = way.most;
    illegal = λ arc illegal. (way.illegal nodes has arc illegal).1;
  }
    where
      by : (arc : ℕ) (t : Bool) → is_legal town arc ≡ t → lo_at bounds arc ≤ hi_at bounds arc
      by arc true legal = omega (arith, arrives_box.lo arc legal, arrives_box.hi arc legal, (has.sound node there).some arc legal)
      by arc false illegal = omega (arith, way.illegal nodes has arc illegal)

-- every range is whole, also those past the last arc
pub whole_from : (town : Town) (bounds : Bounds) (n : ℕ) → n ≡ 2 * length town.streets → FitBounds town bounds → ((arc : ℕ) → arc < n → lo_at bounds arc ≡ 0)
    → ((arc : ℕ) → arc < n → is_legal town arc ≡ true → hi_at bounds arc ≡ length (demands town)) → ((arc : ℕ) → arc < n → is_legal town arc ≡ false → hi_at bounds arc ≡ 0) → AreWhole town bounds
whole_from town bounds n all fit lo legal illegal = record {
  fit = fit;
  lo = λ arc. by arc (cases_lt arc n);
  legal = λ arc is. legal arc (omega (arith, legal_below town arc is, all)) is;
  illegal = λ arc is. past arc is (cases_lt arc n);
}
  where
    by : (arc : ℕ) → (arc < n) ⊎ (n ≤ arc) → lo_at bounds arc ≡ 0
    by arc (inl below) = lo arc below
    by arc (inr above) = get_or_past bounds.lo arc 0 (omega (arith, fit.long_lo, all))

    past : (arc : ℕ) → is_legal town arc ≡ false → (arc < n) ⊎ (n ≤ arc) → hi_at bounds arc ≡ 0
    past arc is (inl below) = illegal arc below is
    past arc is (inr above) = get_or_past bounds.hi arc 0 (omega (arith, fit.long_hi, all))
