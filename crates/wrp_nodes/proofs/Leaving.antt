-- Out of the box of a node, along the way to the root.
use Rattle.std.proofs.Common.{◌≡◌, ℕ, ◌<◌, true, ◌⊎◌, inl, inr, List, length, ap, refl, sym, ◌∙◌, arith}
use Rattle.wrp_town.specs.declared.town.Town.{Town}
use Rattle.wrp_town.specs.Arcs.{is_legal}
use Rattle.wrp_rules.specs.Nodes.{Node}
use Rattle.wrp_nodes.specs.declared.kept.KeptNode.{KeptNode}
use Rattle.wrp_nodes.specs.declared.boxes.Boxes.{Boxes}
use Rattle.wrp_nodes.specs.Kept.{kept_at, HasNodes}
use Rattle.wrp_nodes.specs.Tables.{whole_range, range_at, IsCutAbove, AreCutAbove}
use Rattle.wrp_nodes.proofs.Entering.{with_range, at_each}

-- a cut on the way is the node's own, or above its parent
above_parent : (kept : List KeptNode) (arc at : ℕ) → (arc ≡ (kept_at kept at).arc → ⊥) → IsCutAbove kept arc at → IsCutAbove kept arc (kept_at kept at).parent
above_parent kept arc _ differs (IsCutAbove.here at some is) = absurd (differs (sym is))
above_parent kept arc _ differs (IsCutAbove.above at some cut) = cut

pub one_whole : (kept : List KeptNode) (at : ℕ) (boxes : Boxes) → (kept_at kept at).arc < length boxes.ranges → AreCutAbove kept at boxes → AreCutAbove kept (kept_at kept at).parent (with_range boxes (kept_at kept at).arc (whole_range boxes))
one_whole kept at boxes inside cut =
    at_each (λ a r. (r ≡ whole_range boxes) ⊎ IsCutAbove kept a (kept_at kept at).parent) boxes (kept_at kept at).arc (whole_range boxes) inside
    (inl refl)
    (λ other differs. by other differs (cut other))
  where
    by : (other : ℕ) → (other ≡ (kept_at kept at).arc → ⊥) → (range_at boxes other ≡ whole_range boxes) ⊎ IsCutAbove kept other at → (range_at boxes other ≡ whole_range boxes) ⊎ IsCutAbove kept other (kept_at kept at).parent
    by other differs (inl whole) = inl whole
    by other differs (inr cut_above) = inr (above_parent kept other at differs cut_above)

nothing_above : (kept : List KeptNode) (arc at : ℕ) → at ≡ 0 → IsCutAbove kept arc at → ⊥
nothing_above kept arc _ zero (IsCutAbove.here at some is) = omega arith
nothing_above kept arc _ zero (IsCutAbove.above at some cut) = omega arith

pub all_whole : (kept : List KeptNode) (boxes : Boxes) → AreCutAbove kept 0 boxes → (arc : ℕ) → range_at boxes arc ≡ whole_range boxes
all_whole kept boxes cut arc = elim (cut arc) [ inl whole ↦ whole | inr cut_above ↦ absurd (nothing_above kept arc 0 refl cut_above) ]

-- the arcs that are cut on the way are legal
pub legal_above : (town : Town) (kept : List KeptNode) (nodes : List Node) (arc at : ℕ) → HasNodes town kept nodes → at < length kept → IsCutAbove kept arc at → is_legal town arc ≡ true
legal_above town kept nodes arc _ has there (IsCutAbove.here at some is) = ap (is_legal town) (sym is) ∙ (has.others at some there).arc
legal_above town kept nodes arc _ has there (IsCutAbove.above at some cut) =
    legal_above town kept nodes arc (kept_at kept at).parent has (omega (arith, has.linked.parent at some there)) cut
