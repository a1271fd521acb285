-- The value of multipliers in the box of a node, arc by arc.
use Rattle.std.specs.Prelude.{◌≡◌, ℕ, ◌*◌, ◌<◌, true, ℤ, pos, ◌+ℤ◌, ◌-ℤ◌, List, length}
use Rattle.wrp_sums.specs.Sums.{sum_over}
use Rattle.wrp_sums.specs.Duality.{combine_rows, least_term}
use Rattle.wrp_town.specs.declared.town.Town.{Town}
use Rattle.wrp_town.specs.Arcs.{is_legal, legal_arcs, cost_or_zero}
use Rattle.wrp_rules.specs.Rows.{Row, row_at}
use Rattle.wrp_rules.specs.Nodes.{Node}
use Rattle.wrp_pool.specs.declared.tally.Tally.{Tally}
use Rattle.wrp_pool.specs.Tallies.{number_of, is_listed, IsTally}
use Rattle.wrp_nodes.specs.declared.kept.KeptNode.{KeptNode}
use Rattle.wrp_nodes.specs.declared.boxes.Boxes.{Boxes}
use Rattle.wrp_nodes.specs.Kept.{kept_at}
use Rattle.wrp_nodes.specs.Tables.{range_at, IsCutAbove}

-- the least that the uses of an arc cost in the box of the table, where a number was taken off its
-- cost; the scale is a denominator, or 0 for no costs
abbrev pub term_at : Town → Boxes → Tally → ℕ → ℕ → ℤ
term_at town boxes tally scale arc =
    least_term (pos (scale * cost_or_zero town arc) -ℤ number_of tally arc)
    (range_at boxes arc).lo (range_at boxes arc).hi

-- the arc whose range each node but the root cuts is legal
abbrev pub AreCutsLegal : Town → List KeptNode → Type 0
AreCutsLegal town kept =
    (i : ℕ) → 0 < i → i < length kept → is_legal town (kept_at kept i).arc ≡ true

-- the arcs that are cut on the way from a node to the root are listed too, and no number changed
pub record ListsCut (town : Town) (kept : List KeptNode) (node : ℕ) (old new : Tally) : Type 0 where
  pub is_tally : IsTally town new
  pub same : new.numbers.items ≡ old.numbers.items
  pub listed : (arc : ℕ) → IsCutAbove kept arc node → is_listed new arc ≡ true

-- the value of multipliers in the box of a node, at these costs times the scale
abbrev pub priced_value : Town → List Row → Node → ℕ → List (ℕ × ℕ) → ℤ
priced_value town rows node scale multipliers =
    combine_rows multipliers (λ i. (row_at rows i).right_side)
    +ℤ sum_over (λ arc. least_term
    (pos (scale * cost_or_zero town arc)
    -ℤ combine_rows multipliers (λ i. (row_at rows i).coef arc))
    (node.lo arc) (node.hi arc)) (legal_arcs town)
