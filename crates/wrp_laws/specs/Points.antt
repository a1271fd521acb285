-- Numbers of arcs over a denominator, as a point of the search has them.
use Rattle.std.specs.Prelude.{◌≡◌, ℕ, ◌≤◌, ◌<◌, true, ◌*◌, ℤ, pos, ◌*ℤ◌, ◌≤ℤ◌, List}
use Rattle.std.specs.List.{All}
use Rattle.wrp_sums.specs.Sums.{sum_over}
use Rattle.wrp_sums.specs.Rounding.{ceil_div}
use Rattle.wrp_town.specs.declared.town.Town.{Town}
use Rattle.wrp_town.specs.Arcs.{is_legal, legal_arcs, cost_or_zero}
use Rattle.wrp_rules.specs.Rows.{Row}
use Rattle.wrp_rules.specs.Nodes.{Node}

-- the numbers x over e meet the row
abbrev pub MeetsOver : Town → ℕ → (ℕ → ℕ) → Row → Type 0
MeetsOver town e x row =
    (pos e *ℤ row.right_side)
    ≤ℤ sum_over (λ arc. row.coef arc *ℤ pos (x arc)) (legal_arcs town)

-- they lie in the node's box and meet all rows
pub record IsPointOf
    (town : Town) (rows : List Row) (node : Node) (e : ℕ) (x : ℕ → ℕ)
    : Type 0 where
  pub positive : 0 < e
  pub at_least : (arc : ℕ) → is_legal town arc ≡ true → node.lo arc * e ≤ x arc
  pub at_most : (arc : ℕ) → is_legal town arc ≡ true → x arc ≤ node.hi arc * e
  pub meets : All (MeetsOver town e x) rows

-- what they cost over e, rounded up
abbrev pub price : Town → ℕ → (ℕ → ℕ) → ℤ
price town e x =
    ceil_div (sum_over (λ arc. pos (cost_or_zero town arc * x arc)) (legal_arcs town)) e
