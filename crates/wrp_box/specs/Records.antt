-- The record of what a relaxation shows of its node.
use Rattle.std.specs.Prelude.{◌≡◌, ℕ, ⊤, true, ◌⊎◌, pos, Option, None, Some}
use Rattle.wrp_rules.specs.declared.record.Record.{Record}
use Rattle.wrp_rules.specs.declared.record.Record.TheVariants as records
use Rattle.wrp_writer.specs.Limits.{is_writable}
use Rattle.wrp_lp.specs.declared.lp.Lp.{Lp}
use Rattle.wrp_lp.specs.declared.lp.Lp.TheVariants.{Optimal, Empty, Wide, Pivots}
use Rattle.wrp_bound.specs.Mults.{without_zeros, FitABound}
use Rattle.wrp_odd.specs.Points.{denominator_of}

-- a bound of this node, or that no tour is within it
abbrev pub IsBoundOrEmpty : ℕ → Record → Type 0
IsBoundOrEmpty node (records.Bound n den mult) = n ≡ node
IsBoundOrEmpty node (records.Empty n mult) = n ≡ node
IsBoundOrEmpty node item = ⊥

-- such a record, which may be written
pub record IsShownRecord (node : ℕ) (item : Record) : Type 0 where
  pub shows : IsBoundOrEmpty node item
  pub writable : is_writable item ≡ true

-- an answer of a relaxation gives no record of its node
abbrev pub FitsNone : Lp → Type 0
FitsNone (Optimal point mult table taken) = FitABound point.den mult → ⊥
FitsNone (Empty mult taken) = FitABound (pos 1) mult → ⊥
FitsNone (Wide taken) = ⊤
FitsNone (Pivots taken) = ⊤

-- the record is exactly what the answer says: its multipliers without the zeros
abbrev pub IsExact : ℕ → Lp → Record → Type 0
IsExact node (Optimal point mult table taken) item =
    item ≡ records.Bound node (denominator_of point) (without_zeros mult)
IsExact node (Empty mult taken) item = item ≡ records.Empty node (without_zeros mult)
IsExact node lp item = ⊥

-- what is shown is exact, or nothing of the answer fits a record
abbrev pub IsShown : ℕ → Lp → Option Record → Type 0
IsShown node lp None = FitsNone lp
IsShown node lp (Some item) = IsShownRecord node item × (IsExact node lp item ⊎ FitsNone lp)
