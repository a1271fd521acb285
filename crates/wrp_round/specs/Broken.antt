-- Round records that a point breaks.
use Rattle.std.specs.Prelude.{◌≡◌, ℕ, List, Contains}
use Rattle.wrp_town.specs.declared.town.Town.{Town}
use Rattle.wrp_rules.specs.declared.record.Record.{Record}
use Rattle.wrp_rules.specs.declared.record.Record.TheVariants.{Round}
use Rattle.wrp_rules.specs.Rows.{round_row}
use Rattle.wrp_rules.specs.Nodes.{Standing}
use Rattle.wrp_rows.specs.declared.point.Point.{Point}
use Rattle.wrp_tableau.specs.Systems.{System}
use Rattle.wrp_odd.specs.Points.{Breaks}
use Rattle.wrp_odd.specs.Cuts.{IsValidCut}
use Rattle.wrp_round.specs.Roundings.{NamesRounding, rounding_of}

-- a valid Round record that the point breaks
pub record IsBrokenRounding (town : Town) (s : Standing) (point : Point) (item : Record) : Type 0
  where
    pub divisor : ℕ
    pub mult : List (ℕ × ℕ)
    pub round : item ≡ Round divisor mult
    pub valid : IsValidCut town s item
    pub broken : Breaks town point (round_row s.rows divisor mult)

-- each rounding that a row of the table names is found, where it is valid and the point breaks it
abbrev pub AreFound : Town → Standing → Point → System → List ℕ → List Record → Type 0
AreFound town s point table chosen found =
    (r : ℕ) → NamesRounding table r
    → IsBrokenRounding town s point (rounding_of table chosen r)
    → Contains found (rounding_of table chosen r)
