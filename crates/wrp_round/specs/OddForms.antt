-- The Round form of an odd cut.
use Rattle.std.specs.Prelude.{◌≡◌, ℕ, nat_le, if◌then◌else◌, List, ◌++◌, map, length}
use Rattle.std.specs.List.{filter, enumerate_from}
use Rattle.std.specs.Option.{IfSome}
use Rattle.wrp_town.specs.declared.town.Town.{Town}
use Rattle.wrp_town.specs.Arcs.{demands}
use Rattle.wrp_rules.specs.declared.record.Record.{Record}
use Rattle.wrp_rules.specs.declared.record.Record.TheVariants.{Odd, Round}
use Rattle.wrp_rules.specs.Sets.{crosses, arc_at}
use Rattle.wrp_rules.specs.Rows.{Row, base_rows, row_of}
use Rattle.wrp_rules.specs.Ranges.{most_multipliers}
use Rattle.wrp_rules.specs.Nodes.{Standing}
use Rattle.wrp_rows.specs.declared.point.Point.{Point}
use Rattle.wrp_odd.specs.Points.{Breaks}
use Rattle.wrp_odd.specs.Cuts.{IsValidCut}

-- the rows of the demands that cross a set, where the rows of demands are numbered from `first` on
abbrev pub crossing_rows : Town → List ℕ → ℕ → List (List ℕ) → List ℕ
crossing_rows town set first demands =
    map (λ p. p.0) (filter (λ p. crosses town set (arc_at p.1)) (enumerate_from first demands))

-- the balance rows of a set's junctions, and the service rows of the demands that cross it
abbrev pub form_rows : Town → List ℕ → List ℕ
form_rows town set = set ++ crossing_rows town set (length town.junctions) (demands town)

-- each row once
abbrev pub ones : List ℕ → List (ℕ × ℕ)
ones rows = map (λ row. (row, 1)) rows

-- these rows, halved
abbrev pub round_form : Town → List ℕ → Record
round_form town set = Round 2 (ones (form_rows town set))

-- the Round form of an odd cut, where it hasn't too many multipliers
abbrev pub odd_form : Town → List ℕ → Record
odd_form town set =
    if nat_le (length (form_rows town set)) most_multipliers then round_form town set else Odd set

-- the rows of the town stand first
pub record HasBaseRows (town : Town) (s : Standing) : Type 0 where
  pub others : List Row
  pub rows : s.rows ≡ base_rows town ++ others

-- a valid cut that the point breaks
pub record IsBrokenCut (town : Town) (s : Standing) (point : Point) (item : Record) : Type 0 where
  pub valid : IsValidCut town s item
  pub broken : IfSome (row_of town s.rows item) (Breaks town point)

-- a valid Odd record
pub record IsOddCut (town : Town) (item : Record) : Type 0 where
  pub set : List ℕ
  pub odd : item ≡ Odd set
  pub valid : (s : Standing) → IsValidCut town s item
