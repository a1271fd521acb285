-- The tables of a point at rest.
use Rattle.std.specs.Prelude.{◌≡◌, ℕ, ◌*◌, List, [], map, length}
use Rattle.wrp_town.specs.declared.town.Town.{Town}
use Rattle.wrp_town.specs.Arcs.{demands}
use Rattle.wrp_points.specs.declared.tables.Tables.{Tables}
use Rattle.wrp_points.specs.Points.{HasNumbers}
use Rattle.wrp_points.specs.Balances.{HasSurplus}
use Rattle.wrp_points.specs.Demands.{arcs_of}

-- they fit the town and have the number of each arc, and every surplus is 0
pub record HaveNumbers (town : Town) (pairs : List (ℕ × ℕ)) (tables : Tables) : Type 0 where
  pub arcs : length tables.numbers.items ≡ 2 * length town.streets
  pub junctions : length tables.surplus.items ≡ length town.junctions
  pub numbers : HasNumbers pairs tables.numbers.items
  pub surplus : HasSurplus town [] tables.surplus.items
  pub demands : map arcs_of tables.demands ≡ demands town

-- every number is 0 too
abbrev pub AreClear : Town → Tables → Type 0
AreClear town tables = HaveNumbers town [] tables
