-- Candidates as they are gathered.
use Rattle.std.specs.Prelude.{ℕ, ◌<◌, List, map, Contains}
use Rattle.std.specs.List.{All}
use Rattle.wrp_town.specs.declared.town.Town.{Town}
use Rattle.wrp_rules.specs.declared.record.Record.{Record}
use Rattle.wrp_rules.specs.Nodes.{Standing}
use Rattle.wrp_rows.specs.declared.point.Point.{Point}
use Rattle.wrp_tableau.specs.Systems.{System}
use Rattle.wrp_round.specs.declared.candidates.Candidate.{Candidate}
use Rattle.wrp_round.specs.Roundings.{NamesRounding, rounding_of}
use Rattle.wrp_round.specs.Broken.{IsBrokenRounding}

-- the records of candidates
abbrev pub records_of : List Candidate → List Record
records_of found = map (λ c. c.item) found

-- the candidates are broken, and the roundings that the first n rows name are among them, where
-- they are broken
pub record IsGathered
    (town : Town) (s : Standing) (point : Point) (table : System) (chosen : List ℕ) (n : ℕ)
    (found : List Candidate) : Type 0 where
  pub broken : All (IsBrokenRounding town s point) (records_of found)
  pub named : (r : ℕ) → r < n → NamesRounding table r
      → IsBrokenRounding town s point (rounding_of table chosen r)
      → Contains (records_of found) (rounding_of table chosen r)

-- the record is added where it is broken, and nothing else changes
pub record IsAdded
    (town : Town) (s : Standing) (point : Point) (item : Record) (old new : List Candidate)
    : Type 0 where
  pub broken : All (IsBrokenRounding town s point) (records_of old)
      → All (IsBrokenRounding town s point) (records_of new)
  pub kept : (other : Record) → Contains (records_of old) other → Contains (records_of new) other
  pub found : IsBrokenRounding town s point item → Contains (records_of new) item

-- the rounding that a row names is added where it is broken, and nothing else changes
pub record IsRowAdded
    (town : Town) (s : Standing) (point : Point) (table : System) (chosen : List ℕ) (r : ℕ)
    (old new : List Candidate) : Type 0 where
  pub broken : All (IsBrokenRounding town s point) (records_of old)
      → All (IsBrokenRounding town s point) (records_of new)
  pub kept : (other : Record) → Contains (records_of old) other → Contains (records_of new) other
  pub named : NamesRounding table r → IsBrokenRounding town s point (rounding_of table chosen r)
      → Contains (records_of new) (rounding_of table chosen r)
