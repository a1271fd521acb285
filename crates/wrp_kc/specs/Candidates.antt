-- K-C cuts that are known by a junction: it alone is the first set, and each other part is an inner
-- one.
use Rattle.std.specs.Prelude.{◌≡◌, ◌⊎◌, ℕ, ◌+◌, ◌<◌, if◌then◌else◌, ◌==◌, nat_lt, List, [], ◌∷◌, ◌++◌, map, Option, Some, Contains}
use Rattle.std.specs.Option.{option_map_or}
use Rattle.wrp_town.specs.declared.town.Town.{Town}
use Rattle.wrp_town.specs.Arcs.{junctions}
use Rattle.wrp_rules.specs.declared.record.Record.{Record}
use Rattle.wrp_rules.specs.declared.record.Record.TheVariants.{Kc}
use Rattle.wrp_rules.specs.Nodes.{Standing}
use Rattle.wrp_rules.specs.Rows.{kc_row}
use Rattle.wrp_parts.specs.RequiredParts.{part_at}
use Rattle.wrp_rows.specs.declared.point.Point.{Point}
use Rattle.wrp_odd.specs.Points.{Breaks}
use Rattle.wrp_odd.specs.Cuts.{IsValidCut}

-- a valid Kc record that the point breaks
pub record IsBrokenKc (town : Town) (point : Point) (item : Record) : Type 0 where
  pub k : ℕ
  pub of : List ℕ
  pub is : item ≡ Kc k of
  pub valid : (s : Standing) → IsValidCut town s item
  pub broken : Breaks town point (kc_row town k of)

-- the set of a part: the last one for the junction's own part, and 1, 2 and so on for the others in
-- their order
abbrev pub set_of_part : ℕ → ℕ → ℕ → ℕ
set_of_part count own part =
    if part == own then count else if nat_lt part own then part + 1 else part

-- the set of junction j: 0 for the junction u itself, and the last one where j has no part
abbrev pub set_at : ℕ → List (Option ℕ) → ℕ → ℕ → ℕ → ℕ
set_at count of own u j =
    if j == u then 0 else option_map_or (set_of_part count own) (part_at of j) count

-- the sets of all junctions, for junction u of part own
abbrev pub sets_for : Town → ℕ → List (Option ℕ) → ℕ → ℕ → List ℕ
sets_for town count of own u = map (set_at count of own u) (junctions town)

-- the record of junction u of part own
abbrev pub candidate : Town → ℕ → List (Option ℕ) → ℕ → ℕ → Record
candidate town count of own u = Kc count (sets_for town count of own u)

-- the records of the junctions below a number that are valid and broken are there
abbrev pub HasCandidates : Town → Point → ℕ → List (Option ℕ) → ℕ → List Record → Type 0
HasCandidates town point count of below items = (u own : ℕ) → u < below
    → part_at of u ≡ Some own → IsBrokenKc town point (candidate town count of own u)
    → Contains items (candidate town count of own u)

-- a record is added where it is valid and broken
abbrev pub IsAdded : Town → Point → Record → List Record → List Record → Type 0
IsAdded town point item old new =
    (IsBrokenKc town point item × (new ≡ old ++ item ∷ []))
    ⊎ ((IsBrokenKc town point item → ⊥) × (new ≡ old))
