-- The arcs of a cut as the checker finds them, and rows that a pool gains.
use Rattle.std.specs.Prelude.{◌≡◌, ℕ, ◌<◌, true, not, if◌then◌else◌, ◌==◌, ℤ, pos, List, [], ◌∷◌, ◌++◌, map, length, unsigned_abs}
use Rattle.std.specs.List.{All, filter, flat_map}
use Rattle.wrp_town.specs.declared.town.Town.{Town}
use Rattle.wrp_town.specs.Arcs.{tail_of, head_of}
use Rattle.wrp_graph.specs.Stars.{out_of, into}
use Rattle.wrp_rules.specs.Ranges.{is_set}
use Rattle.wrp_rules.specs.Sets.{is_in}
use Rattle.wrp_rules.specs.Rows.{Row}
use Rattle.wrp_pool.specs.declared.row.SparseRow.{SparseRow}
use Rattle.wrp_pool.specs.declared.row.Pool.{Pool}
use Rattle.wrp_pool.specs.Members.{Members}
use Rattle.wrp_pool.specs.Pools.{IsRow}

-- a set of junctions of the town, as a record names it
pub record IsSetOf (town : Town) (members : Members) : Type 0 where
  pub among : members.among ≡ length town.junctions
  pub below : All (λ j. j < length town.junctions) members.set
  pub ascending : is_set members.set ≡ true

-- the legal arcs that leave a junction for one outside the set, and those that enter it from there
abbrev pub leaving_star : Town → List ℕ → ℕ → List ℕ
leaving_star town set j = filter (λ arc. not (is_in set (head_of town arc))) (out_of town j)

abbrev pub entering_star : Town → List ℕ → ℕ → List ℕ
entering_star town set j = filter (λ arc. not (is_in set (tail_of town arc))) (into town j)

-- 1 on each of these arcs
abbrev pub ones_on : List ℕ → List (ℕ × ℤ)
ones_on arcs = map (λ arc. (arc, pos 1)) arcs

-- the term of an arc, none where its coefficient is 0
abbrev pub term_unless_zero : ℕ → ℤ → List (ℕ × ℤ)
term_unless_zero arc coef = if unsigned_abs coef == 0 then [] else (arc, coef) ∷ []

-- the terms of arcs with these coefficients
abbrev pub terms_unless_zero : (ℕ → ℤ) → List ℕ → List (ℕ × ℤ)
terms_unless_zero coef arcs = flat_map (λ arc. term_unless_zero arc (coef arc)) arcs

-- one more row
pub record Gains (town : Town) (row : Row) (old new : Pool) : Type 0 where
  pub sparse : SparseRow
  pub added : new.rows ≡ old.rows ++ sparse ∷ []
  pub is_row : IsRow town sparse row
