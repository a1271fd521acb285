-- Rows as they are kept: the coefficients that aren't 0, by arc, and the right side.
use Rattle.std.specs.Prelude.{◌≡◌, ℕ, ◌+◌, Bool, ◌&&◌, not, ◌==◌, ℤ, pos, if◌then◌else◌, List, [], ◌∷◌, ◌++◌, map, length, slice_index_or, Option, None, unsigned_abs}
use Rattle.std.specs.Option.{option_map, option_to_list}
use Rattle.std.specs.List.{filter, count_by}
use Rattle.wrp_town.specs.declared.town.Town.{Town}
use Rattle.wrp_town.specs.Arcs.{arcs, is_legal}
use Rattle.wrp_rules.specs.declared.record.Record.{Record}
use Rattle.wrp_rules.specs.Rows.{Row, base_rows, row_of}
use Rattle.wrp_rules.specs.Nodes.{Standing}
use Rattle.wrp_rules.specs.Rules.{is_cut}

pub record SparseRow : Type 0 where
  pub terms : List (ℕ × ℤ)
  pub right_side : ℤ

-- the arc is legal and its coefficient isn't 0
abbrev pub is_term : Town → (ℕ → ℤ) → ℕ → Bool
is_term town coef arc = is_legal town arc && not (unsigned_abs (coef arc) == 0)

-- these arcs, ascending, each with its coefficient
abbrev pub terms_of : Town → (ℕ → ℤ) → List (ℕ × ℤ)
terms_of town coef = map (λ arc. (arc, coef arc)) (filter (is_term town coef) (arcs town))

-- a row as it is kept
abbrev pub sparse_of : Town → Row → SparseRow
sparse_of town row = record { terms = terms_of town row.coef; right_side = row.right_side }

-- the coefficient of an arc, 0 where it is illegal
abbrev pub legal_coef : Town → Row → ℕ → ℤ
legal_coef town row arc = if is_legal town arc then row.coef arc else pos 0

-- the rows of a town, and one that is prepared to follow them
pub record RowPool : Type 0 where
  pub town : Town
  pub rows : List SparseRow
  pub prepared : Option SparseRow

-- the row of this number; 0 at least 0 where there is none
abbrev pub sparse_at : List SparseRow → ℕ → SparseRow
sparse_at rows i = slice_index_or rows i (record { terms = []; right_side = pos 0 })

-- the rows of a town before any cut
abbrev pub base_pool : Town → RowPool
base_pool town =
    record { town = town; rows = map (sparse_of town) (base_rows town); prepared = None }

-- the same rows with none prepared
abbrev pub unprepared : RowPool → RowPool
unprepared pool = record { town = pool.town; rows = pool.rows; prepared = None }

-- the prepared row follows the others
abbrev pub committed : RowPool → RowPool
committed pool =
    record { town = pool.town; rows = pool.rows ++ option_to_list pool.prepared; prepared = None }

-- the rows are those of what stands, in order: those of the town, and one for each cut
pub record HasRowsOf (s : Standing) (pool : RowPool) : Type 0 where
  pub rows : pool.rows ≡ map (sparse_of pool.town) s.rows
  pub cuts : length s.rows ≡ length (base_rows pool.town) + count_by is_cut s.records

-- the row that the record adds to what stands is prepared
abbrev pub HasPrepared : Standing → Record → RowPool → Type 0
HasPrepared s item pool =
    pool.prepared ≡ option_map (sparse_of pool.town) (row_of pool.town s.rows item)

-- a row follows those of before, and none is prepared
pub record HasOneMore (old new : RowPool) : Type 0 where
  pub town : new.town ≡ old.town
  pub row : SparseRow
  pub rows : new.rows ≡ old.rows ++ row ∷ []
  pub prepared : new.prepared ≡ None
