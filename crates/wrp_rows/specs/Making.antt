-- What judging a cut answers, and what making its row gives.
use Rattle.std.specs.Prelude.{◌≡◌, ℕ, ◌*◌, Bool, nat_le, ℤ, List, length, Option, None, Some, Result, Ok, Err, unsigned_abs}
use Rattle.std.specs.Option.{option_map}
use Rattle.std.specs.List.{list_all}
use Rattle.wrp_sums.specs.Rounding.{ceil_div}
use Rattle.wrp_town.specs.declared.town.Town.{Town}
use Rattle.wrp_town.specs.Arcs.{legal_arcs}
use Rattle.wrp_rules.specs.declared.record.Record.{Record}
use Rattle.wrp_rules.specs.declared.rule.Rule.{Rule}
use Rattle.wrp_rules.specs.Rows.{row_of, most_coefficient}
use Rattle.wrp_rules.specs.Nodes.{Standing}
use Rattle.wrp_rules.specs.Rules.{first_broken, rules_of}
use Rattle.wrp_rows.specs.declared.fault.RowFault.{RowFault}
use Rattle.wrp_rows.specs.declared.fault.RowFault.TheVariants.{Broken, Memory}
use Rattle.wrp_rows.specs.declared.bench.Bench.{Bench}
use Rattle.wrp_rows.specs.Pools.{SparseRow, sparse_of}
use Rattle.wrp_rows.specs.Tables.{number_at, combined_coef, combined_side}

-- the first rule of its kind that a record breaks after what stands, if it breaks one
abbrev pub cut_rule : Town → Standing → Record → Option Rule
cut_rule town s item = first_broken (rules_of town s item)

-- a refusal names the rule that is broken, and there is none where none is
abbrev pub Judges : {X : Type 0} → Option Rule → Result X Rule → Type 0
Judges broken (Ok x) = broken ≡ None
Judges broken (Err rule) = broken ≡ Some rule

-- the same, where memory may be wanting
abbrev pub Refuses : {X : Type 0} → Option Rule → Result X RowFault → Type 0
Refuses broken (Ok x) = broken ≡ None
Refuses broken (Err (Broken rule)) = broken ≡ Some rule
Refuses broken (Err Memory) = Unit {0}

-- this is the row that the record adds, as it is kept
abbrev pub IsRowOf : Town → Standing → Record → SparseRow → Type 0
IsRowOf town s item row = option_map (sparse_of town) (row_of town s.rows item) ≡ Some row

-- the row that was made: the terms of the bench, and a right side
abbrev pub made : Bench → ℤ → SparseRow
made bench side = record { terms = bench.terms.items; right_side = side }

-- a mark for each junction of a town, and a sum for each arc
pub record IsBenchOf (town : Town) (bench : Bench) : Type 0 where
  pub marks : length bench.marks.items ≡ length town.junctions
  pub sums : length bench.sums.items ≡ 2 * length town.streets

-- the sums are the coefficients of a rounding of these rows, and side is its right side
pub record AreRounded
    (rows : List SparseRow) (divisor : ℕ) (mult : List (ℕ × ℕ)) (sums : List ℤ) (side : ℤ)
    : Type 0 where
  pub coefs : (arc : ℕ) → number_at sums arc ≡ ceil_div (combined_coef rows mult arc) divisor
  pub right_side : side ≡ ceil_div (combined_side rows mult) divisor

-- none of these numbers is above 2^20 in size, at legal arcs
abbrev pub are_narrow : Town → List ℤ → Bool
are_narrow town sums =
    list_all (λ arc. nat_le (unsigned_abs (number_at sums arc)) most_coefficient) (legal_arcs town)
