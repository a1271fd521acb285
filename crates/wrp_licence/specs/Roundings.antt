-- The roundings of a node at a list.
use Rattle.std.specs.Prelude.{◌≡◌, ℕ, true, List, None, IfSome}
use Rattle.wrp_town.specs.declared.town.Town.{Town}
use Rattle.wrp_rules.specs.declared.record.Record.{Record}
use Rattle.wrp_rules.specs.Rows.{row_of}
use Rattle.wrp_rules.specs.Nodes.{Standing}
use Rattle.wrp_rules.specs.Rules.{broken_rule}
use Rattle.wrp_writer.specs.Limits.{is_writable}
use Rattle.wrp_laws.specs.Points.{MeetsOver}
use Rattle.wrp_simplex.specs.Steps.{IsFeasible}
use Rattle.wrp_round.specs.Roundings.{NamesRounding, rounding_of}
use Rattle.wrp_licence.specs.Runs.{row_numbers, IsRunAt, end_at}
use Rattle.wrp_licence.specs.Hard.{IsHard}

-- the node isn't hard, its run leaves no row broken, and a row of the system there names this
-- rounding, which may be written and breaks no rule
pub record IsRounding (town : Town) (s : Standing) (node : ℕ) (item : Record) : Type 0 where
  pub soft : IsHard town s node → ⊥
  pub steps : List (ℕ × ℕ)
  pub run : IsRunAt town s node steps
  pub feasible : IsFeasible (end_at town s node steps)
  pub row : ℕ
  pub names : NamesRounding (end_at town s node steps) row
  pub is : item ≡ rounding_of (end_at town s node steps) (row_numbers s) row
  pub writable : is_writable item ≡ true
  pub valid : broken_rule town s item ≡ None

-- the numbers x over e meet the row of each rounding of the node
abbrev pub MeetsRoundings : Town → Standing → ℕ → ℕ → (ℕ → ℕ) → Type 0
MeetsRoundings town s node e x = (item : Record) → IsRounding town s node item
    → IfSome (row_of town s.rows item) (MeetsOver town e x)
