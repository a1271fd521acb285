-- What the checker keeps of the records so far, and what it says of one more line.
use Rattle.std.specs.Prelude.{◌≡◌, ℕ, ◌*◌, Bool, true, false, ◌&&◌, not, if◌then◌else◌, ◌==◌, List, [], ◌∷◌, length, Option, None, Some, Result, Ok, Err}
use Rattle.std.specs.Option.{option_map_or}
use Rattle.std.specs.List.{list_any, count_by, last_or}
use Rattle.wrp_town.specs.declared.town.Town.{Town}
use Rattle.wrp_rules.specs.declared.record.Record.{Record}
use Rattle.wrp_rules.specs.declared.record.Record.TheVariants.{Point, Blind}
use Rattle.wrp_rules.specs.declared.rule.Rule.{Rule}
use Rattle.wrp_rules.specs.declared.rule.Rule.TheVariants as rules
use Rattle.wrp_rules.specs.Nodes.{Standing, after}
use Rattle.wrp_rules.specs.Rules.{is_labels, is_cut, is_alone, leads_to_split, node_is_there, rows_are_there, node_is_open, first_broken, rules_of}
use Rattle.wrp_pool.specs.Pools.{Holds}
use Rattle.wrp_pool.specs.Tallies.{IsBlank}
use Rattle.wrp_pool.specs.Members.{none_of}
use Rattle.wrp_nodes.specs.Kept.{HasNodes}
use Rattle.wrp_nodes.specs.Tables as boxes
use Rattle.wrp_points.specs.Tables.{AreClear}
use Rattle.wrp_check.specs.declared.kept.Kept.{Kept}
use Rattle.wrp_check.specs.declared.kept.Past.{Past}
use Rattle.wrp_check.specs.declared.work.Work.{Work}
use Rattle.wrp_check.specs.declared.judge.Judge.{Judge}

-- ---- the past

-- the node to whose split a record leads
abbrev pub led_to : Record → Option ℕ
led_to (Point node den numbers) = Some node
led_to (Blind node) = Some node
led_to item = None

-- behind a record
abbrev pub past_behind : Record → Past
past_behind item = record {
  has_records = true;
  is_labelled = is_labels item;
  leads = led_to item;
}

-- behind most records
abbrev pub plain_past : Past
plain_past = record { has_records = true; is_labelled = false; leads = None }

abbrev pub leading_past : ℕ → Past
leading_past node = record { has_records = true; is_labelled = false; leads = Some node }

abbrev pub labelled_past : Past
labelled_past = record { has_records = true; is_labelled = true; leads = None }

-- a record with or without labels may stand next
abbrev pub admits : Past → Bool → Bool
admits past has_labels = if has_labels then not past.has_records else not past.is_labelled

-- what it says of the records
pub record IsPast (records : List Record) (past : Past) : Type 0 where
  pub some : (length records == 0) ≡ not past.has_records
  pub labelled : list_any is_labels records ≡ past.is_labelled
  pub alone : past.is_labelled ≡ true → length records ≡ 1
  pub leads : (node : ℕ) → option_map_or (leads_to_split node) (last_or None records) false
      ≡ option_map_or (λ led. led == node) past.leads false

-- ---- what stands

-- its numbers are those of the records so far
pub record IsKept (town : Town) (s : Standing) (kept : Kept) : Type 0 where
  pub pool : Holds town kept.pool s.rows
  pub nodes : HasNodes town kept.nodes s.nodes
  pub upper : s.upper ≡ kept.upper
  pub cuts : count_by is_cut s.records ≡ kept.cuts
  pub past : IsPast s.records kept.past

-- they are those of some records
abbrev pub IsSound : Town → Kept → Type 0
IsSound town kept = (s : Standing) × IsKept town s kept

-- its tables fit the town, and are as they are between two lines
pub record IsIdle (town : Town) (work : Work) : Type 0 where
  pub tally : IsBlank town work.tally
  pub set : work.set ≡ none_of (length town.junctions)
  pub boxes : boxes.IsAtRest town work.boxes
  pub tables : AreClear town work.tables
  pub used : length work.used.items ≡ 2 * length town.streets

-- all tables but that of the boxes are as they were
pub record HasSameTables (old new : Work) : Type 0 where
  pub tally : new.tally ≡ old.tally
  pub set : new.set ≡ old.set
  pub tables : new.tables ≡ old.tables
  pub used : new.used ≡ old.used

-- both
pub record Stands (town : Town) (s : Standing) (judge : Judge) : Type 0 where
  pub graph : judge.graph ≡ town
  pub idle : IsIdle town judge.work
  pub kept : IsKept town s judge.kept

abbrev pub IsReady : Town → Judge → Type 0
IsReady town judge = (s : Standing) × Stands town s judge

-- ---- one more record

-- where it is the first or no labels stand, a record breaks this first rule of its kind; where it
-- breaks none, it was taken
abbrev pub Tries : Town → Record → Option Rule → Kept → Kept → Type 0
Tries town item broken old new =
    (s : Standing) → IsKept town s old → is_alone s item ≡ true
    → (first_broken (rules_of town s item) ≡ broken)
    × (broken ≡ None → IsKept town (after town s item) new)

-- the first rules of a record that names a node and rows
abbrev pub start_rules : Town → Standing → ℕ → List (ℕ × ℕ) → List (Rule × Bool)
start_rules town s node mult =
    (rules.Range, node_is_there s node && rows_are_there s mult)
    ∷ (rules.Closed, node_is_open town s node) ∷ []

-- one more record was taken, or a rule was broken
abbrev pub Judges : Town → Standing → Result Record Rule → Option Rule → Judge → Type 0
Judges town s wanted None judge =
    (item : Record) × (wanted ≡ Ok item) × Stands town (after town s item) judge
Judges town s wanted (Some rule) judge = wanted ≡ Err rule
