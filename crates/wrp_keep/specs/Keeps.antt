-- The tree of records together with the log that acknowledges them, as contracts see it.
use Rattle.std.specs.Prelude.{◌≡◌, ℕ, ◌<◌, ◌≤◌, Bool, true, false, List, ◌∷◌, length, take, drop, map, Option, IfSome}
use Rattle.std.specs.List.{All, flat_map}
use Rattle.std.specs.Option.{option_map_or}
use Rattle.wrp_disk.specs.Disks.{Meaning}
use Rattle.wrp_log.specs.Payloads.{payload_limit}
use Rattle.wrp_log.specs.Logs.{Place, IsOn, list_told}
use Rattle.wrp_town.specs.declared.town.Town.{Town}
use Rattle.wrp_street.specs.Canonical.{canonical_of}
use Rattle.wrp_rules.specs.declared.record.Record.{Record}
use Rattle.wrp_rules.specs.Nodes.{standing}
use Rattle.wrp_rules.specs.Rules.{broken_rule}
use Rattle.wrp_rules.specs.Lists.{is_valid}
use Rattle.wrp_rules.specs.Lines.{line_of}
use Rattle.wrp_rules.specs.Proofs.{line_feed}
use Rattle.wrp_rules.specs.declared.rule.Rule.{Rule}
use Rattle.wrp_tree.specs.Trees.{TreeState}

-- a list of records, how many of them are acknowledged, and the log, where there is one
pub record KeepState : Type 0 where
  pub town : Town
  pub records : List Record
  pub acknowledged : ℕ
  pub log : Option Place

abbrev pub keep_of : TreeState → ℕ → Option Place → KeepState
keep_of tree acknowledged log = record {
  town = tree.town;
  records = tree.records;
  acknowledged = acknowledged;
  log = log;
}

-- the acknowledged records, and those behind them that aren't acknowledged yet
abbrev pub acknowledged_records : KeepState → List Record
acknowledged_records keep = take keep.acknowledged keep.records

abbrev pub staged : KeepState → List Record
staged keep = drop keep.acknowledged keep.records

-- the lines of the records, each behind a line feed
abbrev pub fed : List Record → List ℕ
fed items = flat_map (λ item. line_feed ∷ line_of item) items

-- the lines joined by line feeds
abbrev pub joined : List Record → List ℕ
joined items = drop 1 (fed items)

-- the first rule that a record breaks after the list, if it breaks one
abbrev pub broken_by : Record → KeepState → Option Rule
broken_by item keep = broken_rule keep.town (standing keep.town keep.records) item

-- the log is given up
abbrev pub is_stopped : KeepState → Bool
is_stopped keep = option_map_or (λ log. log.stopped) keep.log false

-- the version of the log, and 2 where there is none
abbrev pub version_in : Option Place → ℕ
version_in log = option_map_or (λ place. place.version) log 2

abbrev pub version : KeepState → ℕ
version keep = version_in keep.log

-- a valid list, some of which is acknowledged, and the lines of the others behind line feeds
pub record IsKeep (keep : KeepState) (lines : List ℕ) : Type 0 where
  pub valid : is_valid keep.town keep.records ≡ true
  pub within : keep.acknowledged ≤ length keep.records
  pub lines_are : lines ≡ fed (staged keep)
  pub short : length (joined (staged keep)) ≤ payload_limit (version keep)
  pub begun : IfSome keep.log (λ log. log.fresh ≡ false)

-- ---- what a disk holds

-- the payloads are the table of the town, and the lines of these records: those of one or more
-- records in each payload
pub record IsLogged (town : Town) (records : List Record) (payloads : List (List ℕ)) : Type 0 where
  pub groups : List (List Record)
  pub not_empty : All (λ group. 0 < length group) groups
  pub records_are : records ≡ flat_map (λ group. group) groups
  pub payloads_are : payloads ≡ canonical_of town ∷ map joined groups

-- the disk is that of the log, where there is one, and holds the acknowledged records
pub record IsHeld (keep : KeepState) (disk : Meaning) : Type 0 where
  pub on : IfSome keep.log (λ log. IsOn log disk)
  pub holds : IfSome keep.log (λ log. IfSome (list_told disk)
      (IsLogged keep.town (acknowledged_records keep)))
