-- The state of a search as contracts see it.
use Rattle.std.specs.Prelude.{◌≡◌, ℕ, ◌<◌, true, false, List, [], ◌∷◌, ◌++◌, length, Option, None, Some, Result, Ok, Err}
use Rattle.std.specs.Vec.{vec_len, vec_capacity}
use Rattle.std.specs.Option.{option_map}
use Rattle.wrp_town.specs.declared.town.Town.{Town}
use Rattle.wrp_rules.specs.declared.record.Record.{Record}
use Rattle.wrp_rules.specs.declared.rule.Rule.{Rule}
use Rattle.wrp_rules.specs.Rows.{row_of}
use Rattle.wrp_rules.specs.Nodes.{Standing, standing, node_at, is_open}
use Rattle.wrp_rules.specs.Lists.{is_valid}
use Rattle.wrp_rules.specs.Rules.{is_cut, broken_rule}
use Rattle.wrp_rows.specs.Pools.{SparseRow, sparse_of}
use Rattle.wrp_tree.specs.declared.fault.ApplyFault.{ApplyFault}
use Rattle.wrp_tree.specs.declared.fault.ApplyFault.TheVariants as applies
use Rattle.wrp_tree.specs.declared.plan.Plan.{Plan}
use Rattle.wrp_tree.specs.declared.kept.Kept.{Kept}
use Rattle.wrp_tree.specs.declared.desk.Desk.{Desk}
use Rattle.wrp_tree.specs.Keeping.{IsKept, IsDeskOf}
use Rattle.wrp_tree.specs.Indexes.{IsFirstOpen}
use Rattle.wrp_tree.specs.Plans.{plan_of, HasRoomFor}

-- a valid list of records of a town, and what is ready for one more, if it is
pub record TreeState : Type 0 where
  pub town : Town
  pub records : List Record
  pub ready : Option Plan
  pub row : Option SparseRow

-- what the list stands for
abbrev pub now : TreeState → Standing
now tree = standing tree.town tree.records

-- a list with nothing ready
abbrev pub with_list : Town → List Record → TreeState
with_list town records = record { town = town; records = records; ready = None; row = None }

-- the same list
abbrev pub unprepared : TreeState → TreeState
unprepared tree = with_list tree.town tree.records

-- the list with one more record
abbrev pub with_record : TreeState → Record → TreeState
with_record tree item = with_list tree.town (tree.records ++ item ∷ [])

-- the record may follow, and all that its commit needs is ready
pub record IsPrepared (item : Record) (tree : TreeState) : Type 0 where
  pub valid : broken_rule tree.town (now tree) item ≡ None
  pub plan : tree.ready ≡ Some (plan_of tree.town (now tree) item)
  pub row : is_cut item ≡ true
      → tree.row ≡ option_map (sparse_of tree.town) (row_of tree.town (now tree).rows item)

-- a refusal hands the record back and names the broken rule; there is none where none is broken
abbrev pub HandsBack : Option Rule → Record → Result Unit ApplyFault → Type 0
HandsBack broken item (Ok x) = broken ≡ None
HandsBack broken item (Err (applies.Refused back rule)) = (broken ≡ Some rule) × (back ≡ item)
HandsBack broken item (Err applies.Memory) = Unit {0}

-- the list is valid, what is kept is what it stands for, and there is room for what is ready
pub record IsTree (town : Town) (kept : Kept) (desk : Desk) (ready : Option Plan) : Type 0 where
  pub valid : is_valid town kept.records.items ≡ true
  pub kept_is : IsKept town (standing town kept.records.items) kept
  pub desk_is : IsDeskOf town desk
  pub room : (plan : Plan) → ready ≡ Some plan → vec_len kept.records < vec_capacity kept.records
  pub rest : (plan : Plan) → ready ≡ Some plan
      → HasRoomFor town (standing town kept.records.items) plan kept

-- the first open node, or none where none is open
abbrev pub IsOpenNode : Town → Standing → Option ℕ → Type 0
IsOpenNode town s (Some node) = IsFirstOpen town s.nodes s.upper node
IsOpenNode town s None =
    (node : ℕ) → node < length s.nodes → is_open s.upper (node_at town s node) ≡ false
