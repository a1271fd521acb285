-- What is made ready for a record, and the judgement of one.
use Rattle.std.specs.Prelude.{◌≡◌, ◌+◌, ◌^◌, ◌<◌, true, ℤ, pos, Option, None, Some, Result, Ok, Err, IsSome, length}
use Rattle.wrp_town.specs.declared.town.Town.{Town}
use Rattle.wrp_rules.specs.declared.record.Record.{Record}
use Rattle.wrp_rules.specs.declared.record.Record.TheVariants.{Conn, Odd, Round, Kc, Bound, Split}
use Rattle.wrp_rules.specs.declared.rule.Rule.{Rule}
use Rattle.wrp_town.specs.Arcs.{is_legal}
use Rattle.wrp_rules.specs.Nodes.{Standing, after, bound_at, node_at}
use Rattle.wrp_rules.specs.Rules.{is_cut, parts_range, rules_of, first_broken, broken_rule}
use Rattle.wrp_rows.specs.Pools.{HasPrepared, HasRowsOf}
use Rattle.wrp_tree.specs.declared.plan.Plan.{Plan}
use Rattle.wrp_tree.specs.declared.plan.Plan.TheVariants as plans
use Rattle.wrp_tree.specs.declared.kept.Kept.{Kept}
use Rattle.wrp_tree.specs.declared.fault.PrepareFault.{PrepareFault}
use Rattle.wrp_tree.specs.declared.fault.PrepareFault.TheVariants as faults
use Rattle.wrp_tree.specs.declared.index.NodeIndex.{NodeIndex}
use Rattle.wrp_tree.specs.Indexes.{IsIndexed, HasChildren}
use Rattle.wrp_tree.specs.Keeping.{IsKept}

-- what a record needs to be added
abbrev pub plan_of : Town → Standing → Record → Plan
plan_of town s (Conn r1 r2 set) = plans.Row
plan_of town s (Odd set) = plans.Row
plan_of town s (Round divisor mult) = plans.Row
plan_of town s (Kc k of) = plans.Row
plan_of town s (Bound node den mult) = plans.Raise (bound_at town s node den mult)
plan_of town s (Split node arc k) = plans.Halve node arc k
plan_of town s item = plans.Plain

-- the new bound, or 0
abbrev pub planned_bound : Plan → ℤ
planned_bound (plans.Raise bound) = bound
planned_bound _ = pos 0

-- it breaks no rule of its kind, and this is what it needs; or it breaks this one first
abbrev pub Judged : Town → Standing → Record → Result Plan Rule → Type 0
Judged town s item (Ok plan) =
    (first_broken (rules_of town s item) ≡ None) × (plan ≡ plan_of town s item)
Judged town s item (Err rule) = first_broken (rules_of town s item) ≡ Some rule

-- what the plan speaks of is there
abbrev pub HasRoomFor : Town → Standing → Plan → Kept → Type 0
HasRoomFor town s (plans.Halve node arc k) kept = HasChildren town s.nodes node arc k kept.index
HasRoomFor town s plans.Row kept =
    IsSome kept.rows.prepared × (length kept.index.nodes ≡ kept.index.count)
HasRoomFor town s _ kept = length kept.index.nodes ≡ kept.index.count

-- all is ready for the record
pub record IsReadyFor (town : Town) (s : Standing) (item : Record) (plan : Plan) (kept : Kept)
    : Type 0 where
  pub kept_is : IsKept town s kept
  pub valid : broken_rule town s item ≡ None
  pub plan_is : plan ≡ plan_of town s item
  pub room : HasRoomFor town s plan kept
  pub row : is_cut item ≡ true → HasPrepared s item kept.rows

-- plain, or the broken rule
abbrev pub plain_unless : Option Rule → Result Plan Rule
plain_unless None = Ok plans.Plain
plain_unless (Some rule) = Err rule

-- a refusal names the broken rule, and there is none where none is broken
abbrev pub Refuses : {X : Type 0} → Option Rule → Result X PrepareFault → Type 0
Refuses broken (Ok x) = broken ≡ None
Refuses broken (Err (faults.Refused rule)) = broken ≡ Some rule
Refuses broken (Err faults.Memory) = Unit {0}

-- the same of the rules of its kind
abbrev pub KindRefuses : Town → Standing → Record → Result Plan PrepareFault → Type 0
KindRefuses town s item result = Refuses (first_broken (rules_of town s item)) result

-- the plan is that of the record, and a row that it adds is prepared
pub record IsPlanned (town : Town) (s : Standing) (item : Record) (plan : Plan) (kept : Kept)
    : Type 0 where
  pub plan_is : plan ≡ plan_of town s item
  pub row : is_cut item ≡ true → HasPrepared s item kept.rows
  pub made : is_cut item ≡ true → IsSome kept.rows.prepared

-- rows and nodes are those behind the record
pub record IsMade (town : Town) (s : Standing) (item : Record) (old new : Kept) : Type 0 where
  pub others : new ≡ record old { rows = new.rows; index = new.index }
  pub rows_town : new.rows.town ≡ town
  pub rows : HasRowsOf (after town s item) new.rows
  pub index : IsIndexed town (after town s item).nodes (after town s item).upper new.index

-- a split that is planned is that of a node that is there, of an arc and a number that aren't large
abbrev pub IsHalvable : Plan → NodeIndex → Type 0
IsHalvable (plans.Halve node arc k) index = (node < index.count) × (arc < 2 ^ 16) × (k + 1 < 2 ^ 16)
IsHalvable _ index = Unit {0}

-- a split that is planned parts the range of a legal arc
abbrev pub IsFor : Town → Standing → Plan → Type 0
IsFor town s (plans.Halve node arc k) =
    (is_legal town arc ≡ true) × (parts_range (node_at town s node) arc k ≡ true)
IsFor town s _ = Unit {0}

-- a row that is planned is prepared
abbrev pub RowIsMade : Plan → Kept → Type 0
RowIsMade plans.Row kept = IsSome kept.rows.prepared
RowIsMade _ kept = Unit {0}
