-- What each record that a run of the search adds rests on. The list at the run's start is `entry`,
-- and `added` is what the run added before the record.
use Rattle.std.specs.Prelude.{◌≡◌, ◌<◌, ◌≤◌, ◌⊎◌, ⊤, ℕ, suc, ◌/◌, Bool, true, false, if◌then◌else◌, List, [], ◌∷◌, ◌++◌, length, IfSome}
use Rattle.std.specs.List.{count_by, fold}
use Rattle.wrp_town.specs.declared.town.Town.{Town}
use Rattle.wrp_rules.specs.declared.record.Record.{Record}
use Rattle.wrp_rules.specs.declared.record.Record.TheVariants.{Conn, Odd, Round, Kc, Point, Blind, Split}
use Rattle.wrp_rules.specs.Rows.{row_of}
use Rattle.wrp_rules.specs.Nodes.{standing}
use Rattle.wrp_rules.specs.Rules.{is_cut, number_at}
use Rattle.wrp_laws.specs.Points.{MeetsOver, IsPointOf, price}
use Rattle.wrp_progress.specs.Progress.{IsOpenIn, node_in}
use Rattle.wrp_box.specs.Branching.{IsPart}
use Rattle.wrp_licence.specs.Hard.{IsHard}
use Rattle.wrp_licence.specs.Roundings.{MeetsRoundings}
use Rattle.wrp_licence.specs.Licences.{IsLicensed}

-- the greatest number of cuts of a list, and of those of a round
abbrev pub most_cuts : ℕ
most_cuts = 20000

abbrev pub most_round_cuts : ℕ
most_round_cuts = 200

abbrev pub is_split : Record → Bool
is_split (Split node arc k) = true
is_split item = false

-- how many cuts a list has, and how many behind its last Split
abbrev pub cuts_of : List Record → ℕ
cuts_of records = count_by is_cut records

abbrev pub count_since : ℕ → Record → ℕ
count_since n item = if is_split item then 0 else if is_cut item then suc n else n

abbrev pub cuts_since_split : List Record → ℕ
cuts_since_split records = fold count_since 0 records

-- the Point meets the roundings of its node, where there is room for a cut, and less than 200 were
-- added since the last Split of the run
abbrev pub IsRounded : Town → List Record → List Record → ℕ → ℕ → List (ℕ × ℕ) → Type 0
IsRounded town entry added node den numbers =
    cuts_of (entry ++ added) < most_cuts → cuts_since_split added < most_round_cuts
    → MeetsRoundings town (standing town (entry ++ added)) node den (number_at numbers)

-- the Split stands directly behind a licensed Point of its node, which the run added, and neither of
-- its boxes holds that
pub record IsLicensedSplit (town : Town) (entry added : List Record) (node arc k : ℕ) : Type 0 where
  pub earlier : List Record
  pub den : ℕ
  pub numbers : List (ℕ × ℕ)
  pub is : added ≡ earlier ++ Point node den numbers ∷ []
  pub licensed : IsLicensed town (standing town (entry ++ earlier)) node den numbers
  pub part : IsPart town den (number_at numbers) arc
  pub floor : k ≡ number_at numbers arc / den
  pub rounded : IsRounded town entry earlier node den numbers

-- the Split stands directly behind a Blind of its node, which the run added
pub record IsBlindSplit (added : List Record) (node : ℕ) : Type 0 where
  pub earlier : List Record
  pub is : added ≡ earlier ++ Blind node ∷ []

-- the list has as many cuts as may be, or the node is hard
abbrev pub HasBlindCause : Town → List Record → ℕ → Type 0
HasBlindCause town records node =
    (cuts_of records ≡ most_cuts) ⊎ IsHard town (standing town records) node

-- the numbers x over e lie in the box of an open node and meet every row of the list; they cost
-- the node's bound, or the node is hard
pub record IsPointAt (town : Town) (records : List Record) (e : ℕ) (x : ℕ → ℕ) : Type 0 where
  pub node : ℕ
  pub opened : IsOpenIn town records node
  pub of_node : IsPointOf town (standing town records).rows (node_in town records node) e x
  pub costs : (price town e x ≡ (node_in town records node).bound)
      ⊎ IsHard town (standing town records) node

-- such numbers at a list of the run, that ends at most 200 records before the cut, break it
pub record HasCutCause (town : Town) (entry added : List Record) (item : Record) : Type 0 where
  pub earlier : List Record
  pub between : List Record
  pub is : added ≡ earlier ++ between
  pub near : length between ≤ most_round_cuts
  pub e : ℕ
  pub x : ℕ → ℕ
  pub point : IsPointAt town (entry ++ earlier) e x
  pub breaks : IfSome (row_of town (standing town (entry ++ added)).rows item)
      (λ row. MeetsOver town e x row → ⊥)

-- what a record rests on, by its kind
abbrev pub IsCaused : Town → List Record → List Record → Record → Type 0
IsCaused town entry added (Conn r1 r2 set) = HasCutCause town entry added (Conn r1 r2 set)
IsCaused town entry added (Odd set) = HasCutCause town entry added (Odd set)
IsCaused town entry added (Round divisor mult) = HasCutCause town entry added (Round divisor mult)
IsCaused town entry added (Kc k of) = HasCutCause town entry added (Kc k of)
IsCaused town entry added (Blind node) = HasBlindCause town (entry ++ added) node
IsCaused town entry added (Split node arc k) =
    IsLicensedSplit town entry added node arc k ⊎ IsBlindSplit added node
IsCaused town entry added item = ⊤

-- each record that the run added rests on what stands before it
abbrev pub AreCaused : Town → List Record → List Record → Type 0
AreCaused town entry added = (before : List Record) (item : Record) (later : List Record)
    → added ≡ before ++ item ∷ later → IsCaused town entry before item
