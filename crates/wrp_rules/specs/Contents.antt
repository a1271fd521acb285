-- What stands in a line of a proof: its kind, its leading numbers, and the items behind them.
use Rattle.std.specs.Prelude.{ℕ, Bool, true, false, ◌&&◌, List, [], ◌∷◌}
use Rattle.std.specs.List.{list_all}
use Rattle.wrp_town.specs.declared.street.Step.{Step}
use Rattle.wrp_rules.specs.declared.layout.Kind.{Kind}
use Rattle.wrp_rules.specs.declared.layout.Kind.TheVariants as kinds
use Rattle.wrp_rules.specs.declared.layout.Tail.{Tail}
use Rattle.wrp_rules.specs.declared.layout.Tail.TheVariants as tails
use Rattle.wrp_rules.specs.declared.record.Record.{Record}
use Rattle.wrp_rules.specs.declared.record.Record.TheVariants.{Tour, Conn, Odd, Round, Kc, Bound, Empty, Apart, Point, Blind, Split, Labels}
use Rattle.wrp_rules.specs.declared.record.End.{End}
use Rattle.wrp_rules.specs.declared.record.End.TheVariants.{Optimal, Infeasible, Unfinished}
use Rattle.wrp_rules.specs.Layouts.{layout_of}
use Rattle.wrp_rules.specs.Ranges.{is_index, is_set, are_pairs, are_multipliers, are_in_ranges}

-- what follows the leading numbers
pub data Items : Type 0 where
  NoItems : Items
  Steps : (steps : List Step) → Items
  Numbers : (numbers : List ℕ) → Items
  Pairs : (pairs : List (ℕ × ℕ)) → Items
  TwoLists : (first second : List ℕ) → Items

pub record Content : Type 0 where
  pub kind : Kind
  pub numbers : List ℕ
  pub items : Items

abbrev pub content : Kind → List ℕ → Items → Content
content kind numbers items = record { kind = kind; numbers = numbers; items = items }

-- what stands in the line of a record
abbrev pub content_of : Record → Content
content_of (Tour cost steps) = content kinds.Tour (cost ∷ []) (Steps steps)
content_of (Conn r1 r2 set) = content kinds.Conn (r1 ∷ r2 ∷ []) (Numbers set)
content_of (Odd set) = content kinds.Odd [] (Numbers set)
content_of (Round divisor mult) = content kinds.Round (divisor ∷ []) (Pairs mult)
content_of (Kc k of) = content kinds.Kc (k ∷ []) (Numbers of)
content_of (Bound node den mult) = content kinds.Bound (node ∷ den ∷ []) (Pairs mult)
content_of (Empty node mult) = content kinds.Empty (node ∷ []) (Pairs mult)
content_of (Apart node r1 r2 set) = content kinds.Apart (node ∷ r1 ∷ r2 ∷ []) (Numbers set)
content_of (Point node den numbers) = content kinds.Point (node ∷ den ∷ []) (Pairs numbers)
content_of (Blind node) = content kinds.Blind (node ∷ []) NoItems
content_of (Split node arc k) = content kinds.Split (node ∷ arc ∷ k ∷ []) NoItems
content_of (Labels labels streets) = content kinds.Labels [] (TwoLists labels streets)

-- what stands in the line of an end
abbrev pub content_of_end : End → Content
content_of_end (Optimal cost) = content kinds.Optimal (cost ∷ []) NoItems
content_of_end Infeasible = content kinds.Infeasible [] NoItems
content_of_end (Unfinished low high) = content kinds.Unfinished (low ∷ high ∷ []) NoItems

-- items of this kind, in their ranges and orders
abbrev pub keep_rules : Tail → Items → Bool
keep_rules tails.Nothing NoItems = true
keep_rules tails.Steps (Steps steps) = list_all (λ step. is_index step.street) steps
keep_rules tails.Set (Numbers set) = is_set set
keep_rules tails.Indexes (Numbers numbers) = list_all is_index numbers
keep_rules (tails.Multipliers most) (Pairs mult) = are_multipliers most mult
keep_rules (tails.Pairs most) (Pairs pairs) = are_pairs most pairs
keep_rules tails.Labels (TwoLists first second) =
    list_all is_index first && list_all is_index second
keep_rules tail items = false

-- the numbers and items of a line keep the rules of its layout
abbrev pub keeps_number_rules : Content → Bool
keeps_number_rules c =
    are_in_ranges (layout_of c.kind).numbers c.numbers && keep_rules (layout_of c.kind).tail c.items

-- the numbers of a record, and those of an end, are in their ranges and orders
abbrev pub has_number_rules : Record → Bool
has_number_rules item = keeps_number_rules (content_of item)

abbrev pub has_end_numbers : End → Bool
has_end_numbers end = keeps_number_rules (content_of_end end)
