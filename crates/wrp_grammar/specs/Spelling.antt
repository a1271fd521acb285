-- The record and the end that a line spells, where its parts are written right and in their ranges.
use Rattle.std.specs.Prelude.{ℕ, Bool, true, false, ◌&&◌, if◌then◌else◌, nat_eq, List, [], ◌∷◌, map, take, drop, length, Option, None, Some}
use Rattle.std.specs.List.{before_first, after_first, starts_with}
use Rattle.wrp_rules.specs.declared.layout.Kind.{Kind}
use Rattle.wrp_rules.specs.declared.layout.Kind.TheVariants as kinds
use Rattle.wrp_rules.specs.declared.layout.Range.{Range}
use Rattle.wrp_rules.specs.declared.layout.Tail.{Tail}
use Rattle.wrp_rules.specs.declared.layout.Tail.TheVariants as tails
use Rattle.wrp_rules.specs.declared.record.Record.{Record}
use Rattle.wrp_rules.specs.declared.record.Record.TheVariants.{Tour, Conn, Odd, Round, Kc, Bound, Empty, Apart, Point, Blind, Split, Labels}
use Rattle.wrp_rules.specs.declared.record.End.{End}
use Rattle.wrp_rules.specs.declared.record.End.TheVariants.{Optimal, Infeasible, Unfinished}
use Rattle.wrp_rules.specs.Layouts.{layout_of, record_kinds, end_kinds}
use Rattle.wrp_rules.specs.Contents.{Items, NoItems, Steps, Numbers, Pairs, TwoLists, Content, content}
use Rattle.wrp_grammar.specs.Parts.{parts_of, numbers_of, step_of, pair_of}
use Rattle.wrp_grammar.specs.Shapes.{is_slash}
use Rattle.wrp_grammar.specs.Numbers.{is_range_part, is_right_behind}

-- the items that parts spell
abbrev pub items_of : Tail → List (List ℕ) → Items
items_of tails.Nothing parts = NoItems
items_of tails.Steps parts = Steps (map step_of parts)
items_of (tails.Multipliers most) parts = Pairs (map pair_of parts)
items_of (tails.Pairs most) parts = Pairs (map pair_of parts)
items_of tails.Labels parts =
    TwoLists (numbers_of (before_first is_slash parts)) (numbers_of (after_first is_slash parts))
items_of tail parts = Numbers (numbers_of parts)

-- a number for each range, written right and in it
abbrev pub are_leading : List Range → List (List ℕ) → Bool
are_leading [] parts = true
are_leading (range ∷ ranges) [] = false
are_leading (range ∷ ranges) (part ∷ parts) = is_range_part range part && are_leading ranges parts

-- what stands in the parts of a line of this kind
abbrev pub content_of_parts : Kind → List (List ℕ) → Content
content_of_parts kind parts =
    content kind (numbers_of (take (length (layout_of kind).numbers) parts))
    (items_of (layout_of kind).tail (drop (length (layout_of kind).numbers) parts))

-- what stands behind the word of a line of this kind
abbrev pub content_behind : Kind → List ℕ → Option Content
content_behind kind left = if is_right_behind kind left
    then Some (content_of_parts kind (parts_of left)) else None

-- what stands in a line of one of these kinds
abbrev pub content_in : List Kind → List ℕ → Option Content
content_in [] line = None
content_in (kind ∷ kinds) line =
    if starts_with nat_eq line (layout_of kind).word
    then content_behind kind (drop (length (layout_of kind).word) line)
    else content_in kinds line

-- the record with this content
abbrev pub record_with : Kind → List ℕ → Items → Option Record
record_with kinds.Tour (cost ∷ []) (Steps steps) = Some (Tour cost steps)
record_with kinds.Conn (r1 ∷ r2 ∷ []) (Numbers set) = Some (Conn r1 r2 set)
record_with kinds.Odd [] (Numbers set) = Some (Odd set)
record_with kinds.Round (divisor ∷ []) (Pairs mult) = Some (Round divisor mult)
record_with kinds.Kc (k ∷ []) (Numbers of) = Some (Kc k of)
record_with kinds.Bound (node ∷ den ∷ []) (Pairs mult) = Some (Bound node den mult)
record_with kinds.Empty (node ∷ []) (Pairs mult) = Some (Empty node mult)
record_with kinds.Apart (node ∷ r1 ∷ r2 ∷ []) (Numbers set) = Some (Apart node r1 r2 set)
record_with kinds.Point (node ∷ den ∷ []) (Pairs numbers) = Some (Point node den numbers)
record_with kinds.Blind (node ∷ []) NoItems = Some (Blind node)
record_with kinds.Split (node ∷ arc ∷ k ∷ []) NoItems = Some (Split node arc k)
record_with kinds.Labels [] (TwoLists labels streets) = Some (Labels labels streets)
record_with kind numbers items = None

-- the end with this content
abbrev pub end_with : Kind → List ℕ → Items → Option End
end_with kinds.Optimal (cost ∷ []) NoItems = Some (Optimal cost)
end_with kinds.Infeasible [] NoItems = Some Infeasible
end_with kinds.Unfinished (low ∷ high ∷ []) NoItems = Some (Unfinished low high)
end_with kind numbers items = None

-- the record that a line spells, and the end
abbrev pub record_of_content : Option Content → Option Record
record_of_content None = None
record_of_content (Some c) = record_with c.kind c.numbers c.items

abbrev pub end_of_content : Option Content → Option End
end_of_content None = None
end_of_content (Some c) = end_with c.kind c.numbers c.items

unfoldable pub spelled : List ℕ → Option Record
spelled line = record_of_content (content_in record_kinds line)

unfoldable pub spelled_end : List ℕ → Option End
spelled_end line = end_of_content (content_in end_kinds line)
