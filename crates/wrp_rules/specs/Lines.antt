-- The one line of each record and of each end, without its line feed.
use Rattle.std.specs.Prelude.{codes, ℕ, if◌then◌else◌, List, [], ◌∷◌, ◌++◌, map, drop, length}
use Rattle.std.specs.Fmt.{decimal}
use Rattle.std.specs.List.{flat_map}
use Rattle.wrp_town.specs.declared.street.Step.{Step}
use Rattle.wrp_rules.specs.declared.record.Record.{Record}
use Rattle.wrp_rules.specs.declared.record.End.{End}
use Rattle.wrp_rules.specs.Layouts.{layout_of}
use Rattle.wrp_rules.specs.Contents.{Items, NoItems, Steps, Numbers, Pairs, TwoLists, Content, content_of, content_of_end}

-- a step: the number of its street and a sign, `+` forward and `-` back
abbrev pub step_text : Step → List ℕ
step_text step = decimal step.street ++ (if step.back then codes "-" else codes "+")

-- a pair: two numbers joined by a colon
abbrev pub pair_text : (ℕ × ℕ) → List ℕ
pair_text (first, second) = decimal first ++ codes ":" ++ decimal second

-- a word and parts, a space before each part
abbrev pub spaced : List ℕ → List (List ℕ) → List ℕ
spaced word parts = word ++ flat_map (λ part. codes " " ++ part) parts

-- the parts of the items
abbrev pub item_parts : Items → List (List ℕ)
item_parts NoItems = []
item_parts (Steps steps) = map step_text steps
item_parts (Numbers numbers) = map decimal numbers
item_parts (Pairs pairs) = map pair_text pairs
item_parts (TwoLists first second) = map decimal first ++ codes "/" ∷ map decimal second

-- the line with this content
abbrev pub line_with : Content → List ℕ
line_with c = spaced (layout_of c.kind).word (map decimal c.numbers ++ item_parts c.items)

-- the line of a record, and that of an end
abbrev pub line_of : Record → List ℕ
line_of item = line_with (content_of item)

abbrev pub end_line : End → List ℕ
end_line end = line_with (content_of_end end)

-- what an end says: its line without `end `
abbrev pub end_text : End → List ℕ
end_text end = drop (length (codes "end ")) (end_line end)
