-- What a lent content stands for.
use Rattle.std.specs.Prelude.{codes, ℕ, List, [], ◌++◌, map}
use Rattle.std.specs.Fmt.{decimal}
use Rattle.wrp_rules.specs.Contents as rules
use Rattle.wrp_rules.specs.Lines.{step_text, pair_text, item_parts}
use Rattle.wrp_writer.specs.declared.content.Content.{Content}
use Rattle.wrp_writer.specs.declared.content.Numbers.{Numbers}
use Rattle.wrp_writer.specs.declared.content.Numbers.TheVariants.{Zero, One, Two, Three}
use Rattle.wrp_writer.specs.declared.content.Items.{Items}
use Rattle.wrp_writer.specs.declared.content.Items.TheVariants as items
use Rattle.wrp_writer.specs.declared.content.Pairs.{Pairs}
use Rattle.wrp_writer.specs.declared.content.Pairs.TheVariants.{Narrow, Wide}
use Rattle.wrp_writer.specs.declared.part.Part.{Part}
use Rattle.wrp_writer.specs.declared.part.Part.TheVariants as parts

abbrev pub numbers_seen : Numbers → List ℕ
numbers_seen Zero = []
numbers_seen (One numbers) = numbers
numbers_seen (Two numbers) = numbers
numbers_seen (Three numbers) = numbers

abbrev pub pairs_seen : Pairs → List (ℕ × ℕ)
pairs_seen (Narrow pairs) = pairs.now
pairs_seen (Wide pairs) = pairs.now

abbrev pub items_seen : Items → rules.Items
items_seen items.Nothing = rules.NoItems
items_seen (items.Steps steps) = rules.Steps steps.now
items_seen (items.Numbers numbers) = rules.Numbers numbers.now
items_seen (items.Pairs pairs) = rules.Pairs (pairs_seen pairs)
items_seen (items.TwoLists first second) = rules.TwoLists first.now second.now

abbrev pub content_seen : Content → rules.Content
content_seen c = rules.content c.kind (numbers_seen c.numbers) (items_seen c.items)

-- the text of one part of a line
abbrev pub part_text : Part → List ℕ
part_text (parts.Number number) = decimal number
part_text (parts.Step step) = step_text step
part_text (parts.Pair first second) = pair_text (first, second)
part_text parts.Slash = codes "/"

-- the parts behind the word of a line
abbrev pub content_parts : rules.Content → List (List ℕ)
content_parts c = map decimal c.numbers ++ item_parts c.items
