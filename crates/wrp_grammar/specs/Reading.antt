-- What a reader of a line holds.
use Rattle.std.specs.Prelude.{ℕ, ◌^◌, Bool, true, nat_lt, nat_le, ◌&&◌, if◌then◌else◌, List, [], ◌∷◌, take, length, Option, None, Some}
use Rattle.wrp_rules.specs.declared.layout.Kind.{Kind}
use Rattle.wrp_rules.specs.declared.layout.Range.{Range}
use Rattle.wrp_rules.specs.declared.layout.Tail.{Tail}
use Rattle.wrp_rules.specs.declared.layout.Tail.TheVariants as tails
use Rattle.wrp_rules.specs.Layouts.{layout_of}
use Rattle.wrp_rules.specs.Contents.{Items, NoItems, Steps, Numbers, Pairs, TwoLists, Content, content}
use Rattle.wrp_grammar.specs.declared.contents.Leading.{Leading}
use Rattle.wrp_grammar.specs.declared.contents.ItemsOf.{ItemsOf}
use Rattle.wrp_grammar.specs.declared.contents.ItemsOf.TheVariants as lent
use Rattle.wrp_grammar.specs.declared.contents.ContentOf.{ContentOf}
use Rattle.wrp_grammar.specs.Shapes.{has_tail_shape}
use Rattle.wrp_grammar.specs.Numbers.{tail_keeps_rules}
use Rattle.wrp_grammar.specs.Spelling.{items_of}

-- as many numbers as there are ranges
abbrev pub numbers_held : List Range → Leading → List ℕ
numbers_held ranges l = take (length ranges) (l.first ∷ l.second ∷ l.third ∷ [])

abbrev pub items_held : ItemsOf → Items
items_held lent.Nothing = NoItems
items_held (lent.Steps steps) = Steps steps
items_held (lent.Numbers numbers) = Numbers numbers
items_held (lent.Pairs pairs) = Pairs pairs
items_held (lent.TwoLists first second) = TwoLists first second

abbrev pub content_with : Kind → Leading → Items → Content
content_with kind numbers items = content kind (numbers_held (layout_of kind).numbers numbers) items

abbrev pub content_held : ContentOf → Content
content_held c = content_with c.kind c.numbers (items_held c.items)

-- a tail whose pairs a list of pairs can hold
abbrev pub is_small_tail : Tail → Bool
is_small_tail (tails.Multipliers most) = nat_lt most (2 ^ 64)
is_small_tail (tails.Pairs most) = nat_le most (2 ^ 72)
is_small_tail tail = true

-- the items that parts spell, where they are in the shape of this tail and keep its rules
abbrev pub items_in : Tail → List (List ℕ) → Option Items
items_in tail parts = if has_tail_shape tail parts && tail_keeps_rules tail parts
    then Some (items_of tail parts) else None
