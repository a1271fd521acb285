-- How each line of a proof is written: a word, leading numbers in their ranges, and what follows.
use Rattle.std.specs.Prelude.{codes, ℕ, ◌^◌, List, [], ◌∷◌}
use Rattle.wrp_rules.specs.declared.layout.Kind.{Kind}
use Rattle.wrp_rules.specs.declared.layout.Kind.TheVariants as kinds
use Rattle.wrp_rules.specs.declared.layout.Range.{Range}
use Rattle.wrp_rules.specs.declared.layout.Range.TheVariants.{Count, Index, FromOne}
use Rattle.wrp_rules.specs.declared.layout.Tail.{Tail}
use Rattle.wrp_rules.specs.declared.layout.Tail.TheVariants.{Nothing, Steps, Set, Indexes, Multipliers, Pairs, Labels}

pub record Layout : Type 0 where
  pub word : List ℕ
  pub numbers : List Range
  pub tail : Tail

abbrev pub layout : List ℕ → List Range → Tail → Layout
layout word numbers tail = record { word = word; numbers = numbers; tail = tail }

-- the layout of each kind
abbrev pub layout_of : Kind → Layout
layout_of kinds.Tour = layout (codes "t") (Count ∷ []) Steps
layout_of kinds.Conn = layout (codes "c") (Index ∷ Index ∷ []) Set
layout_of kinds.Odd = layout (codes "o") [] Set
layout_of kinds.Round = layout (codes "r") (FromOne (2 ^ 20) ∷ []) (Multipliers (2 ^ 40))
layout_of kinds.Kc = layout (codes "k") (Index ∷ []) Indexes
layout_of kinds.Bound = layout (codes "b") (Count ∷ FromOne (2 ^ 40) ∷ []) (Multipliers (2 ^ 60))
layout_of kinds.Empty = layout (codes "e") (Count ∷ []) (Multipliers (2 ^ 60))
layout_of kinds.Apart = layout (codes "a") (Count ∷ Index ∷ Index ∷ []) Set
layout_of kinds.Point = layout (codes "p") (Count ∷ FromOne (2 ^ 60) ∷ []) (Pairs (2 ^ 72))
layout_of kinds.Blind = layout (codes "z") (Count ∷ []) Nothing
layout_of kinds.Split = layout (codes "s") (Count ∷ Index ∷ Index ∷ []) Nothing
layout_of kinds.Labels = layout (codes "n") [] Labels
layout_of kinds.Optimal = layout (codes "end optimal") (Count ∷ []) Nothing
layout_of kinds.Infeasible = layout (codes "end infeasible") [] Nothing
layout_of kinds.Unfinished = layout (codes "end unfinished") (Count ∷ Count ∷ []) Nothing

-- the kinds of records, and those of ends
abbrev pub record_kinds : List Kind
record_kinds =
    kinds.Tour ∷ kinds.Conn ∷ kinds.Odd ∷ kinds.Round ∷ kinds.Kc ∷ kinds.Bound
    ∷ kinds.Empty ∷ kinds.Apart ∷ kinds.Point ∷ kinds.Blind ∷ kinds.Split ∷ kinds.Labels ∷ []

abbrev pub end_kinds : List Kind
end_kinds = kinds.Optimal ∷ kinds.Infeasible ∷ kinds.Unfinished ∷ []
