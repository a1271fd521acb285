-- Lines that are joined one by one.
use Rattle.std.proofs.Common.{◌≡◌, ℕ, ◌+◌, ◌<◌, List, [], ◌∷◌, ◌++◌, length, ◌∙◌, ap, arith, length-append, length-drop}
use Rattle.std.proofs.lemmas.List.{append-nil}
use Rattle.std.proofs.lemmas.Grind.{flat_map-append}
use Rattle.wrp_rules.specs.declared.record.Record.{Record}
use Rattle.wrp_rules.specs.Lines.{line_of}
use Rattle.wrp_rules.specs.Proofs.{line_feed}
use Rattle.wrp_keep.specs.Keeps.{fed, joined}
use Rattle.wrp_keep.specs.Joins.{with_line}

fed_line : Record → List ℕ
fed_line item = line_feed ∷ line_of item

pub fed_push : (items : List Record) (item : Record) → fed (items ++ item ∷ []) ≡ with_line (line_of item) (fed items)
fed_push items item =
    flat_map-append (λ other. line_feed ∷ line_of other) items (item ∷ []) ∙ ap (λ (l : List ℕ). fed items ++ line_feed ∷ l) (append-nil (line_of item))

pub length_push : (items : List Record) (item : Record) → length (joined (items ++ item ∷ [])) ≡ length (fed items) + length (line_of item)
length_push items item =
    omega (arith, length-drop 1 (fed (items ++ item ∷ [])), ap length (fed_push items item), length-append (fed items) (line_feed ∷ line_of item))

-- the line of one record alone
pub joined_one : (item : Record) → joined (item ∷ []) ≡ line_of item
joined_one item = append-nil (line_of item)

-- some records have some lines
pub fed_some : (items : List Record) → 0 < length items → 0 < length (fed items)
fed_some [] some = absurd (omega (arith, some))
fed_some (item ∷ items) some =
    omega (arith, length-append (line_feed ∷ line_of item) (fed items))
