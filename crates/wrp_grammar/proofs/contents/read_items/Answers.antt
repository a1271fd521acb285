use Rattle.std.proofs.Common.{refl, Some, None, cond, ◌∙◌, ap, map}
use Rattle.wrp_rules.specs.declared.layout.Tail.TheVariants as tails
use Rattle.wrp_rules.specs.Contents.{Steps, Numbers, Pairs}
use Rattle.wrp_grammar.specs.Parts.{parts_of, numbers_of, step_of, pair_of, are_multiplier_parts}
use Rattle.wrp_grammar.proofs.RightLines.{read-items}
use Rattle.wrp_grammar.proofs.contents.read_items.Goals as goal

pub returns-in_ok-new-in-Steps : goal.returns-in_ok-new-in-Steps
returns-in_ok-new-in-Steps c =
    let parts = parts_of c.args.left.now in
    rw c.in-Steps.is (read-items Steps tails.Steps parts (map step_of parts) (Some c.in_ok-new-in-Steps.field-0) c.in_ok-new-in-Steps.ensures refl)

pub returns-in_ok-set-in-Set : goal.returns-in_ok-set-in-Set
returns-in_ok-set-in-Set c =
    let parts = parts_of c.args.left.now in
    rw c.in-Set.is (read-items Numbers tails.Set parts (numbers_of parts) (Some c.in_ok-set-in-Set.field-0) c.in_ok-set-in-Set.ensures refl)

pub returns-in_ok-indexes-in-Indexes : goal.returns-in_ok-indexes-in-Indexes
returns-in_ok-indexes-in-Indexes c =
    let parts = parts_of c.args.left.now in
    rw c.in-Indexes.is (read-items Numbers tails.Indexes parts (numbers_of parts) (Some c.in_ok-indexes-in-Indexes.field-0) c.in_ok-indexes-in-Indexes.ensures refl)

pub returns-in_ok-multipliers-in-Multipliers : goal.returns-in_ok-multipliers-in-Multipliers
returns-in_ok-multipliers-in-Multipliers c =
    let parts = parts_of c.args.left.now in
    rw c.in-Multipliers.is (read-items Pairs (tails.Multipliers c.in-Multipliers.most) parts (map pair_of parts) (Some c.in_ok-multipliers-in-Multipliers.field-0) (c.in_ok-multipliers-in-Multipliers.ensures ∙ ap (λ most. cond (are_multiplier_parts most parts) (Some (map pair_of parts)) None) c.from.ensures) refl)

pub returns-in_ok-pairs-in-Pairs : goal.returns-in_ok-pairs-in-Pairs
returns-in_ok-pairs-in-Pairs c =
    let parts = parts_of c.args.left.now in
    rw c.in-Pairs.is (read-items Pairs (tails.Pairs c.in-Pairs.most) parts (map pair_of parts) (Some c.in_ok-pairs-in-Pairs.field-0) c.in_ok-pairs-in-Pairs.ensures refl)
