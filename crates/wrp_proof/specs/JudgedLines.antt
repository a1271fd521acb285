-- What a checker says of one line behind what stands: its record or its end, or the rule that it
-- breaks. A line that spells neither breaks Form or Number.
use Rattle.std.specs.Prelude.{ℕ, Bool, if◌then◌else◌, nat_eq, codes, List, Option, None, Some, Result, Ok, Err}
use Rattle.std.specs.List.{starts_with}
use Rattle.wrp_town.specs.declared.town.Town.{Town}
use Rattle.wrp_rules.specs.declared.record.Record.{Record}
use Rattle.wrp_rules.specs.declared.record.End.{End}
use Rattle.wrp_rules.specs.declared.rule.Rule.{Rule}
use Rattle.wrp_rules.specs.declared.rule.Rule.TheVariants as rules
use Rattle.wrp_rules.specs.Nodes.{Standing}
use Rattle.wrp_rules.specs.Rules.{broken_rule}
use Rattle.wrp_rules.specs.Lists.{agrees}
use Rattle.wrp_grammar.specs.Shapes.{has_shape, has_end_shape}
use Rattle.wrp_grammar.specs.Spelling.{spelled, spelled_end}

-- a value, unless a rule is broken
abbrev pub unless : {X : Type 0} → Option Rule → X → Result X Rule
unless None value = Ok value
unless (Some rule) value = Err rule

-- the record that a line spells, unless it breaks a rule; the fault of a line that spells none
abbrev pub judged_record : Town → Standing → Rule → Option Record → Result Record Rule
judged_record town s fault None = Err fault
judged_record town s fault (Some item) = unless (broken_rule town s item) item

abbrev pub judged_line : Town → Standing → List ℕ → Result Record Rule
judged_line town s line =
    judged_record town s (if has_shape line then rules.Number else rules.Form) (spelled line)

-- the end that a line spells, unless it disagrees with what stands
abbrev pub agreeing_end : Standing → Rule → Option End → Result End Rule
agreeing_end s fault None = Err fault
agreeing_end s fault (Some end) = if agrees s end then Ok end else Err rules.End

abbrev pub judged_end : Standing → List ℕ → Result End Rule
judged_end s line =
    agreeing_end s (if has_end_shape line then rules.Number else rules.Form) (spelled_end line)

-- a line that begins with `end` is read as an end line
abbrev pub is_end : List ℕ → Bool
is_end line = starts_with nat_eq line (codes "end")
