use Rattle.std.proofs.Common.{FitsSigned, rules, sym, ◌∙◌}
use Rattle.std.specs.Int.{w128}
use Rattle.std.proofs.lemmas.Int.{to_z-of_z}
use Rattle.wrp_rows.proofs.Rounded.{round_rule, named_by}
use Rattle.wrp_rows.proofs.rounding.judge_round.Goals as goal

pub returns-then-is_narrow_row-clause-judged : goal.returns-then-is_narrow_row-clause-judged
returns-then-is_narrow_row-clause-judged c = λ s roomy kept.
    let fits : FitsSigned w128 c.round-side.result = search rules in
    let told = rw (to_z-of_z w128 c.round-side.result fits) at c.is_narrow_row.ensures in
    round_rule c.args.town.now s c.args.table.now c.args.room _ c.args.divisor c.args.mult.now c.round-side.new.sums c.round-side.result roomy kept c.if-not-room.false (named_by c.args.table.now c.args.mult.now c.len.result c.len.ensures (sym c.name_rows.ensures ∙ c.if-not-name_rows.false)) c.round-side.ensures
    (sym told ∙ c.if-is_narrow_row.true)

pub returns-else-is_narrow_row-clause-judged : goal.returns-else-is_narrow_row-clause-judged
returns-else-is_narrow_row-clause-judged c = λ s roomy kept.
    let fits : FitsSigned w128 c.round-side.result = search rules in
    let told = rw (to_z-of_z w128 c.round-side.result fits) at c.is_narrow_row.ensures in
    round_rule c.args.town.now s c.args.table.now c.args.room _ c.args.divisor c.args.mult.now c.round-side.new.sums c.round-side.result roomy kept c.if-not-room.false (named_by c.args.table.now c.args.mult.now c.len.result c.len.ensures (sym c.name_rows.ensures ∙ c.if-not-name_rows.false)) c.round-side.ensures
    (sym told ∙ c.if-is_narrow_row.false)
