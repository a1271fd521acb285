use Rattle.std.proofs.Common.{◌≡◌, ◌+◌, pos, ◌+ℤ◌, to_z, of_z, arith, sym, ◌∙◌, subst}
use Rattle.std.specs.Int.{w64}
use Rattle.std.proofs.lemmas.List.{with_items_is}
use Rattle.wrp_sums.proofs.Integers.{casts}
use Rattle.wrp_rules.specs.Sets.{crossing_demands}
use Rattle.wrp_rules.specs.Rows.{odd_row, one_if}
use Rattle.wrp_town.specs.Arcs.{tail_of, head_of}
use Rattle.wrp_rows.specs.Marks.{AreMarks, differ}
use Rattle.wrp_rows.proofs.Made.{refused_by, row_made, marks_cross}
use Rattle.wrp_rows.proofs.bench.Bench.make_odd.Goals as goal

pub returns-in_err-crossing-clause-judged : goal.returns-in_err-crossing-clause-judged
returns-in_err-crossing-clause-judged c = λ s roomy.
    refused_by _ c.in_err-crossing.field-0.0 c.from_residual.result (c.in_err-crossing.ensures.judged s roomy) c.from_residual.ensures.1

pub returns-clause-row : goal.returns-clause-row
returns-clause-row c = λ s.
    let town = c.args.town.now in
    let set = c.args.set.now in
    let marks = c.as_slice.result.now in
    let same : marks ≡ c.judge_odd.new.marks = c.as_slice.ensures.value ∙ with_items_is c.args.self.now.marks c.judge_odd.new.marks (omega arith) in
    let side : to_z w64 (of_z w64 (to_z w64 (of_z w64 c.from.result) +ℤ pos 1)) ≡ pos (crossing_demands town set + 1) =
    omega (arith, casts, c.from.ensures, c.in_ok-crossing.ensures.count, c.in_ok-crossing.ensures.few) in
    row_made town (odd_row town set) (λ arc. one_if (differ marks (tail_of town arc) (head_of town arc))) c.gather.new.terms.items _ c.in_ok-gather.ensures.terms
    (λ arc legal. marks_cross town set marks arc (subst (AreMarks set) (sym same) c.in_ok-crossing.ensures.marks)) side
