use Rattle.std.proofs.Common.{Some, None, cond, ◌&&◌, sym, ap, ◌∙◌}
use Rattle.std.proofs.Math.Bool.{and-false}
use Rattle.std.specs.List.{list_any, list_all, before_first, after_first}
use Rattle.std.specs.Option.{option_map}
use Rattle.wrp_grammar.specs.Parts.{parts_of, numbers_of, is_index_part}
use Rattle.wrp_grammar.specs.Shapes.{is_slash}
use Rattle.wrp_grammar.specs.Reading.{items_held}
use Rattle.wrp_grammar.proofs.Guards.{guard-none}
use Rattle.wrp_grammar.proofs.RightLines.{no-labels, labels-there}
use Rattle.wrp_grammar.proofs.contents.read_labels.Goals as goal

pub returns-in_err-labels : goal.returns-in_err-labels
returns-in_err-labels c =
    let parts = parts_of c.args.left.now in
    ap (option_map items_held) c.from_residual.ensures
    ∙ no-labels parts (ap (λ b. b && (list_all is_index_part (before_first is_slash parts) && list_all is_index_part (after_first is_slash parts))) (sym c.in_err-labels.ensures.some))

pub returns-in_err-labels-2 : goal.returns-in_err-labels-2
returns-in_err-labels-2 c =
    let parts = parts_of c.args.left.now in
    let none = guard-none _ _ c.in_err-labels-2.ensures in
    ap (option_map items_held) c.from_residual-in_err-labels-2.ensures
    ∙ no-labels parts (ap (λ b. list_any is_slash parts && (b && list_all is_index_part (after_first is_slash parts))) (ap (list_all is_index_part) (sym c.in_ok-labels.ensures.labels) ∙ none) ∙ and-false (list_any is_slash parts))

pub returns-in_err-streets : goal.returns-in_err-streets
returns-in_err-streets c =
    let parts = parts_of c.args.left.now in
    let none = guard-none _ _ c.in_err-streets.ensures in
    ap (option_map items_held) c.from_residual-in_err-streets.ensures
    ∙ no-labels parts (ap (λ b. list_any is_slash parts && (list_all is_index_part (before_first is_slash parts) && b)) (ap (list_all is_index_part) (sym c.in_ok-labels.ensures.streets) ∙ none)
    ∙ ap (λ b. list_any is_slash parts && b) (and-false (list_all is_index_part (before_first is_slash parts))) ∙ and-false (list_any is_slash parts))

pub returns : goal.returns
returns c =
    labels-there (parts_of c.args.left.now) c.in_ok-labels-2.labels c.in_ok-streets.streets (sym c.in_ok-labels.ensures.some)
    (c.in_ok-labels-2.ensures ∙ ap (λ ps. cond (list_all is_index_part ps) (Some (numbers_of ps)) None) c.in_ok-labels.ensures.labels)
    (c.in_ok-streets.ensures ∙ ap (λ ps. cond (list_all is_index_part ps) (Some (numbers_of ps)) None) c.in_ok-labels.ensures.streets)
