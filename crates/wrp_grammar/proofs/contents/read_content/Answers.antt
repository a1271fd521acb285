use Rattle.std.proofs.Common.{Some, None, sym, ap, ◌∙◌}
use Rattle.std.specs.Option.{option_map}
use Rattle.wrp_rules.specs.Contents.{content}
use Rattle.wrp_grammar.specs.Reading.{numbers_held, items_held, content_held}
use Rattle.wrp_grammar.proofs.RightLines.{no-content, content-there}
use Rattle.wrp_grammar.proofs.contents.read_content.Goals as goal

pub returns-in_err-numbers : goal.returns-in_err-numbers
returns-in_err-numbers c =
    ap (option_map content_held) c.from_residual.ensures
    ∙ sym (no-content c.args.kind c.args.left.now c.layout_of-layout.result.numbers.now c.layout_of-layout.ensures.numbers (sym c.goes_on_with_space.ensures ∙ c.if-not-goes_on_with_space.false) (sym c.in_err-numbers.ensures.some))

pub returns-in_err-items : goal.returns-in_err-items
returns-in_err-items c = ap (option_map content_held) c.from_residual-in_err-items.ensures
    ∙ content-there c.args.kind c.args.left.now c.in_ok-numbers.left.now c.layout_of-layout.result.numbers.now c.layout_of-layout.result.tail None c.layout_of-layout.ensures.numbers c.layout_of-layout.ensures.tail
    (sym c.goes_on_with_space.ensures ∙ c.if-not-goes_on_with_space.false) (sym c.in_ok-numbers.ensures.some) c.in_ok-numbers.ensures.left c.in_err-items.ensures

pub returns : goal.returns
returns c =
    ap (λ ranges. Some (content c.args.kind (numbers_held ranges c.in_ok-numbers.numbers) (items_held c.in_ok-items.items))) (sym c.layout_of-layout.ensures.numbers)
    ∙ ap (λ ns. Some (content c.args.kind ns (items_held c.in_ok-items.items))) c.in_ok-numbers.ensures.numbers
    ∙ content-there c.args.kind c.args.left.now c.in_ok-numbers.left.now c.layout_of-layout.result.numbers.now c.layout_of-layout.result.tail (Some (items_held c.in_ok-items.items)) c.layout_of-layout.ensures.numbers c.layout_of-layout.ensures.tail
    (sym c.goes_on_with_space.ensures ∙ c.if-not-goes_on_with_space.false) (sym c.in_ok-numbers.ensures.some) c.in_ok-numbers.ensures.left c.in_ok-items.ensures
