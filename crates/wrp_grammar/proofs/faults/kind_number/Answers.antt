use Rattle.std.proofs.Common.{arith, ◌-◌, ◌∙◌, length, drop, ap}
use Rattle.std.proofs.lemmas.List.{take_all, length-drop}
use Rattle.wrp_grammar.proofs.LineNumbers.{kind-first}
use Rattle.wrp_grammar.proofs.faults.kind_number.Goals as goal

pub returns-clause-first : goal.returns-clause-first
returns-clause-first c = λ wrong.
    let line = c.args.line.now in
    let e = c.layout_of-layout.ensures in
    let d = length c.layout_of-layout.result.word.now in
    kind-first c.args.kind line _ c.layout_of-layout.result.numbers.now c.layout_of-layout.result.tail c.parts_number.result _ e.numbers e.tail
    (take_all (length line - d) (drop d line) (omega (arith, length-drop d line)) ∙ ap (λ word. drop (length word) line) e.word)
    c.requires wrong c.parts_number.ensures.first (omega (arith, ap length e.word))
