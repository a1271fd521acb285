use Rattle.std.proofs.Common.{rules, ◌≡◌, false}
use Rattle.wrp_grammar.specs.Parts.{parts_of}
use Rattle.wrp_grammar.specs.Shapes.{is_nothing}
use Rattle.wrp_grammar.proofs.LeftFronts.{nothing-front}
use Rattle.wrp_grammar.proofs.place.nothing_form.Goals as goal

pub returns-then-is_some-clause-front : goal.returns-then-is_some-clause-front
returns-then-is_some-clause-front c =
    let some : is_nothing (parts_of c.args.left.now) ≡ false = search rules in
    nothing-front c.args.left.now c.requires some
