use Rattle.wrp_grammar.proofs.ItemTexts.{steps-parts, joined}
use Rattle.wrp_grammar.proofs.parts.StepsOf.text.Goals as goal

pub returns-in-Some : goal.returns-in-Some
returns-in-Some c = rw (← c.self.view_is) (joined _ _ _ _ _ steps-parts c.self.inside.left.now c.in-Some.text.now c.in-Some.field-0-0.now c.self.invariant c.in-Some.ensures.cases.0)
