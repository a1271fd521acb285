use Rattle.std.proofs.Common.{◌∷◌, Some, ap, sym, ◌∙◌}
use Rattle.wrp_grammar.specs.Parts.{parts_of}
use Rattle.wrp_turn.proofs.StepPairs.{two_held}
use Rattle.wrp_turn.proofs.bans.two_steps.Goals as goal

pub returns-in-Some-Some-None : goal.returns-in-Some-Some-None
returns-in-Some-Some-None c =
    let i = c.in-Some-Some-None in
    two_held (parts_of c.args.text.now) i.first i.second
    (sym c.new.ensures ∙ c.in_ok-steps.was ∙ ap Some (i.ensures.steps ∙ ap (λ xs. i.first ∷ xs) (i.ensures'.steps ∙ ap (λ xs. i.second ∷ xs) i.ensures''.steps.0)))
