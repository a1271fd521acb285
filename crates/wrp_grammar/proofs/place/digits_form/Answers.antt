use Rattle.wrp_grammar.proofs.DigitFronts.{digits-front}
use Rattle.wrp_grammar.proofs.place.digits_form.Goals as goal

pub returns-else-is_digits_text-clause-front : goal.returns-else-is_digits_text-clause-front
returns-else-is_digits_text-clause-front c = digits-front c.args.part.now c.digits_before.result c.digits_before.ensures.digits
