use Rattle.wrp_postman.proofs.text.usage_text.Goals as goal

pub returns : goal.returns
returns c = c.from_str.ensures.ok
