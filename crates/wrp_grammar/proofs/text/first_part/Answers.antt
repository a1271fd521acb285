use Rattle.wrp_grammar.proofs.Cutting.{first_cut, spaced_cut}
use Rattle.wrp_grammar.proofs.text.first_part.Goals as goal

pub returns-clause-parts : goal.returns-clause-parts
returns-clause-parts c =
    rw (c.split_at.ensures.front, c.split_at.ensures.back, c.bytes_before.ensures.place) (first_cut c.args.bytes.now)

pub returns-clause-spaced : goal.returns-clause-spaced
returns-clause-spaced c = rw (c.split_at.ensures.back, c.bytes_before.ensures.place) (spaced_cut c.args.bytes.now)
