use Rattle.wrp_grammar.specs.Shapes.{is_of_kinds}
use Rattle.wrp_grammar.proofs.PlaceLaws.{one-front, one-number, bad-wrong, content-right}
use Rattle.wrp_grammar.proofs.laws.place_laws.Goals as goal

pub returns : goal.returns
returns c = record {
  form = one-front (is_of_kinds c.args.kinds.now) c.args.line.now;
  number = one-number c.args.kinds.now c.requires c.args.line.now;
  wrong = bad-wrong c.args.kinds.now c.requires c.args.line.now;
  spelled = content-right c.args.kinds.now c.requires c.args.line.now;
}
