use Rattle.wrp_tree.proofs.Keeping.{kept_sound, below_count}
use Rattle.wrp_tree.proofs.kept.Kept.is_open.Goals as goal

pub is_open-requires-clause-there : goal.is_open-requires-clause-there
is_open-requires-clause-there c = below_count c.requires.0 c.requires.1 c.args.self.now c.requires.2 c.args.node c.requires.3

pub is_open-requires-clause-sound : goal.is_open-requires-clause-sound
is_open-requires-clause-sound c = kept_sound c.requires.0 c.requires.1 c.args.self.now c.requires.2

pub returns : goal.returns
returns c = λ town s is. c.is_open.ensures town s.nodes s.upper is.index
