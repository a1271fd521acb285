use Rattle.std.proofs.Common.{rules, append_assoc}
use Rattle.wrp_writer.proofs.part.Part.text.Goals as goal

pub returns-in-Pair : goal.returns-in-Pair
returns-in-Pair c = rw c.in-Pair.is (search (rules, append_assoc))
