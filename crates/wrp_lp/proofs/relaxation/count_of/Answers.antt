use Rattle.std.proofs.Common.{length, arith}
use Rattle.wrp_lp.proofs.Endings.{few_chosen}
use Rattle.wrp_lp.proofs.relaxation.count_of.Goals as goal

pub prove-unreachable-requires : goal.prove-unreachable-requires
prove-unreachable-requires c =
    let few = few_chosen (length c.args.rows.now.rows) c.args.chosen.now c.requires.ascending c.requires.there in
    absurd (omega arith)
