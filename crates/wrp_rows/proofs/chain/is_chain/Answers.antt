use Rattle.std.proofs.Common.{sym, arith}
use Rattle.wrp_rows.proofs.Chained.{long_is_no_chain, partition_parts}
use Rattle.wrp_rows.proofs.chain.is_chain.Goals as goal

pub returns-then-k-held-clause-value : goal.returns-then-k-held-clause-value
returns-then-k-held-clause-value c =
    let parts = partition_parts c.args.town.now c.args.k c.args.of.now c.requires.partition in
    sym (long_is_no_chain c.args.town.now c.args.k c.args.of.now parts.many (omega arith))
