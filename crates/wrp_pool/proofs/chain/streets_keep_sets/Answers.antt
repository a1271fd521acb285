use Rattle.std.proofs.Common.{length, sym, ◌∙◌, arith}
use Rattle.wrp_pool.specs.Chains.{keeps_sets}
use Rattle.wrp_pool.proofs.Ranges.{all_more, not_all}
use Rattle.wrp_pool.proofs.chain.streets_keep_sets.Goals as goal

pub returns-then-not-keeps_sets : goal.returns-then-not-keeps_sets
returns-then-not-keeps_sets c =
    sym (not_all (keeps_sets c.args.town.now c.args.last c.args.of.now) (length c.args.town.now.streets) c.loop-street.street (omega (arith, c.loop-street-test.true, c.len-street-end.ensures)) (sym c.keeps_sets.ensures ∙ c.if-not-keeps_sets.true))

pub loop-street-preserved : goal.loop-street-preserved
loop-street-preserved c =
    all_more (keeps_sets c.args.town.now c.args.last c.args.of.now) c.loop-street.street c.loop-street.invariant (sym c.keeps_sets.ensures ∙ c.if-not-keeps_sets.false)
