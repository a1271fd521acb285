use Rattle.wrp_licence.proofs.Pools.{full_pool, few_cuts, since_more}
use Rattle.wrp_licence.proofs.cuts_are_counted.Goals as goal

pub returns-clause-few : goal.returns-clause-few
returns-clause-few c = λ town records valid. few_cuts town records valid

pub returns-clause-since : goal.returns-clause-since
returns-clause-since c = λ added item. since_more added item

pub returns-clause-full : goal.returns-clause-full
returns-clause-full c = λ town records item valid unlabelled cut kept refused. full_pool town records item valid unlabelled cut kept refused
