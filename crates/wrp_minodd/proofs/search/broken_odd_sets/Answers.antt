use Rattle.std.proofs.Common.{◌≡◌, [], subst}
use Rattle.std.specs.Prelude.{◌↔◌}
use Rattle.wrp_town.specs.declared.town.Town.{Town}
use Rattle.wrp_minodd.specs.Answers.{MeetsOdd}
use Rattle.wrp_minodd.proofs.search.broken_odd_sets.Goals as goal

pub returns-clause-none : goal.returns-clause-none
returns-clause-none c = subst (λ (town : Town). (c.in_ok-found.found.items ≡ []) ↔ MeetsOdd town c.args.point.now) c.town.ensures c.in_ok-found.ensures.none
