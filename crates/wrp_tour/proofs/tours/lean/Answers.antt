use Rattle.std.proofs.Common.{List, subst}
use Rattle.wrp_town.specs.declared.street.Step.{Step}
use Rattle.wrp_tour.specs.Tours.{UsesFew}
use Rattle.wrp_tour.proofs.tours.lean.Goals as goal

pub returns-then-branch-clause-lean : goal.returns-then-branch-clause-lean
returns-then-branch-clause-lean c =
    record { tour = c.requires; few = subst (λ (xs : List Step). UsesFew c.args.town.now xs) c.as_slice.ensures (c.in_ok-uses_few.ensures c.if-branch.true) }
