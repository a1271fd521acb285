use Rattle.wrp_check.proofs.TourLaws.{either-first, either-second}
use Rattle.wrp_check.proofs.tour.is_street_served.Goals as goal

pub returns-then-forward : goal.returns-then-forward
returns-then-forward c = λ steps marks.
    either-first c.args.used.now steps c.args.street c.args.need c.in-Either.is marks c.requires c.if-forward.true

pub returns-else-forward : goal.returns-else-forward
returns-else-forward c = λ steps marks.
    either-second c.args.used.now steps c.args.street c.args.need c.in-Either.is marks c.requires c.if-forward.false
