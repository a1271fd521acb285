use Rattle.std.proofs.Common.{◌∙◌, ap, refl}
use Rattle.wrp_tour.specs.declared.plain.Round.{Round}
use Rattle.wrp_town.specs.Arcs.{tail_of, head_of}
use Rattle.wrp_tour.proofs.Rounds.{driven_on}
use Rattle.wrp_tour.proofs.plain.Round.drive.Goals as goal

pub returns-clause-on : goal.returns-clause-on
returns-clause-on c =
    let town = c.args.graph.now in
    let arc = c.args.arc in
    let old = c.args.self.now in
    let mid = c.walk_to.new.self in
    let new : Round = record { base = mid.base; steps = c.push.new.self; at = c.head-self.result } in
    let tail = c.tail.ensures.value ∙ ap (λ t. tail_of t arc) c.town-town.ensures in
    let head = c.head-self.ensures.value ∙ ap (λ t. head_of t arc) c.town-town.ensures in
    driven_on town arc old mid new c.along.result c.in_ok-walk_to.ensures.on (c.in_ok-walk_to.ensures.at ∙ tail) c.requires.arc c.along.ensures.value refl c.in_ok-push.ensures.items head
