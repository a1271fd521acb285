use Rattle.std.proofs.Common.{List, refl, sym, subst}
use Rattle.wrp_round.specs.declared.candidates.Candidate.{Candidate}
use Rattle.wrp_round.specs.Gathering.{IsAdded}
use Rattle.wrp_round.proofs.Gathered.{added_push}
use Rattle.wrp_round.proofs.candidates.add.Goals as goal

pub returns-in_ok-push : goal.returns-in_ok-push
returns-in_ok-push c = λ s has.
    let town = c.args.rows.now.town in
    let old = c.args.found.now.items in
    let new : Candidate = record { item = c.args.item; divisor = c.divisor_of-divisor.result; size = c.in-Some.size } in
    subst (λ (xs : List Candidate). IsAdded town s c.args.point.now c.args.item old xs) (sym c.in_ok-push.ensures.items)
    (added_push town s c.args.point.now c.args.item old new refl ((c.in-Some.ensures s has).0 refl))
