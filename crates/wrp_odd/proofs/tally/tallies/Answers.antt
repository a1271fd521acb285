use Rattle.std.proofs.Common.{◌≡◌, ◌+◌, List, get_or, ap, subst, sym, arith}
use Rattle.std.proofs.lemmas.List.{with_items_is}
use Rattle.wrp_odd.specs.declared.tally.Tally.{Tally}
use Rattle.wrp_odd.specs.Points.{numbers_of}
use Rattle.wrp_odd.specs.Crossing.{AreTallies, AreLight, IsCounted}
use Rattle.wrp_odd.proofs.ClassTallies.{tallies_more, light_more}
use Rattle.wrp_odd.proofs.tally.tallies.Goals as goal

pub loop-street-preserved : goal.loop-street-preserved
loop-street-preserved c =
    let town = c.args.town.now in
    let labels = c.args.labels.now in
    let old = c.loop-street.tallies.items in
    let new = c.count.new.tallies in
    let from = get_or labels c.tail.result 0 in
    let to = get_or labels c.head.result 0 in
    let lent : c.deref_mut.result.now ≡ old = c.deref_mut.ensures.value in
    let counted : IsCounted from to c.tally_of.result old new = subst (λ (xs : List Tally). IsCounted from to c.tally_of.result xs new) lent c.count.ensures in
    let same = with_items_is c.loop-street.tallies new (omega (arith, counted.long, c.loop-street.tallies.ok)) in
    record {
      tallies = subst (AreTallies town (numbers_of c.args.point.now) labels (c.loop-street.street + 1)) (sym same)
          (tallies_more town (numbers_of c.args.point.now) labels c.loop-street.street old new c.tally_of.result from to (ap (λ k. get_or labels k 0) c.tail.ensures.value) (ap (λ k. get_or labels k 0) c.head.ensures.value)
          c.tally_of.ensures.sum c.tally_of.ensures.demands counted c.loop-street.invariant.tallies);
      light = subst (AreLight (c.loop-street.street + 1)) (sym same) (light_more c.loop-street.street old new c.tally_of.result from to c.tally_of.ensures.light c.tally_of.ensures.few counted c.loop-street.invariant.light);
    }
