use Rattle.std.proofs.Common.{◌*◌, ◌<◌, length, subst, sym, arith}
use Rattle.wrp_town.specs.Arcs.{tail_of}
use Rattle.wrp_town.proofs.TownLaws.{tail_of-below}
use Rattle.wrp_pool.proofs.chain.mark_holder.Goals as goal

pub bounds-held-tail_set : goal.bounds-held-tail_set
bounds-held-tail_set c =
    subst (λ i. i < length c.args.held.now) (sym c.tail_set.ensures)
    (c.requires.room (tail_of c.args.town.now (2 * c.args.street)) 0 (omega (arith, c.requires.all, tail_of-below c.args.town.now (2 * c.args.street) (omega (arith, c.requires.there)))))
