use Rattle.std.proofs.Common.{ℕ, List, take, sym, subst, arith}
use Rattle.std.proofs.lemmas.List.{take_more}
use Rattle.wrp_minodd.specs.Looks.{HasSeen}
use Rattle.wrp_minodd.proofs.look.see_all.Goals as goal

pub loop-t-preserved : goal.loop-t-preserved
loop-t-preserved c =
    let others = c.args.others.now in
    let i = c.loop-t.t-index in
    subst (λ (xs : List ℕ). HasSeen c.args.town.now c.args.point.now c.args.map.now c.args.s xs c.see.new.seen) (sym (take_more others i 0 (omega arith)))
    (c.in_ok-see.ensures (take i others) c.loop-t.invariant)
