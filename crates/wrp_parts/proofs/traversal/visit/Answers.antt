use Rattle.std.proofs.Common.{ℕ, List, [], ◌∷◌, get_or, take, sym, subst}
use Rattle.std.proofs.lemmas.List.{take_more}
use Rattle.wrp_parts.specs.Traversal.{IsVisit}
use Rattle.wrp_parts.proofs.Visits.{visit_join}
use Rattle.wrp_parts.proofs.traversal.visit.Goals as goal

pub loop-j-preserved : goal.loop-j-preserved
loop-j-preserved c =
    let i = c.loop-j.j-index in
    let junctions = c.args.junctions.now in
    subst (λ (js : List ℕ). IsVisit js c.args.part c.args.of.now c.args.stack.now.items c.meet.new.of c.meet.new.stack.items) (sym (take_more junctions i 0 c.loop-j-test.true))
    (visit_join (take i junctions) (get_or junctions i 0 ∷ []) c.args.part c.args.of.now c.loop-j.of c.meet.new.of c.args.stack.now.items c.loop-j.stack.items c.meet.new.stack.items c.loop-j.invariant c.in_ok-meet.ensures)
