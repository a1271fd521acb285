use Rattle.std.proofs.Common.{ℕ, List, [], ◌∷◌, Some, set, sym, subst}
use Rattle.wrp_parts.specs.Traversal.{IsVisit}
use Rattle.wrp_parts.proofs.Visits.{visit_new, none_from_test}
use Rattle.wrp_parts.proofs.traversal.meet.Goals as goal

pub returns-in_ok-push : goal.returns-in_ok-push
returns-in_ok-push c =
    subst (λ (t : List ℕ). IsVisit (c.args.j ∷ []) c.args.part c.args.of.now c.args.stack.now.items (set c.args.of.now c.args.j (Some c.args.part)) t) (sym c.in_ok-push.ensures.items)
    (visit_new c.args.j c.args.part c.args.of.now c.args.stack.now.items c.requires (none_from_test _ c.is_none.result c.is_none.ensures c.if-is_none.true))
