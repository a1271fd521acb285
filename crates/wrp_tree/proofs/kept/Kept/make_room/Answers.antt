use Rattle.std.proofs.Common.{OnOk, sym, subst}
use Rattle.wrp_tree.specs.declared.plan.Plan.{Plan}
use Rattle.wrp_tree.specs.Plans.{HasRoomFor, IsFor}
use Rattle.wrp_tree.proofs.kept.Kept.make_room.Goals as goal

pub returns-in-Halve-clause-room : goal.returns-in-Halve-clause-room
returns-in-Halve-clause-room c = λ town s is for made.
    let both = subst (IsFor town s) c.in-Halve.is for in
    subst (λ (p : Plan). OnOk c.make_children.result (HasRoomFor town s p (record { records = c.reserve.new.self; rows = c.args.self.now.rows; index = c.make_children.new.self; base = c.args.self.now.base; blind = c.args.self.now.blind; labelled = c.args.self.now.labelled }))) (sym c.in-Halve.is) (c.make_children.ensures.children town s.nodes s.upper is.index both.0 both.1)
