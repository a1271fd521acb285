use Rattle.std.proofs.Common.{◌<◌, ℕ, List, Option, Some, is_some, length, set, refl, sym, ap, ◌∙◌, subst, arith}
use Rattle.wrp_flow.specs.declared.reach.Mark.{Mark}
use Rattle.wrp_flow.specs.Searches.{mark_at, GoesOn}
use Rattle.wrp_flow.proofs.Sides.{end_below}
use Rattle.wrp_flow.proofs.Searches.{goes_on_new, none_from, read_option}
use Rattle.wrp_flow.proofs.reach.Reach.meet.Goals as goal

pub returns-clause-more : goal.returns-clause-more
returns-clause-more c =
    let net = c.args.net.now in
    let marks = c.args.self.now.marks.items in
    let mark : Mark = record { side = c.args.side; place = c.len-place.result; most = c.min-most.result } in
    let head_below : c.end-head.result < length marks = omega (arith, c.requires.marks, c.end-head.ensures, end_below net c.requires.net c.args.side c.requires.inside) in
    subst (λ (q : List ℕ). GoesOn net c.args.room.now marks c.args.self.now.queue.items (set marks c.end-head.result (Some mark)) q) (sym c.in_ok-push.ensures.items)
    (goes_on_new net c.args.room.now marks c.args.self.now.queue.items c.end-head.result c.mark_of.result mark
    c.requires.inside
    (sym c.end-head.ensures)
    (ap (mark_at marks) c.requires.begins ∙ ap (λ (ms : List (Option Mark)). mark_at ms c.args.node) (sym c.as_slice.ensures.value) ∙ c.mark_of.ensures)
    head_below
    (none_from (mark_at marks c.end-head.result) (ap is_some (sym (read_option marks c.end-head.result (length marks) c.index.result.now c.index.ensures refl head_below)) ∙ sym c.is_some.ensures ∙ c.if-is_some.false))
    (c.len-place.ensures ∙ c.args.self.now.queue.ok.0)
    (omega (arith, c.if-room-side-eq0.false))
    c.min-most.ensures)
