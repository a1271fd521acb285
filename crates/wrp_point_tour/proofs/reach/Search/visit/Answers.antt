use Rattle.std.proofs.Common.{ℕ, ◌+◌, [], ◌∷◌, get_or, take, subst, sym, arith}
use Rattle.std.proofs.lemmas.Bool.{lt-ltb, ltb-true, false_from_ne_true}
use Rattle.wrp_euler.specs.Circuits.{is_used}
use Rattle.wrp_point_tour.specs.declared.reach.Search.{Search}
use Rattle.wrp_point_tour.specs.Search.{IsVisit, heads_of_used}
use Rattle.wrp_point_tour.proofs.Searches.{visit_used, visit_unused}
use Rattle.wrp_point_tour.proofs.reach.Search.visit.Goals as goal
use Rattle.wrp_point_tour.proofs.reach.Search.visit.Goals.{then-counts-arc-gt0+in_ok-meet, else-counts-arc-gt0}

pub loop-arc-preserved : goal.loop-arc-preserved
loop-arc-preserved c =
    let town = c.args.town.now in
    let counts = c.args.counts.now in
    let arcs = c.args.arcs.now in
    let i = c.loop-arc.arc-index in
    let mid = c.loop-arc.self in
    let old = c.args.self.now in
    elim c.if-counts-arc-gt0.branch [
      | then-counts-arc-gt0+in_ok-meet w ↦
          subst (λ (s : Search). IsVisit (heads_of_used town counts (take (i + 1) arcs)) old.marks.items old.stack.items s.marks.items s.stack.items) (sym w.self-is)
          (visit_used town counts arcs i old.marks.items mid.marks.items w.meet.new.self.marks.items old.stack.items mid.stack.items w.meet.new.self.stack.items c.loop-arc-test.true (lt-ltb 0 _ w.if-counts-arc-gt0.true) c.loop-arc.invariant
          (subst (λ (n : ℕ). IsVisit (n ∷ []) mid.marks.items mid.stack.items w.meet.new.self.marks.items w.meet.new.self.stack.items) w.head.ensures.value w.in_ok-meet.ensures))
      | else-counts-arc-gt0 w ↦
          subst (λ (s : Search). IsVisit (heads_of_used town counts (take (i + 1) arcs)) old.marks.items old.stack.items s.marks.items s.stack.items) (sym w.self-is)
          (visit_unused town counts arcs i old.marks.items mid.marks.items old.stack.items mid.stack.items c.loop-arc-test.true
          (false_from_ne_true (is_used counts (get_or arcs i 0)) (λ used. omega (arith, ltb-true 0 (get_or counts (get_or arcs i 0) 0) used, w.if-counts-arc-gt0.false))) c.loop-arc.invariant)
    ]
