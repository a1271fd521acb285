use Rattle.std.proofs.Common.{◌++◌, [], ◌∷◌, ◌<◌, Bool, true, false, not, is_some, length, take, heap_items, subst, sym, ap, ◌∙◌, arith, append_assoc, append-nil}
use Rattle.std.specs.List.Sorted.{IsPermutation}
use Rattle.std.proofs.lemmas.List.Sorted.{IsPermutation-push_more}
use Rattle.wrp_paths.specs.Search.{onward}
use Rattle.wrp_paths.proofs.Queues.{onward_more}
use Rattle.wrp_paths.proofs.search.go_on.Goals as goal
use Rattle.wrp_paths.proofs.search.go_on.Goals.{then-is_none+in_ok-push, else-is_none}

pub loop-arc-preserved : goal.loop-arc-preserved
loop-arc-preserved c =
    let old = heap_items c.args.queue.now in
    let arcs = c.args.arcs.now in
    let i = c.loop-arc.arc-index in
    let done = onward c.args.town.now c.args.table.now c.args.walk (take i arcs) in
    let below : i < length arcs = omega arith in
    let there = ap is_some (sym c.entry.ensures) ∙ c.is_none.ensures in
    let more = λ (settled : Bool). onward_more c.args.town.now c.args.table.now c.args.walk c.along-next.result arcs i settled below c.along-next.ensures in
    elim c.if-is_none.branch [
      | then-is_none+in_ok-push w ↦
          let same = append_assoc old done (record { 0 = c.along-next.result } ∷ []) ∙ ap (λ l. old ++ l) (sym (more false (there ∙ ap not w.if-is_none.true))) in
          rw w.queue-is (record {
            queued = subst (λ l. IsPermutation l (heap_items w.push.new.self)) same (IsPermutation-push_more (old ++ done) _ _ _ c.loop-arc.invariant.queued w.in_ok-push.ensures.permutation);
            order = λ heap. w.in_ok-push.ensures.heap_order (c.loop-arc.invariant.order heap);
          })
      | else-is_none w ↦
          let same = sym (more true (there ∙ ap not w.if-is_none.false) ∙ append-nil done) in
          rw w.queue-is (record { queued = subst (λ l. IsPermutation (old ++ l) (heap_items c.loop-arc.queue)) same c.loop-arc.invariant.queued; order = c.loop-arc.invariant.order })
    ]
