use Rattle.std.proofs.Common.{ℕ, List, [], ◌∷◌, false, length, get_or, replicate, rules, ap, ◌∙◌, subst, arith}
use Rattle.wrp_town.specs.declared.town.Town.{Town}
use Rattle.wrp_town.proofs.TownLaws.{legal_below}
use Rattle.wrp_graph.specs.Stars.{out_of}
use Rattle.wrp_reach.proofs.Ways.{out_of-legal}
use Rattle.wrp_point_tour.specs.Search.{IsSearch, IsVisit, heads_of_used}
use Rattle.wrp_point_tour.proofs.Searches.{search_first, search_more, next_inside}
use Rattle.wrp_point_tour.proofs.reach.reached.Goals as goal

pub loop-j-init : goal.loop-j-init
loop-j-init c =
    let none = c.in_ok-vec.field-0.items in
    let marks = c.meet.new.self.marks.items in
    let stack = c.meet.new.self.stack.items in
    search_first c.args.graph.now c.args.counts.now c.args.base none marks stack
    (c.in_ok-vec.ensures.items_if_clones_equal (λ y h. search rules) ∙ ap (λ (n : ℕ). replicate n false) (c.len.ensures ∙ ap (λ (t : Town). length t.junctions) c.town.ensures))
    (subst (λ (s : List ℕ). IsVisit (c.args.base ∷ []) none s marks stack) c.new.ensures.items c.in_ok-meet.ensures)

pub out_of-requires : goal.out_of-requires
out_of-requires c =
    next_inside c.args.graph.now c.args.counts.now c.args.base c.loop-j.found.marks.items c.pop.new.self.items c.in-Some.j
    (subst (λ (s : List ℕ). IsSearch c.args.graph.now c.args.counts.now c.args.base c.loop-j.found.marks.items s) c.in-Some.ensures.items c.loop-j.invariant)

pub visit-requires-clause-arcs : goal.visit-requires-clause-arcs
visit-requires-clause-arcs c = λ k small.
    let town = c.args.graph.now in
    let j = c.in-Some.j in
    let same = c.out_of.ensures in
    omega (
      arith,
      legal_below town (get_or (out_of town j) k 0) (out_of-legal town j k 0 (omega (arith, small, ap length same))),
      ap (λ (xs : List ℕ). get_or xs k 0) same,
      ap (λ (t : Town). length t.streets) c.town-in-Some.ensures,
    )

pub loop-j-preserved : goal.loop-j-preserved
loop-j-preserved c =
    let town = c.args.graph.now in
    let counts = c.args.counts.now in
    let old = c.loop-j.found.marks.items in
    let new = c.visit.new.self in
    let rest = c.pop.new.self.items in
    search_more town counts c.args.base old new.marks.items rest new.stack.items c.in-Some.j
    (subst (λ (s : List ℕ). IsSearch town counts c.args.base old s) c.in-Some.ensures.items c.loop-j.invariant)
    (subst (λ (t : Town). IsVisit (heads_of_used t counts (out_of town c.in-Some.j)) old rest new.marks.items new.stack.items) c.town-in-Some.ensures
    (subst (λ (arcs : List ℕ). IsVisit (heads_of_used c.town-in-Some.result.now counts arcs) old rest new.marks.items new.stack.items) c.out_of.ensures c.in_ok-visit.ensures))
