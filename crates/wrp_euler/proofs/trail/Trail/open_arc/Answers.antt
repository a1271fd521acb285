use Rattle.std.proofs.Common.{◌≡◌, ◌<◌, ◌==◌, length, slice_index, arith}
use Rattle.std.proofs.lemmas.List.{get_or_read}
use Rattle.wrp_town.specs.Arcs.{tail_of}
use Rattle.wrp_euler.proofs.StarCounts.{star_inside}
use Rattle.wrp_euler.proofs.Places.{open_at, none_left}
use Rattle.wrp_euler.proofs.trail.Trail.open_arc.Goals as goal

pub first_left-place-requires-clause-inside : goal.first_left-place-requires-clause-inside
first_left-place-requires-clause-inside c =
    rw c.as_slice.ensures.value
    (star_inside c.args.graph.now (λ arc. tail_of c.args.graph.now arc == c.args.self.now.at) c.out_of-arcs.result.now c.args.self.now.left.items c.out_of-arcs.ensures c.requires.sized)

pub returns-then-place-arcs-clause-arc : goal.returns-then-place-arcs-clause-arc
returns-then-place-arcs-clause-arc c =
    open_at c.args.graph.now c.args.self.now.at c.out_of-arcs.result.now c.args.self.now.left.items c.out_of-arcs.ensures c.first_left-place.result c.if-place-arcs.true
    (rw c.as_slice.ensures.value at c.first_left-place.ensures.found c.if-place-arcs.true)

pub returns-else-place-arcs-clause-arc : goal.returns-else-place-arcs-clause-arc
returns-else-place-arcs-clause-arc c =
    let next = c.args.self.now.next.items in
    let there : c.args.self.now.at < length next = omega (arith, c.requires.there, c.requires.places.each) in
    let from : c.index.result.now ≡ slice_index next c.args.self.now.at = get_or_read next _ _ there c.index.ensures 0 in
    none_left c.args.graph.now c.args.self.now.left.items next c.args.self.now.at c.out_of-arcs.result.now c.index.result.now c.first_left-place.result
    c.requires.places c.out_of-arcs.ensures from (rw c.as_slice.ensures.value at c.first_left-place.ensures.passed) c.if-place-arcs.false
