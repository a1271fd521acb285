use Rattle.std.proofs.Common.{◌≡◌, reverse}
use Rattle.wrp_town.specs.Arcs.{tail_of}
use Rattle.wrp_euler.specs.Circuits.{AreNone, IsLeastUsed}
use Rattle.wrp_euler.proofs.PieceLaws.{piece_circuit, piece_apart, circuit_one_piece}
use Rattle.wrp_euler.proofs.circuits.circuit_from.Goals as goal

pub returns-in-Some-clause-fault : goal.returns-in-Some-clause-fault
returns-in-Some-clause-fault c =
    let trail = c.in_ok-trail.trail in
    let begins : c.tail-base.result ≡ tail_of c.args.graph.now c.args.first = rw c.town.ensures at c.tail-base.ensures.value in
    let rest : IsLeastUsed trail.left.items c.in-Some.other = rw c.as_slice.ensures.value at c.in-Some.ensures in
    piece_apart c.args.graph.now c.args.counts.now c.tail-base.result trail.left.items trail.done.items c.in_ok-trail.ensures
    c.requires.counts c.requires.balanced c.args.first c.in-Some.other c.requires.first begins rest

pub returns-in-None-clause-circuit : goal.returns-in-None-clause-circuit
returns-in-None-clause-circuit c =
    let trail = c.in_ok-trail.trail in
    let none : AreNone trail.left.items = rw c.as_slice.ensures.value at c.in-None.ensures in
    rw c.from_vec.ensures (rw c.reverse.ensures.items (piece_circuit c.args.graph.now c.args.counts.now c.tail-base.result trail.left.items trail.done.items c.in_ok-trail.ensures none))

pub returns-in-None-clause-one_piece : goal.returns-in-None-clause-one_piece
returns-in-None-clause-one_piece c =
    let trail = c.in_ok-trail.trail in
    let none : AreNone trail.left.items = rw c.as_slice.ensures.value at c.in-None.ensures in
    circuit_one_piece c.args.graph.now c.args.counts.now (reverse trail.done.items)
    (piece_circuit c.args.graph.now c.args.counts.now c.tail-base.result trail.left.items trail.done.items c.in_ok-trail.ensures none)
