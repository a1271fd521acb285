use Rattle.std.proofs.Common.{◌≡◌, ◌<◌, ◌^◌, ◌++◌, ◌∷◌, [], ℕ, ℤ, List, pos, to_z, of_z, get_or, length, ap, ◌∙◌, arith}
use Rattle.std.specs.Prelude.{unsigned_abs}
use mir.Syntax.{w128}
use Rattle.wrp_sums.proofs.Integers.{casts}
use Rattle.wrp_webs.proofs.SumsBelow.{term_sum}
use Rattle.wrp_flow.specs.Flows.{capacity_in}
use Rattle.wrp_flow.proofs.Rooms.{rooms_more, rooms_whole}
use Rattle.wrp_flow.proofs.cut.first_room.Goals as goal

pub loop-arc-init : goal.loop-arc-init
loop-arc-init c = record { long = ap length c.in_ok-room.ensures.items; is = λ a below. absurd (omega arith) }

pub loop-arc-preserved : goal.loop-arc-preserved
loop-arc-preserved c =
    let net = c.args.net.now in
    let i = c.loop-arc.arc-index in
    let number : ℤ = (get_or c.as_slice-arc-items.result.now i (0, 0, pos 0)).2 in
    let same : unsigned_abs number ≡ capacity_in net i = ap (λ (arcs : List (ℕ × ℕ × ℤ)). unsigned_abs (get_or arcs i (0, 0, pos 0)).2) c.as_slice-arc-items.ensures in
    let inside : i < length net.arcs = omega (arith, c.loop-arc-test.true, ap length c.as_slice-arc-items.ensures) in
    let small : unsigned_abs number < 2 ^ 100 = omega (arith, same, term_sum (capacity_in net) i (length net.arcs) inside, c.requires.small) in
    let back : to_z w128 (of_z w128 number) ≡ number = omega (arith, casts, small) in
    rooms_more net i c.loop-arc.room.items c.push-in-loop-arc.new.self.items c.unsigned_abs.result c.loop-arc.invariant (c.unsigned_abs.ensures.value ∙ ap unsigned_abs back ∙ same)
    (c.in_ok-push-2.ensures.items ∙ ap (λ (xs : List ℕ). xs ++ 0 ∷ []) c.in_ok-push.ensures.items)

pub returns : goal.returns
returns c = λ s t. rooms_whole c.args.net.now c.loop-arc.room.items c.loop-arc.arc-index s t (omega (arith, c.loop-arc-test.false, c.loop-arc.auto.arc-index-end, ap length c.as_slice-arc-items.ensures)) c.loop-arc.invariant
