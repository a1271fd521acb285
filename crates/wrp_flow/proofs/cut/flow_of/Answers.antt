use Rattle.std.proofs.Common.{◌+◌, ◌*◌, ◌++◌, ◌∷◌, [], ℕ, ℤ, List, map, pos, to_z, get_or, sym, ap, ◌∙◌, arith}
use Rattle.std.specs.List.{range_with_len}
use Rattle.std.proofs.lemmas.Int.{to_z_pos}
use Rattle.std.proofs.lemmas.List.FromFn.{map-range_with_len_more}
use mir.Syntax.{w128}
use Rattle.wrp_flow.proofs.cut.flow_of.Goals as goal

pub loop-arc-preserved : goal.loop-arc-preserved
loop-arc-preserved c =
    let room = c.args.room.now in
    let i = c.loop-arc.arc in
    let inside = c.requires.small (2 * i + 1) (omega (arith, c.requires.room, c.loop-arc-test.true, c.len-arc-end.ensures)) in
    let carried : ℕ → ℤ = λ a. pos (get_or room (2 * a + 1) 0) in
    c.in_ok-push.ensures.items ∙ ap (λ (xs : List ℤ). xs ++ to_z w128 (get_or room (2 * i + 1) 0) ∷ []) c.loop-arc.invariant
    ∙ ap (λ (z : ℤ). map carried (range_with_len 0 i) ++ z ∷ []) (to_z_pos w128 (get_or room (2 * i + 1) 0) (omega (arith, inside)))
    ∙ sym (map-range_with_len_more carried 0 i i (omega arith))
