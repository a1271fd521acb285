use Rattle.std.proofs.Common.{◌≡◌, ◌+◌, ◌^◌, ◌≤◌, ◌++◌, ◌∷◌, [], ℕ, ℤ, List, pos, to_z, of_z, get_or, sym, ap, ◌∙◌, subst, arith}
use Rattle.std.specs.Int.{w128}
use Rattle.std.specs.Prelude.{unsigned_abs, ◌≤ℤ◌}
use Rattle.wrp_sums.proofs.Integers.{casts}
use Rattle.wrp_odd.specs.Points.{numbers_of}
use Rattle.wrp_conn.specs.Shrunk.{IsNetBelow}
use Rattle.wrp_conn.proofs.Points.{number_ranges}
use Rattle.wrp_conn.proofs.Arcs.{arc_added}
use Rattle.wrp_conn.proofs.net.add_arc.Goals as goal

pub returns-in_ok-push : goal.returns-in_ok-push
returns-in_ok-push c =
    let town = c.args.town.now in
    let nodes = c.args.nodes.now in
    let point = c.args.point.now in
    let number : ℤ = get_or c.as_slice.result.now c.args.arc (pos 0) in
    let same : number ≡ get_or point.at c.args.arc (pos 0) = ap (λ (xs : List ℤ). get_or xs c.args.arc (pos 0)) c.as_slice.ensures in
    let range = number_ranges town point c.requires.point c.args.arc c.requires.there in
    let high : numbers_of point c.args.arc ≤ 2 ^ 72 = range.1 in
    let low : pos 0 ≤ℤ number = subst (λ (z : ℤ). pos 0 ≤ℤ z) (sym same) range.0 in
    let back : to_z w128 (of_z w128 number) ≡ number = omega (arith, casts, ap unsigned_abs same, high) in
    let added = arc_added town nodes (numbers_of point) c.args.arcs.now.items (get_or nodes c.tail.result 0) (get_or nodes c.head.result 0) number c.args.arc
    (ap (λ (j : ℕ). get_or nodes j 0) (sym c.tail.ensures.value)) (ap (λ (j : ℕ). get_or nodes j 0) (sym c.head.ensures.value))
    (c.requires.nodes.below c.tail.result c.tail.ensures.junction) (c.requires.nodes.below c.head.result c.head.ensures.junction) low (ap unsigned_abs same) high c.requires.before in
    subst (λ (arcs : List (ℕ × ℕ × ℤ)). IsNetBelow town nodes (numbers_of point) (c.args.arc + 1) arcs)
    (sym (c.in_ok-push.ensures.items ∙ ap (λ (z : ℤ). c.args.arcs.now.items ++ (get_or nodes c.tail.result 0, get_or nodes c.head.result 0, z) ∷ []) back)) added
