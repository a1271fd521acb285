use Rattle.std.proofs.Common.{◌+◌, ◌-◌, ◌*◌, ◌++◌, ◌∷◌, [], ℕ, ℤ, pos, FitsSigned, ap, ◌∙◌, arith}
use Rattle.std.specs.Int.{w32}
use Rattle.std.proofs.lemmas.Int.{to_z-of_z}
use Rattle.std.proofs.lemmas.Result.{on_ok_weaker}
use Rattle.wrp_sums.proofs.Integers.{casts}
use Rattle.wrp_pool.specs.Pools.{sparse_row}
use Rattle.wrp_pool.proofs.Distances.{kc_gained}
use Rattle.wrp_pool.proofs.row.Pool.push_kc.Goals as goal

pub returns : goal.returns
returns c =
    let town = c.args.town.now in
    let last = c.args.last in
    let of = c.args.of.now in
    let fits : FitsSigned w32 c.right_side.result = omega (arith, casts, c.right_side.ensures.size) in
    on_ok_weaker c.push_row.result
    (λ added.
    kc_gained town last of c.args.self.now c.push_row.new.self _ _ c.right_side.result c.requires.sets c.requires.chain
    (c.right_side.ensures.value ∙ ap (λ (h : ℕ). pos (2 * (last - 1) + (last - 2) * h)) c.requires.joining) c.right_side.ensures.size
    c.in_ok-push_distances.ensures c.new-terms.ensures.items
    (added ∙ ap (λ (z : ℤ). c.args.self.now.rows ++ sparse_row c.push_distances.new.terms.items z ∷ []) (to_z-of_z w32 c.right_side.result fits)))
    c.push_row.ensures
