use Rattle.std.proofs.Common.{◌≤◌, ℤ, ◌++◌, ◌∷◌, [], Ok, FitsSigned, unsigned_abs, arith, ap, sym, subst, ◌∙◌}
use Rattle.std.specs.Int.{w32, w128}
use Rattle.std.proofs.lemmas.Bool.{leb-true}
use Rattle.std.proofs.lemmas.Int.{to_z-of_z}
use Rattle.wrp_sums.proofs.Integers.{casts}
use Rattle.wrp_rules.specs.Rows.{most_coefficient}
use Rattle.wrp_pool.specs.Pools.{sparse_row}
use Rattle.wrp_pool.proofs.Roundings.{least_divisor, quotient_found, too_wide, row_taken}
use Rattle.wrp_pool.proofs.row.Pool.push_round.Goals as goal

pub returns-then-not-branch : goal.returns-then-not-branch
returns-then-not-branch c =
    too_wide c.args.town.now c.args.tally.now c.args.divisor c.requires.tally (least_divisor _ c.args.divisor c.requires.divisor) c.args.side c.args.self.now
    (sym c.if-not-branch.true ∙ c.in_ok-push_rounded_terms.ensures.fit)

pub returns-in_ok-push_row-in-Some : goal.returns-in_ok-push_row-in-Some
returns-in_ok-push_row-in-Some c =
    let fits : FitsSigned w128 c.args.side = omega (arith, casts, c.requires.small_side) in
    let told = rw (to_z-of_z w128 c.args.side fits) at c.in-Some.ensures in
    let found = quotient_found c.args.divisor c.args.side c.in-Some.right_side told in
    let small : unsigned_abs c.in-Some.right_side ≤ most_coefficient = subst (λ z. unsigned_abs z ≤ most_coefficient) (sym found.1) (leb-true _ most_coefficient found.0) in
    let kept : FitsSigned w32 c.in-Some.right_side = omega (arith, casts, small) in
    row_taken c.args.town.now c.args.tally.now c.args.divisor c.requires.tally (least_divisor _ c.args.divisor c.requires.divisor) c.args.side c.args.self.now c.push_row.new.self _ _
    (sym c.if-not-branch.false ∙ c.in_ok-push_rounded_terms.ensures.fit) found.0 (c.in_ok-push_rounded_terms.ensures.terms (ap Ok c.if-not-branch.false)) c.new-terms.ensures.items
    (c.in_ok-push_row-in-Some.ensures ∙ ap (λ (z : ℤ). c.args.self.now.rows ++ sparse_row c.push_rounded_terms.new.terms.items z ∷ []) (to_z-of_z w32 c.in-Some.right_side kept ∙ found.1))
