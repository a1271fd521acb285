use Rattle.std.proofs.Common.{◌≡◌, ℤ, to_z, of_z, ap, sym, ◌∙◌, subst, arith}
use Rattle.std.specs.Int.{w64, w128}
use Rattle.std.proofs.lemmas.Int.{to_z-of_z}
use Rattle.wrp_sums.proofs.Integers.{casts}
use Rattle.wrp_town.specs.declared.town.Town.{Town}
use Rattle.wrp_rows.specs.Pools.{sparse_at}
use Rattle.wrp_rows.specs.Sizes.{AreSmallTerms}
use Rattle.wrp_tableau.specs.Starts.{IsLine}
use Rattle.wrp_tableau.proofs.Factoring.{cast}
use Rattle.wrp_lp.specs.Relaxed.{width}
use Rattle.wrp_lp.specs.Building.{coefs_of}
use Rattle.wrp_lp.proofs.Making.{row_line_is, row_fits}
use Rattle.wrp_lp.proofs.lines.row_line.Goals as goal

pub returns-clause-line : goal.returns-clause-line
returns-clause-line c =
    let town = c.args.rows.now.town in
    let row = sparse_at c.args.rows.now.rows c.args.row in
    let terms = c.terms.result.now in
    let small = c.rhs.ensures.small in
    let plain : c.from.result ≡ row.right_side = c.from.ensures ∙ to_z-of_z w64 c.rhs.result (omega (arith, casts)) ∙ c.rhs.ensures.value in
    let side_small = rw c.rhs.ensures.value at small in
    row_line_is town row terms c.in_ok-coefs_of.field-0 (to_z w128 (of_z w128 c.from.result)) c.terms.ensures.value
    (c.in_ok-coefs_of.ensures ∙ ap (λ (t : Town). coefs_of t terms) c.town.ensures)
    (ap (λ (z : ℤ). to_z w128 (of_z w128 z)) plain ∙ cast row.right_side (omega arith))

pub returns-clause-fits : goal.returns-clause-fits
returns-clause-fits c =
    let town = c.args.rows.now.town in
    let row = sparse_at c.args.rows.now.rows c.args.row in
    subst (IsLine (width town)) (sym (returns-clause-line c))
    (row_fits town row (subst (AreSmallTerms (width town)) c.terms.ensures.value c.terms.ensures.small) (rw c.rhs.ensures.value at c.rhs.ensures.small))
