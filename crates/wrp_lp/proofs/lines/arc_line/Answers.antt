use Rattle.std.proofs.Common.{◌≡◌, ◌*◌, ℕ, ℤ, pos, List, set, replicate, to_z, of_z, ap, sym, ◌∙◌, subst, arith, rules}
use Rattle.std.specs.Int.{w128}
use Rattle.wrp_tableau.specs.Starts.{IsLine}
use Rattle.wrp_tableau.proofs.Factoring.{cast}
use Rattle.wrp_lp.specs.Relaxed.{width}
use Rattle.wrp_lp.proofs.Making.{arc_line_is, arc_fits}
use Rattle.wrp_lp.proofs.lines.arc_line.Goals as goal

pub returns-clause-line : goal.returns-clause-line
returns-clause-line c =
    let town = c.args.town.now in
    let arc = c.args.arc in
    let coef = c.args.coef in
    let zeros : c.in_ok-coefs.coefs.items ≡ replicate (width town) (pos 0) =
    c.in_ok-coefs.ensures.items_if_clones_equal (λ y h. search rules) ∙ ap (λ (n : ℕ). replicate (2 * n) (pos 0)) c.len.ensures in
    arc_line_is town arc coef c.args.rhs c.from_vec.result (to_z w128 (of_z w128 c.args.rhs)) c.requires.there
    (c.from_vec.ensures
    ∙ ap (λ (xs : List ℤ). set xs arc (to_z w128 (of_z w128 coef))) zeros
    ∙ ap (λ (z : ℤ). set (replicate (width town) (pos 0)) arc z) (cast coef (let h = c.requires.coef_small in omega arith)))
    (cast c.args.rhs (let h = c.requires.rhs_small in omega arith))

pub returns-clause-fits : goal.returns-clause-fits
returns-clause-fits c =
    subst (IsLine (width c.args.town.now)) (sym (returns-clause-line c))
    (arc_fits c.args.town.now c.args.arc c.args.coef c.args.rhs c.requires.coef_small c.requires.rhs_small)
