use Rattle.std.proofs.Common.{◌≤◌, ◌^◌, ℕ, ℤ, List, unsigned_abs, ap, sym, ◌∙◌, subst, arith, refl}
use Rattle.std.specs.Int.{w128}
use mir.Val.{to_z, of_z}
use Rattle.wrp_tableau.specs.Sparse.{IsSparse, dense}
use Rattle.wrp_tableau.proofs.Factoring.{cast}
use Rattle.wrp_tableau.proofs.Dividing.{wide_at_right, wide_at_entry, divided_ok, divided_ok_sparse}
use Rattle.wrp_tableau.proofs.reduce.reduced_row.Goals as goal

pub returns-in_default-clause-wide : goal.returns-in_default-clause-wide
returns-in_default-clause-wide c none n within =
    let e = rw c.as_slice.ensures.value at c.factor_of-factor.ensures in
    wide_at_right c.args.terms.items c.args.right c.factor_of-factor.result c.requires.sparse c.requires.right_small e.small (e.positive c.requires.some) n (e.value n within) c.in_default.ensures

pub returns-then-not-divide_all-clause-wide : goal.returns-then-not-divide_all-clause-wide
returns-then-not-divide_all-clause-wide c none n within =
    let e = rw c.as_slice.ensures.value at c.factor_of-factor.ensures in
    wide_at_entry c.args.terms.items c.args.right c.factor_of-factor.result c.requires.sparse c.requires.right_small e.small (e.positive c.requires.some) n (c.divide_all.ensures.wide c.if-not-divide_all.true) (e.value n within)

pub returns-clause-ok : goal.returns-clause-ok
returns-clause-ok c n within =
    let e = rw c.as_slice.ensures.value at c.factor_of-factor.ensures in
    ap (λ (xs : List (ℕ × ℤ)). dense xs (to_z w128 (of_z w128 c.in-Some.new_right))) c.from_vec.ensures
    ∙ divided_ok c.args.terms.items c.args.right c.factor_of-factor.result c.requires.sparse c.requires.right_small e.small (e.positive c.requires.some) n c.divide_all.new.terms.items c.in-Some.new_right (c.if-not-divide_all.ensures.divided refl) (e.value n within) c.in-Some.ensures

pub returns-clause-stored : goal.returns-clause-stored
returns-clause-stored c =
    let e = rw c.as_slice.ensures.value at c.factor_of-factor.ensures in
    let less : unsigned_abs c.in-Some.new_right ≤ 2 ^ 60 = rw c.in-Some.ensures.1 c.in-Some.ensures.0 in
    record {
      sparse = subst (IsSparse (2 ^ 60)) (sym c.from_vec.ensures) (divided_ok_sparse c.args.terms.items c.args.right c.factor_of-factor.result c.requires.sparse c.requires.right_small e.small (e.positive c.requires.some) c.divide_all.new.terms.items (c.if-not-divide_all.ensures.divided refl) e.divides);
      right_small = rw (cast c.in-Some.new_right (omega arith)) less;
    }
