use Rattle.std.proofs.Common.{◌≡◌, ◌≤◌, ◌<◌, ◌^◌, ℤ, pos, unsigned_abs, int_div, length, get_or, ap, sym, ◌∙◌, subst, arith}
use Rattle.std.specs.Int.{w128}
use Rattle.std.proofs.lemmas.List.{get_or_default}
use mir.Val.{to_z, of_z}
use Rattle.wrp_tableau.proofs.Factoring.{cast}
use Rattle.wrp_tableau.proofs.Dividing.{dividing_next, dividing_more}
use Rattle.wrp_tableau.proofs.reduce.divide_all.Goals as goal

-- the quotient at a place, without the code's casts
wide_at : (z f : ℤ) → unsigned_abs z ≤ 2 ^ 121 → unsigned_abs f ≤ 2 ^ 121 → (unsigned_abs (int_div (to_z w128 (of_z w128 z)) (to_z w128 (of_z w128 f))) ≤ 2 ^ 60 → ⊥) → 2 ^ 60 < unsigned_abs (int_div z f)
wide_at z f z_small f_small wide =
    let over : unsigned_abs (int_div z f) ≤ 2 ^ 60 → ⊥ = rw (cast z z_small, cast f f_small) at wide in
    omega arith

pub returns-in_default-clause-wide : goal.returns-in_default-clause-wide
returns-in_default-clause-wide c stopped =
    let h : c.loop-k.k < length c.args.terms.now.items = subst (λ n. c.loop-k.k < n) (c.len-k-end.ensures ∙ c.args.terms.now.ok.0) c.loop-k-test.true in
    let x = c.index.result.now in
    let is : x ≡ get_or c.args.terms.now.items c.loop-k.k x = c.index.ensures ∙ dividing_next (to_z w128 (of_z w128 c.args.factor)) c.args.terms.now.items c.loop-k.k c.loop-k.terms.items h c.loop-k.invariant x in
    let small : unsigned_abs x.1 ≤ 2 ^ 121 = subst (λ t. unsigned_abs t.1 ≤ 2 ^ 121) (sym is) (c.requires.small c.loop-k.k x h) in (
      c.loop-k.k,
      h,
      subst (λ t. 2 ^ 60 < unsigned_abs (int_div t.1 c.args.factor)) (is ∙ get_or_default c.args.terms.now.items c.loop-k.k x (0, pos 0) h)
          (wide_at x.1 c.args.factor small c.requires.factor_small c.in_default.ensures),
    )

pub loop-k-preserved : goal.loop-k-preserved
loop-k-preserved c =
    let g = to_z w128 (of_z w128 c.args.factor) in
    let h : c.loop-k.k < length c.args.terms.now.items = subst (λ n. c.loop-k.k < n) (c.len-k-end.ensures ∙ c.args.terms.now.ok.0) c.loop-k-test.true in
    let x = c.index.result.now in
    let is : x ≡ get_or c.args.terms.now.items c.loop-k.k x = c.index.ensures ∙ dividing_next g c.args.terms.now.items c.loop-k.k c.loop-k.terms.items h c.loop-k.invariant x in
    let small : unsigned_abs x.1 ≤ 2 ^ 121 = subst (λ t. unsigned_abs t.1 ≤ 2 ^ 121) (sym is) (c.requires.small c.loop-k.k x h) in
    let less : unsigned_abs c.in-Some.new ≤ 2 ^ 60 = rw c.in-Some.ensures.1 c.in-Some.ensures.0 in
    dividing_more g c.args.terms.now.items c.loop-k.k c.loop-k.terms.items h c.loop-k.invariant x (x.0, to_z w128 (of_z w128 c.in-Some.new)) c.index.ensures
    (ap (λ (z : ℤ). (x.0, z)) (cast c.in-Some.new (omega arith) ∙ c.in-Some.ensures.1 ∙ ap (λ (z : ℤ). int_div z g) (cast x.1 small)))
    (rw (cast c.in-Some.new (omega arith)) less)
