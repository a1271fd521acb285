-- Each step is that of `Merging`, with the casts taken off.
use Rattle.std.proofs.Common.{◌≡◌, ◌≢◌, ◌+ℤ◌, ◌*ℤ◌, ℤ, pos, unsigned_abs, FitsSigned, arith, ap, sym, ◌∙◌, subst, ◌≤◌, ◌^◌}
use Rattle.std.specs.Int.{w128}
use Rattle.std.proofs.lemmas.Int.{to_z-of_z, to_z_pos, fits_signed_from_abs}
use mir.Val.{to_z, of_z}
use Rattle.wrp_tableau.proofs.Merging.{Merging, merging_push, merging_none, merging_smaller}
use Rattle.wrp_tableau.proofs.merge.merged.Goals as goal

fits_small : (z : ℤ) → unsigned_abs z ≤ 2 ^ 121 → FitsSigned w128 z
fits_small z h = fits_signed_from_abs w128 z (omega arith)

cast_value : (a b l r w : ℤ) → unsigned_abs l ≤ 2 ^ 60 → unsigned_abs r ≤ 2 ^ 60 → unsigned_abs w ≤ 2 ^ 121 → w ≡ a *ℤ to_z w128 (of_z w128 l) +ℤ b *ℤ to_z w128 (of_z w128 r) → to_z w128 (of_z w128 w) ≡ a *ℤ l +ℤ b *ℤ r
cast_value a b l r w hl hr hw e =
    to_z-of_z w128 w (fits_small w hw)
    ∙ rw (to_z-of_z w128 l (fits_small l (omega arith)), to_z-of_z w128 r (fits_small r (omega arith))) at e

cast_some : (w : ℤ) → unsigned_abs w ≤ 2 ^ 121 → of_z w128 w ≢ 0 → to_z w128 (of_z w128 w) ≢ pos 0
cast_some w h some none = some (ap (of_z w128) (sym (to_z-of_z w128 w (fits_small w h)) ∙ none))

cast_none : (w : ℤ) → of_z w128 w ≡ 0 → to_z w128 (of_z w128 w) ≡ pos 0
cast_none w e = ap (to_z w128) e ∙ to_z_pos w128 0 (omega arith)

cast_small : (w : ℤ) → unsigned_abs w ≤ 2 ^ 121 → unsigned_abs (to_z w128 (of_z w128 w)) ≤ 2 ^ 121
cast_small w h = rw (to_z-of_z w128 w (fits_small w h)) h

pub loop-i-preserved-in_ok-push : goal.loop-i-preserved-in_ok-push
loop-i-preserved-in_ok-push c =
    let e = c.entry_at-left.ensures in
    let f = c.entry_at-right.ensures in
    let n = c.least_number-number.ensures in
    let w = c.weighted-entry.ensures in
    subst (λ terms. Merging (to_z w128 (of_z w128 c.args.a)) (to_z w128 (of_z w128 c.args.b)) c.args.xs.now c.args.ys.now c.entry_at-left.result.1 c.entry_at-right.result.1 terms) (sym c.in_ok-push.ensures.items)
    (merging_push (to_z w128 (of_z w128 c.args.a)) (to_z w128 (of_z w128 c.args.b)) c.args.xs.now c.args.ys.now c.loop-i.i c.loop-i.j c.loop-i.terms.items c.loop-i.invariant c.least_number-number.result c.entry_at-left.result.1 c.entry_at-right.result.1 c.entry_at-left.result.0 c.entry_at-right.result.0 (to_z w128 (of_z w128 c.weighted-entry.result))
    (record { place = e.place; later = e.later; took = e.took; coef = e.coef; after = λ more. e.after c.requires.left.ascending n.left more })
    (record { place = f.place; later = f.later; took = f.took; coef = f.coef; after = λ more. f.after c.requires.right.ascending n.right more })
    n.there
    (cast_value (to_z w128 (of_z w128 c.args.a)) (to_z w128 (of_z w128 c.args.b)) c.entry_at-left.result.0 c.entry_at-right.result.0 c.weighted-entry.result (e.small c.requires.left.small) (f.small c.requires.right.small) w.small w.value)
    (cast_some c.weighted-entry.result w.small c.if-entry-ne0.true)
    (cast_small c.weighted-entry.result w.small))

pub loop-i-preserved : goal.loop-i-preserved
loop-i-preserved c =
    let e = c.entry_at-left.ensures in
    let f = c.entry_at-right.ensures in
    let n = c.least_number-number.ensures in
    let w = c.weighted-entry.ensures in
    merging_none (to_z w128 (of_z w128 c.args.a)) (to_z w128 (of_z w128 c.args.b)) c.args.xs.now c.args.ys.now c.loop-i.i c.loop-i.j c.loop-i.terms.items c.loop-i.invariant c.least_number-number.result c.entry_at-left.result.1 c.entry_at-right.result.1 c.entry_at-left.result.0 c.entry_at-right.result.0 (to_z w128 (of_z w128 c.weighted-entry.result))
    (record { place = e.place; later = e.later; took = e.took; coef = e.coef; after = λ more. e.after c.requires.left.ascending n.left more })
    (record { place = f.place; later = f.later; took = f.took; coef = f.coef; after = λ more. f.after c.requires.right.ascending n.right more })
    n.there
    (cast_value (to_z w128 (of_z w128 c.args.a)) (to_z w128 (of_z w128 c.args.b)) c.entry_at-left.result.0 c.entry_at-right.result.0 c.weighted-entry.result (e.small c.requires.left.small) (f.small c.requires.right.small) w.small w.value)
    (cast_none c.weighted-entry.result c.if-entry-ne0.false)

pub loop-i-smaller-in_ok-push : goal.loop-i-smaller-in_ok-push
loop-i-smaller-in_ok-push c =
    let e = c.entry_at-left.ensures in
    let f = c.entry_at-right.ensures in
    let n = c.least_number-number.ensures in
    let w = c.weighted-entry.ensures in
    merging_smaller (to_z w128 (of_z w128 c.args.a)) (to_z w128 (of_z w128 c.args.b)) c.args.xs.now c.args.ys.now c.loop-i.i c.loop-i.j c.loop-i.terms.items c.loop-i.invariant c.least_number-number.result c.entry_at-left.result.1 c.entry_at-right.result.1 c.entry_at-left.result.0 c.entry_at-right.result.0 (to_z w128 (of_z w128 c.weighted-entry.result))
    (record { place = e.place; later = e.later; took = e.took; coef = e.coef; after = λ more. e.after c.requires.left.ascending n.left more })
    (record { place = f.place; later = f.later; took = f.took; coef = f.coef; after = λ more. f.after c.requires.right.ascending n.right more })
    n.there
    (cast_value (to_z w128 (of_z w128 c.args.a)) (to_z w128 (of_z w128 c.args.b)) c.entry_at-left.result.0 c.entry_at-right.result.0 c.weighted-entry.result (e.small c.requires.left.small) (f.small c.requires.right.small) w.small w.value)

pub loop-i-smaller : goal.loop-i-smaller
loop-i-smaller c =
    let e = c.entry_at-left.ensures in
    let f = c.entry_at-right.ensures in
    let n = c.least_number-number.ensures in
    let w = c.weighted-entry.ensures in
    merging_smaller (to_z w128 (of_z w128 c.args.a)) (to_z w128 (of_z w128 c.args.b)) c.args.xs.now c.args.ys.now c.loop-i.i c.loop-i.j c.loop-i.terms.items c.loop-i.invariant c.least_number-number.result c.entry_at-left.result.1 c.entry_at-right.result.1 c.entry_at-left.result.0 c.entry_at-right.result.0 (to_z w128 (of_z w128 c.weighted-entry.result))
    (record { place = e.place; later = e.later; took = e.took; coef = e.coef; after = λ more. e.after c.requires.left.ascending n.left more })
    (record { place = f.place; later = f.later; took = f.took; coef = f.coef; after = λ more. f.after c.requires.right.ascending n.right more })
    n.there
    (cast_value (to_z w128 (of_z w128 c.args.a)) (to_z w128 (of_z w128 c.args.b)) c.entry_at-left.result.0 c.entry_at-right.result.0 c.weighted-entry.result (e.small c.requires.left.small) (f.small c.requires.right.small) w.small w.value)
