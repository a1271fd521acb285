use Rattle.std.proofs.Common.{◌≡◌, List, ℤ, pos, FitsSigned, length, get_or, vec_len, rules, ap, sym, ◌∙◌, subst, arith}
use Rattle.std.specs.Int.{w128}
use Rattle.std.proofs.lemmas.Int.{to_z-of_z}
use Rattle.wrp_point_tour.specs.Counts.{AreTimes}
use Rattle.wrp_point_tour.proofs.Scaled.{times_push}
use Rattle.wrp_point_tour.proofs.whole.whole_counts.Goals as goal

pub returns-in-None-clause-times : goal.returns-in-None-clause-times
returns-in-None-clause-times c = λ whole.
    let i = c.loop-number.number-index in
    let number = get_or c.as_slice-number-items.result.now i (pos 0) in
    let fits : FitsSigned w128 number = search rules in
    let fits_den : FitsSigned w128 c.args.point.now.den = search rules in
    let never = simp (to_z-of_z w128 number fits, to_z-of_z w128 c.args.point.now.den fits_den) at c.in-None.ensures in
    let w = whole i in
    never w.0 w.1 (ap (λ (xs : List ℤ). get_or xs i (pos 0)) c.as_slice-number-items.ensures ∙ w.2)

pub loop-number-preserved : goal.loop-number-preserved
loop-number-preserved c =
    let point = c.args.point.now in
    let counts = c.loop-number.counts.items in
    let i = c.loop-number.number-index in
    let number = get_or c.as_slice-number-items.result.now i (pos 0) in
    let fits : FitsSigned w128 number = search rules in
    let fits_den : FitsSigned w128 point.den = search rules in
    let found = simp (to_z-of_z w128 number fits, to_z-of_z w128 point.den fits_den) at c.in-Some.ensures in
    let size : vec_len c.loop-number.counts ≡ length counts = search rules in
    let read : number ≡ get_or point.at i (pos 0) = ap (λ (xs : List ℤ). get_or xs i (pos 0)) c.as_slice-number-items.ensures in
    record {
      long = omega (arith, c.in_ok-push-in-Some.ensures.len, c.loop-number.invariant.long);
      times = subst (AreTimes point c.args.most) (sym c.in_ok-push-in-Some.ensures.items)
          (times_push point c.args.most counts i c.in-Some.count (omega (arith, size, c.loop-number.invariant.long)) found.0 (sym read ∙ found.1) c.loop-number.invariant.times);
    }
