use Rattle.std.proofs.Common.{ℤ, FitsSigned, rules, refl, sym, ◌∙◌, subst, arith}
use Rattle.std.specs.Int.{w128}
use Rattle.std.proofs.lemmas.Bool.{true≢false}
use Rattle.std.proofs.lemmas.Int.{to_z-of_z}
use Rattle.wrp_town.specs.declared.town.Town.{Town}
use Rattle.wrp_rows.proofs.Rounded.{named_by}
use Rattle.wrp_odd.specs.Points.{Breaks}
use Rattle.wrp_round.specs.Judging.{row_with, IsSizeOf}
use Rattle.wrp_round.proofs.Judged.{keeps_and_breaks, keeps_low, keeps_breaks}
use Rattle.wrp_round.proofs.judging.size_of_rounding.Goals.{else-size-le-MOST_COEFFICIENT-via-then-size-le-MOST_COEFFICIENT+else-is_broken, else-size-le-MOST_COEFFICIENT-via-else-size-le-MOST_COEFFICIENT}
use Rattle.wrp_round.proofs.judging.size_of_rounding.Goals as goal

pub returns-then-is_broken : goal.returns-then-is_broken
returns-then-is_broken c = λ s has.
    let pool = c.args.rows.now in
    let point = c.args.point.now in
    let mult = c.args.mult.now in
    let sums = c.round-side.new.sums in
    let side = c.round-side.result in
    let fits : FitsSigned w128 side = search rules in
    let side_is = to_z-of_z w128 side fits in
    let size_told = subst (λ (z : ℤ). IsSizeOf c.town.result.now (row_with sums z) c.size_of-size.result) side_is c.size_of-size.ensures in
    let size = subst (λ (t : Town). IsSizeOf t (row_with sums side) c.size_of-size.result) c.town.ensures size_told in
    let breaks_told = subst (λ (z : ℤ). Breaks c.town-then-size-le-MOST_COEFFICIENT.result.now point (row_with sums z)) side_is (c.is_broken.ensures.0 c.if-is_broken.true) in
    let breaks = subst (λ (t : Town). Breaks t point (row_with sums side)) c.town-then-size-le-MOST_COEFFICIENT.ensures breaks_told in
    let named = named_by pool.rows mult c.len.result c.len.ensures.value (sym c.name_rows.ensures ∙ c.if-not-name_rows.false) in
    (λ e. keeps_and_breaks pool s has c.args.divisor mult sums side named c.round-side.ensures c.size_of-size.result size point (omega arith) breaks, λ keeps. refl)

pub returns-else-size-le-MOST_COEFFICIENT : goal.returns-else-size-le-MOST_COEFFICIENT
returns-else-size-le-MOST_COEFFICIENT c = λ s has.
    let pool = c.args.rows.now in
    let point = c.args.point.now in
    let mult = c.args.mult.now in
    let sums = c.round-side.new.sums in
    let side = c.round-side.result in
    let fits : FitsSigned w128 side = search rules in
    let side_is = to_z-of_z w128 side fits in
    let size_told = subst (λ (z : ℤ). IsSizeOf c.town.result.now (row_with sums z) c.size_of-size.result) side_is c.size_of-size.ensures in
    let size = subst (λ (t : Town). IsSizeOf t (row_with sums side) c.size_of-size.result) c.town.ensures size_told in
    let named = named_by pool.rows mult c.len.result c.len.ensures.value (sym c.name_rows.ensures ∙ c.if-not-name_rows.false) in (
      λ e. absurd (true≢false (sym e)),
      λ keeps. elim c.else-size-le-MOST_COEFFICIENT.branch [
        | else-size-le-MOST_COEFFICIENT-via-then-size-le-MOST_COEFFICIENT+else-is_broken w ↦
            (let breaks = keeps_breaks pool s has c.args.divisor mult sums side named c.round-side.ensures c.size_of-size.result size point keeps in
            let there = subst (λ (t : Town). Breaks t point (row_with sums side)) (sym w.town-then-size-le-MOST_COEFFICIENT.ensures) breaks in
            let broken = w.is_broken.ensures.1 (subst (λ (z : ℤ). Breaks w.town-then-size-le-MOST_COEFFICIENT.result.now point (row_with sums z)) (sym side_is) there) in
            absurd (true≢false (sym broken ∙ w.if-is_broken.false)))
        | else-size-le-MOST_COEFFICIENT-via-else-size-le-MOST_COEFFICIENT w ↦
            (let low = keeps_low pool s has c.args.divisor mult sums side named c.round-side.ensures c.size_of-size.result size point keeps in
            let high = w.if-size-le-MOST_COEFFICIENT.false in absurd (omega arith))
      ],
    )
