use Rattle.std.proofs.Common.{◌≡◌, ◌≤◌, ℤ, ◌++◌, Ok, get_or, to_z, of_z, unsigned_abs, ap, sym, subst, ◌∙◌, arith}
use Rattle.std.specs.Int.{w128}
use Rattle.std.proofs.lemmas.Int.{to_z-of_z}
use Rattle.wrp_sums.proofs.Integers.{casts}
use Rattle.wrp_pool.specs.Tallies.{number_of, most_combined}
use Rattle.wrp_pool.specs.Cuts.{term_unless_zero}
use Rattle.wrp_pool.specs.Rounds.{quotient, is_small, fits_at, rounded_at}
use Rattle.wrp_pool.proofs.Listed.{terms_more}
use Rattle.wrp_pool.proofs.Roundings.{unfit_listed, fit_more}
use Rattle.wrp_pool.proofs.round.push_rounded_terms.Goals as goal

pub returns-then-not-branch-clause-fit : goal.returns-then-not-branch-clause-fit
returns-then-not-branch-clause-fit c =
    let small : unsigned_abs c.number.result ≤ most_combined = subst (λ z. unsigned_abs z ≤ most_combined) (sym c.number.ensures) (c.requires.small _) in
    let told : to_z w128 (of_z w128 c.number.result) ≡ _ = to_z-of_z w128 c.number.result (omega (arith, casts, small)) ∙ c.number.ensures in
    unfit_listed (fits_at c.args.tally.now c.args.divisor) c.listed-arc-items.result.now c.args.tally.now.listed.items c.loop-arc.arc-index 0 c.listed-arc-items.ensures c.loop-arc-test.true
    (ap (λ (z : ℤ). is_small (quotient c.args.divisor z)) (sym told) ∙ sym c.in_ok-push_rounded.ensures.fits ∙ c.if-not-branch.true)

pub loop-arc-preserved : goal.loop-arc-preserved
loop-arc-preserved c =
    let tally = c.args.tally.now in
    let divisor = c.args.divisor in
    let items = c.listed-arc-items.result.now in
    let i = c.loop-arc.arc-index in
    let small : unsigned_abs c.number.result ≤ most_combined = subst (λ z. unsigned_abs z ≤ most_combined) (sym c.number.ensures) (c.requires.small _) in
    let told : to_z w128 (of_z w128 c.number.result) ≡ number_of tally (get_or items i 0) = to_z-of_z w128 c.number.result (omega (arith, casts, small)) ∙ c.number.ensures in
    record {
      fit = fit_more (fits_at tally divisor) items i 0 c.loop-arc-test.true c.loop-arc.invariant.fit
          (ap (λ (z : ℤ). is_small (quotient divisor z)) (sym told) ∙ sym c.in_ok-push_rounded.ensures.fits ∙ c.if-not-branch.false);
      terms = terms_more (rounded_at tally divisor) items i 0 _ _ _ c.loop-arc-test.true c.loop-arc.invariant.terms
          (c.in_ok-push_rounded.ensures.terms (ap Ok c.if-not-branch.false) ∙ ap (λ (z : ℤ). c.loop-arc.terms.items ++ term_unless_zero (get_or items i 0) (quotient divisor z)) told);
    }
