use Rattle.std.proofs.Common.{ℕ, ◌/◌, ◌<◌, ◌≤◌, max, FitsSigned, unsigned_abs, rules, subst, arith, ap, ◌∙◌}
use Rattle.std.specs.Prelude.{nat_le}
use Rattle.std.specs.Int.{w128}
use Rattle.std.proofs.lemmas.Bool.{and_from, le-leb}
use Rattle.std.proofs.lemmas.Int.{to_z-of_z}
use Rattle.wrp_sums.proofs.Integers.{casts}
use Rattle.wrp_bound.specs.Mults.{most_denominator, most_multiplier, scale_of}
use Rattle.wrp_bound.proofs.Scaled.{scaled_low, scaled_in_ranges, same_where_fit}
use Rattle.wrp_bound.proofs.mult.to_mult.Goals as goal

pub scaled-requires-clause-light : goal.scaled-requires-clause-light
scaled-requires-clause-light c = scaled_low c.scale_of-scale.result c.args.mult.now (subst (λ (n : ℕ). n / c.scale_of-scale.result ≤ most_multiplier) c.greatest.ensures c.scale_of-scale.ensures.most) c.scale_of-scale.ensures.positive

pub returns-clause-ranges : goal.returns-clause-ranges
returns-clause-ranges c =
    let n = c.max-den.result in
    let low : n ≤ most_denominator = omega (arith, c.max-den.ensures, c.scale_of-scale.ensures.den) in
    let some : 1 ≤ n = omega (arith, c.max-den.ensures) in
    record {
      den = and_from (nat_le 1 n) (nat_le n most_denominator) (le-leb 1 n some) (le-leb n most_denominator low);
      mult = scaled_in_ranges c.scale_of-scale.result c.args.mult.now c.in_ok-mult.mult c.requires.ascending
          (scaled_low c.scale_of-scale.result c.args.mult.now (subst (λ (n : ℕ). n / c.scale_of-scale.result ≤ most_multiplier) c.greatest.ensures c.scale_of-scale.ensures.most) c.scale_of-scale.ensures.positive)
          c.in_ok-mult.ensures.value c.in_ok-mult.ensures.rows;
    }

pub returns-clause-exact : goal.returns-clause-exact
returns-clause-exact c = λ fit.
    let fits : FitsSigned w128 c.args.den = search rules in
    let size = rw (to_z-of_z w128 c.args.den fits) at c.unsigned_abs-den.ensures.value in
    let positive : 0 < unsigned_abs c.args.den = omega (arith, casts, c.requires.positive) in
    let same = same_where_fit c.args.den c.args.mult.now c.scale_of-scale.result c.max-den.result c.in_ok-mult.mult fit positive
    (c.scale_of-scale.ensures.value ∙ ap (λ (n : ℕ). scale_of n c.greatest.result) size ∙ ap (λ (n : ℕ). scale_of (unsigned_abs c.args.den) n) c.greatest.ensures)
    (c.max-den.ensures ∙ ap (λ (n : ℕ). max (n / c.scale_of-scale.result) 1) size)
    c.in_ok-mult.ensures.value in
    record { denominator = same.0; multipliers = same.1 }
