use Rattle.std.proofs.Common.{◌≡◌, ◌+◌, ◌<◌, ℤ, pos, ◌+ℤ◌, ◌*ℤ◌, length, get_or, to_z, of_z, FitsSigned, arith, ◌∙◌, ap}
use Rattle.std.specs.Int.{w64, w128}
use Rattle.std.proofs.lemmas.Int.{to_z-of_z}
use Rattle.wrp_sums.proofs.Integers.{casts}
use Rattle.wrp_rows.specs.Tables.{number_at}
use Rattle.wrp_rows.proofs.Combined.{term_added, size_of_share}
use Rattle.wrp_rows.proofs.combine.add_terms.Goals as goal

-- the sum of the term's arc gets its share, and the others stay
pub loop-term-preserved : goal.loop-term-preserved
loop-term-preserved c =
    let terms = c.args.terms.now in
    let weight = c.args.weight in
    let start = c.args.sums.now in
    let sums = c.loop-term.sums in
    let j = c.loop-term.term-index in
    let before = c.loop-term.invariant in
    let term = get_or terms j (0, pos 0) in
    let old = number_at sums term.0 in
    let new = to_z w128 (of_z w128 (to_z w128 (of_z w128 old) +ℤ to_z w128 (of_z w128 c.scaled.result))) in
    let small = c.requires.terms.small j (0, pos 0) c.loop-term-test.true in
    let within = c.requires.terms.within j (0, pos 0) c.loop-term-test.true in
    let room = c.requires.room term.0 in
    let old_size = before.size term.0 in
    let fits : FitsSigned w64 term.1 = omega (arith, casts, small) in
    let share = c.scaled.ensures.exact ∙ ap (λ (x : ℤ). pos weight *ℤ x) (to_z-of_z w64 term.1 fits) in
    let share_size = c.scaled.ensures.size in
    let sum : new ≡ old +ℤ c.scaled.result = omega (arith, casts) in
    let inside : term.0 < length sums = omega (arith, within) in
    let exact = term_added terms weight j c.loop-term-test.true start sums c.scaled.result new inside before.exact share sum in
    record {
      exact = exact;
      size = λ k. size_of_share (length start) weight terms (j + 1) k (number_at start k) _ c.requires.terms c.requires.weight (exact k);
    }
