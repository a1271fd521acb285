use Rattle.std.proofs.Common.{◌≡◌, ◌+◌, ℤ, pos, ◌*ℤ◌, to_z, of_z, FitsSigned, arith, ap, ◌∙◌}
use Rattle.std.specs.Int.{w32, w128}
use Rattle.std.proofs.lemmas.Int.{to_z-of_z}
use Rattle.wrp_sums.proofs.Integers.{casts}
use Rattle.wrp_pool.specs.Tallies.{number_of}
use Rattle.wrp_pool.proofs.Tables.{term_at, added_term, size_after}
use Rattle.wrp_pool.proofs.combine.add_terms.Goals as goal

-- the number of the term's arc gets its share, and the others stay
pub loop-term-preserved : goal.loop-term-preserved
loop-term-preserved c =
    let town = c.args.town.now in
    let terms = c.args.terms.now in
    let weight = c.args.weight in
    let start = c.args.tally.now in
    let j = c.loop-term.term-index in
    let below = c.loop-term-test.true in
    let before = c.loop-term.invariant in
    let added = c.in_ok-add.ensures in
    let small = c.requires.terms.small j (0, pos 0) below in
    let fits : FitsSigned w32 (term_at terms j).1 = omega (arith, casts, small) in
    let share_size = c.weighted.ensures.size in
    let share : to_z w128 (of_z w128 c.weighted.result) ≡ pos weight *ℤ (term_at terms j).1 =
    to_z-of_z w128 c.weighted.result (omega (arith, casts, share_size)) ∙ c.weighted.ensures.exact ∙ ap (λ (x : ℤ). pos weight *ℤ x) (to_z-of_z w32 (term_at terms j).1 fits) in
    record {
      is_tally = added.is_tally;
      exact = λ k. added_term weight terms j k (number_of start k) (number_of c.loop-term.tally k) _ _ below (added.exact k) share (before.exact k);
      size = λ k. size_after town weight terms (j + 1) k (number_of start k) _ c.requires.terms c.requires.weight (added_term weight terms j k (number_of start k) (number_of c.loop-term.tally k) _ _ below (added.exact k) share (before.exact k));
    }
