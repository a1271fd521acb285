use Rattle.std.proofs.Common.{subst, sym, pos, length, arith, ap, ◌∙◌}
use Rattle.std.proofs.lemmas.Int.{to_z_pos}
use mir.Val.{to_z, of_z}
use Rattle.std.specs.Int.{w128}
use Rattle.wrp_tableau.proofs.Factoring.{Factoring, factoring_start, factoring_more, factoring_end, factoring_divides, factoring_positive, factoring_one, one_divides, cast}
use Rattle.wrp_tableau.proofs.reduce.factor_of.Goals as goal

pub loop-entry-init : goal.loop-entry-init
loop-entry-init c =
    subst (λ right. Factoring c.args.terms.now right 0 (to_z w128 (of_z w128 c.abs-factor.result))) (sym (cast c.args.right c.requires.right_small))
    (factoring_start c.args.terms.now c.args.right c.abs-factor.result c.requires.right_small c.abs-factor.ensures.value)

pub loop-entry-preserved : goal.loop-entry-preserved
loop-entry-preserved c =
    factoring_more c.args.terms.now (to_z w128 (of_z w128 c.args.right)) c.loop-entry.entry-index (to_z w128 c.loop-entry.factor-bits) c.gcd-factor.result
    c.loop-entry-test.true c.requires.sparse c.loop-entry.invariant c.gcd-factor.ensures.not_negative c.gcd-factor.ensures.greatest

pub returns-clause-value : goal.returns-clause-value
returns-clause-value c n within =
    factoring_end n c.args.terms.now c.args.right c.loop-entry.entry-index (to_z w128 c.loop-entry.factor-bits) c.loop-entry-test.false c.loop-entry.auto.entry-index-end c.requires.sparse within
    (subst (λ right. Factoring c.args.terms.now right c.loop-entry.entry-index (to_z w128 c.loop-entry.factor-bits)) (cast c.args.right c.requires.right_small) c.loop-entry.invariant)

pub returns-clause-divides : goal.returns-clause-divides
returns-clause-divides c = factoring_divides c.args.terms.now (to_z w128 (of_z w128 c.args.right)) c.loop-entry.entry-index (to_z w128 c.loop-entry.factor-bits) c.loop-entry-test.false c.loop-entry.auto.entry-index-end c.loop-entry.invariant

pub returns-clause-positive : goal.returns-clause-positive
returns-clause-positive c some = factoring_positive c.args.terms.now (to_z w128 (of_z w128 c.args.right)) c.loop-entry.entry-index (to_z w128 c.loop-entry.factor-bits) c.loop-entry-test.false c.loop-entry.auto.entry-index-end c.requires.sparse c.loop-entry.invariant some

pub returns-then-factor-eq1-clause-value : goal.returns-then-factor-eq1-clause-value
returns-then-factor-eq1-clause-value c n within =
    factoring_end n c.args.terms.now c.args.right (length c.args.terms.now) (pos 1) (omega arith) (omega arith) c.requires.sparse within
    (subst (λ right. Factoring c.args.terms.now right (length c.args.terms.now) (pos 1)) (cast c.args.right c.requires.right_small)
    (factoring_one c.args.terms.now (to_z w128 (of_z w128 c.args.right)) c.loop-entry.entry-index (to_z w128 c.loop-entry.factor-bits) c.loop-entry.auto.entry-index-end
    (ap (to_z w128) c.if-factor-eq1.true ∙ to_z_pos w128 1 (omega arith)) c.loop-entry.invariant))

pub returns-then-factor-eq1-clause-divides : goal.returns-then-factor-eq1-clause-divides
returns-then-factor-eq1-clause-divides c = one_divides c.args.terms.now
