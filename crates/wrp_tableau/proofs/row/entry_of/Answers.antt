use Rattle.std.proofs.Common.{◌≡◌, ◌≤◌, ◌^◌, pos, get_or, subst, sym, ◌∙◌, arith, unsigned_abs, rules, of_calls}
use Rattle.std.proofs.lemmas.Fn.{always_returns_same}
use Rattle.std.proofs.lemmas.List.Sorted.{IsPartitionedBy-ltb}
use Rattle.std.proofs.Math.Dec.{ltb}
use Rattle.wrp_sums.specs.Sums.{coef_at}
use Rattle.wrp_tableau.proofs.Factoring.{cast, entry_at_term}
use Rattle.wrp_tableau.proofs.Searching.{numbers_rise, not_there}
use Rattle.wrp_tableau.proofs.row.entry_of.Goals.{else-at-terms-via-then-at-terms+else-terms-at, else-at-terms-via-else-at-terms}
use Rattle.wrp_tableau.proofs.row.entry_of.Goals as goal

pub returns-then-terms-at-clause-value : goal.returns-then-terms-at-clause-value
returns-then-terms-at-clause-value c =
    let t = get_or c.args.terms.now c.partition_point-at.result (0, pos 0) in
    let small : unsigned_abs t.1 ≤ 2 ^ 60 = c.requires.small c.partition_point-at.result (0, pos 0) c.if-at-terms.true in
    cast t.1 (omega arith) ∙ sym (subst (λ n. coef_at c.args.terms.now n ≡ t.1) c.if-terms-at.true (entry_at_term c.args.terms.now c.partition_point-at.result c.requires.ascending c.if-at-terms.true))

pub returns-else-at-terms-clause-value : goal.returns-else-at-terms-clause-value
returns-else-at-terms-clause-value c =
    let point = c.partition_point-at.ensures.partitioned (λ t. ltb t.0 c.args.number) (always_returns_same _ _ _ (λ a r f k. search (rules, of_calls)))
    (IsPartitionedBy-ltb (λ t. t.0) c.args.terms.now c.args.number (numbers_rise c.args.terms.now c.requires.ascending)) in
    sym (not_there c.args.terms.now c.args.number c.partition_point-at.result c.requires.ascending point.0 point.1
    (λ inside. elim c.else-at-terms.branch [
      | else-at-terms-via-then-at-terms+else-terms-at w ↦ w.if-terms-at.false
      | else-at-terms-via-else-at-terms w ↦ (let past = w.if-at-terms.false in absurd (omega arith))
    ]))
