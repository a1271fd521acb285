use Rattle.std.proofs.Common.{rules, ◌≡◌, ◌&&◌, true, false, ℤ, [], ◌∷◌, Ok, Some, None, FitsSigned, ap, refl, subst, ◌∙◌, arith}
use Rattle.std.specs.Int.{w128}
use Rattle.std.proofs.lemmas.Int.{to_z-of_z}
use Rattle.wrp_sums.specs.Rounding.{ceil_div}
use Rattle.wrp_sums.proofs.Integers.{casts}
use Rattle.wrp_rules.specs.declared.rule.Rule.TheVariants as kinds
use Rattle.wrp_rules.specs.Nodes.{node_at, bound_at, with_bound, changed}
use Rattle.wrp_rules.specs.Rules.{node_is_there, rows_are_there, node_is_open, raises_bound}
use Rattle.wrp_nodes.specs.Kept.{HasNodes}
use Rattle.wrp_check.specs.Judging.{plain_past}
use Rattle.wrp_check.specs.Values.{priced_value}
use Rattle.wrp_check.proofs.NodeTaken.{node_taken, start_broken, start_kept}
use Rattle.wrp_check.proofs.KindRules.{one_kept, first_fails}
use Rattle.wrp_check.proofs.Closings.{not_raised, raised}
use Rattle.wrp_check.proofs.closing.take_bound.Goals as goal

pub returns-in-Some-clause-tries : goal.returns-in-Some-clause-tries
returns-in-Some-clause-tries c = λ s is alone.
    let town = c.args.town.now in
    let mult = c.args.multipliers.now in (
      start_broken kinds.Range kinds.Closed (node_is_there s c.args.node && rows_are_there s mult) (node_is_open town s c.args.node)
          ((kinds.Low, raises_bound town s c.args.node c.args.denominator mult) ∷ []) c.in-Some.rule (c.in_ok-rule.ensures.rule s is ∙ c.in-Some.is),
      λ e. cc,
    )

pub returns-then-bound-clause-tries : goal.returns-then-bound-clause-tries
returns-then-bound-clause-tries c = λ s is alone.
    let town = c.args.town.now in
    let mult = c.args.multipliers.now in
    let items = c.in_ok-rule.ensures.pairs (ap Ok c.in_default.is) in
    let fits : FitsSigned w128 c.in_ok-value.value = omega (arith, casts, c.in_ok-value.ensures.size) in
    let own : FitsSigned w128 c.bound.result = search rules in
    let new : FitsSigned w128 c.rounded_up-bound.result = search rules in
    let bound : c.rounded_up-bound.result ≡ bound_at town s c.args.node c.args.denominator mult =
    rw (to_z-of_z w128 c.in_ok-value.value fits) at c.rounded_up-bound.ensures
    ∙ ap (λ (z : ℤ). ceil_div z c.args.denominator) (c.in_ok-value.ensures.value s is ∙ ap (priced_value town s.rows (node_at town s c.args.node) c.args.denominator) items) in
    let low : raises_bound town s c.args.node c.args.denominator mult ≡ false =
    not_raised _ _ c.bound.result c.rounded_up-bound.result (c.bound.ensures town s.nodes is.nodes) bound (rw (to_z-of_z w128 c.rounded_up-bound.result new, to_z-of_z w128 c.bound.result own) at c.if-bound.true) in (
      start_kept kinds.Range kinds.Closed (node_is_there s c.args.node && rows_are_there s mult) (node_is_open town s c.args.node)
          ((kinds.Low, raises_bound town s c.args.node c.args.denominator mult) ∷ []) (Some kinds.Low) (c.in_ok-rule.ensures.rule s is ∙ c.in_default.is)
          (first_fails kinds.Low _ [] low),
      λ e. cc,
    )

pub returns-clause-tries : goal.returns-clause-tries
returns-clause-tries c = λ s is alone.
    let town = c.args.town.now in
    let mult = c.args.multipliers.now in
    let items = c.in_ok-rule.ensures.pairs (ap Ok c.in_default.is) in
    let fits : FitsSigned w128 c.in_ok-value.value = omega (arith, casts, c.in_ok-value.ensures.size) in
    let own : FitsSigned w128 c.bound.result = search rules in
    let new : FitsSigned w128 c.rounded_up-bound.result = search rules in
    let bound : c.rounded_up-bound.result ≡ bound_at town s c.args.node c.args.denominator mult =
    rw (to_z-of_z w128 c.in_ok-value.value fits) at c.rounded_up-bound.ensures
    ∙ ap (λ (z : ℤ). ceil_div z c.args.denominator) (c.in_ok-value.ensures.value s is ∙ ap (priced_value town s.rows (node_at town s c.args.node) c.args.denominator) items) in
    let high : raises_bound town s c.args.node c.args.denominator mult ≡ true =
    raised _ _ c.bound.result c.rounded_up-bound.result (c.bound.ensures town s.nodes is.nodes) bound (rw (to_z-of_z w128 c.rounded_up-bound.result new, to_z-of_z w128 c.bound.result own) at c.if-bound.false) in (
      start_kept kinds.Range kinds.Closed (node_is_there s c.args.node && rows_are_there s mult) (node_is_open town s c.args.node)
          ((kinds.Low, raises_bound town s c.args.node c.args.denominator mult) ∷ []) None (c.in_ok-rule.ensures.rule s is ∙ c.in_default.is)
          (one_kept kinds.Low _ [] None high refl),
      λ e. node_taken town s _ plain_past c.args.kept.now _ is alone refl refl refl refl
          (subst (λ (z : ℤ). HasNodes town c.set_bound.new.self (changed (with_bound z) c.args.node s.nodes)) (to_z-of_z w128 c.rounded_up-bound.result new ∙ bound) (c.set_bound.ensures.nodes town s.nodes is.nodes))
          refl refl refl c.plain-kept.ensures,
    )
