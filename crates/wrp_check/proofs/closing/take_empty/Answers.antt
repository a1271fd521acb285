use Rattle.std.proofs.Common.{◌≡◌, ◌&&◌, true, false, int_lt, pos, [], ◌∷◌, Ok, Some, None, FitsSigned, ap, refl, ◌∙◌, arith}
use Rattle.std.specs.Int.{w128}
use Rattle.std.proofs.lemmas.Int.{to_z-of_z}
use Rattle.wrp_sums.proofs.Integers.{casts}
use Rattle.wrp_rules.specs.declared.rule.Rule.TheVariants as kinds
use Rattle.wrp_rules.specs.Nodes.{node_at, empty_value}
use Rattle.wrp_rules.specs.Rules.{node_is_there, rows_are_there, node_is_open}
use Rattle.wrp_check.specs.Judging.{plain_past}
use Rattle.wrp_check.specs.Values.{priced_value}
use Rattle.wrp_check.proofs.NodeTaken.{node_taken, start_broken, start_kept}
use Rattle.wrp_check.proofs.KindRules.{one_kept, first_fails}
use Rattle.wrp_check.proofs.Values.{empty_priced}
use Rattle.wrp_check.proofs.Closings.{not_raised, raised}
use Rattle.wrp_check.proofs.closing.take_empty.Goals as goal

pub returns-in-Some-clause-tries : goal.returns-in-Some-clause-tries
returns-in-Some-clause-tries c = λ s is alone.
    let town = c.args.town.now in
    let mult = c.args.multipliers.now in (
      start_broken kinds.Range kinds.Closed (node_is_there s c.args.node && rows_are_there s mult) (node_is_open town s c.args.node)
          ((kinds.Low, int_lt (pos 0) (empty_value town s.rows (node_at town s c.args.node) mult)) ∷ []) c.in-Some.rule (c.in_ok-rule.ensures.rule s is ∙ c.in-Some.is),
      λ e. cc,
    )

pub returns-then-value-le0-clause-tries : goal.returns-then-value-le0-clause-tries
returns-then-value-le0-clause-tries c = λ s is alone.
    let town = c.args.town.now in
    let mult = c.args.multipliers.now in
    let items = c.in_ok-rule.ensures.pairs (ap Ok c.in_default.is) in
    let fits : FitsSigned w128 c.in_ok-value.value = omega (arith, casts, c.in_ok-value.ensures.size) in
    let value : c.in_ok-value.value ≡ empty_value town s.rows (node_at town s c.args.node) mult =
    c.in_ok-value.ensures.value s is ∙ ap (priced_value town s.rows (node_at town s c.args.node) 0) items ∙ empty_priced town s.rows (node_at town s c.args.node) mult in
    let low : int_lt (pos 0) (empty_value town s.rows (node_at town s c.args.node) mult) ≡ false =
    not_raised (pos 0) _ (pos 0) c.in_ok-value.value refl value (rw (to_z-of_z w128 c.in_ok-value.value fits) at c.if-value-le0.true) in (
      start_kept kinds.Range kinds.Closed (node_is_there s c.args.node && rows_are_there s mult) (node_is_open town s c.args.node)
          ((kinds.Low, int_lt (pos 0) (empty_value town s.rows (node_at town s c.args.node) mult)) ∷ []) (Some kinds.Low) (c.in_ok-rule.ensures.rule s is ∙ c.in_default.is)
          (first_fails kinds.Low _ [] low),
      λ e. cc,
    )

pub returns-clause-tries : goal.returns-clause-tries
returns-clause-tries c = λ s is alone.
    let town = c.args.town.now in
    let mult = c.args.multipliers.now in
    let items = c.in_ok-rule.ensures.pairs (ap Ok c.in_default.is) in
    let fits : FitsSigned w128 c.in_ok-value.value = omega (arith, casts, c.in_ok-value.ensures.size) in
    let value : c.in_ok-value.value ≡ empty_value town s.rows (node_at town s c.args.node) mult =
    c.in_ok-value.ensures.value s is ∙ ap (priced_value town s.rows (node_at town s c.args.node) 0) items ∙ empty_priced town s.rows (node_at town s c.args.node) mult in
    let high : int_lt (pos 0) (empty_value town s.rows (node_at town s c.args.node) mult) ≡ true =
    raised (pos 0) _ (pos 0) c.in_ok-value.value refl value (rw (to_z-of_z w128 c.in_ok-value.value fits) at c.if-value-le0.false) in (
      start_kept kinds.Range kinds.Closed (node_is_there s c.args.node && rows_are_there s mult) (node_is_open town s c.args.node)
          ((kinds.Low, int_lt (pos 0) (empty_value town s.rows (node_at town s c.args.node) mult)) ∷ []) None (c.in_ok-rule.ensures.rule s is ∙ c.in_default.is)
          (one_kept kinds.Low _ [] None high refl),
      λ e. node_taken town s _ plain_past c.args.kept.now _ is alone refl refl refl refl (c.close.ensures.nodes town s.nodes is.nodes) refl refl refl c.plain-kept.ensures,
    )
