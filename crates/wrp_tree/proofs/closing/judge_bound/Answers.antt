use Rattle.std.proofs.Common.{◌≡◌, true, int_le, ℤ, [], ◌∷◌, None, FitsSigned, rules, drop, ap, refl, sym, ◌∙◌}
use Rattle.std.specs.Int.{w128}
use Rattle.std.proofs.lemmas.Bool.{and_parts, and_from}
use Rattle.std.proofs.lemmas.Int.{to_z-of_z}
use Rattle.wrp_rules.specs.declared.rule.Rule.TheVariants as kinds
use Rattle.wrp_rules.specs.declared.record.Record.TheVariants.{Bound}
use Rattle.wrp_rules.specs.Nodes.{node_at, bound_at}
use Rattle.wrp_rules.specs.Rules.{node_is_there, rows_are_there, raises_bound, rules_of}
use Rattle.wrp_tree.specs.declared.plan.Plan.TheVariants as plans
use Rattle.wrp_tree.proofs.KindRules.{one_kept, first_fails}
use Rattle.wrp_tree.proofs.Judging.{two_kept, above}
use Rattle.wrp_tree.proofs.Keeping.{below_count, named}
use Rattle.wrp_tree.proofs.closing.judge_bound.Goals as goal

pub returns-then-not-has_node_and_rows-clause-judged : goal.returns-then-not-has_node_and_rows-clause-judged
returns-then-not-has_node_and_rows-clause-judged c = λ s is.
    first_fails kinds.Range _ (drop 1 (rules_of c.args.town.now s (Bound c.args.node c.args.den c.args.mult.now))) (sym (c.has_node_and_rows.ensures c.args.town.now s is) ∙ c.if-not-has_node_and_rows.true)

pub is_open-requires : goal.is_open-requires
is_open-requires c =
    let s = c.requires.kept.0 in
    let is = c.requires.kept.1 in
    let both = and_parts (node_is_there s c.args.node) (rows_are_there s c.args.mult.now) (sym (c.has_node_and_rows.ensures c.args.town.now s is) ∙ c.if-not-has_node_and_rows.false) in
    (c.args.town.now, s, is, both.0)

pub bound_at-bound-requires-clause-there : goal.bound_at-bound-requires-clause-there
bound_at-bound-requires-clause-there c =
    let s = c.requires.kept.0 in
    let is = c.requires.kept.1 in
    let both = and_parts (node_is_there s c.args.node) (rows_are_there s c.args.mult.now) (sym (c.has_node_and_rows.ensures c.args.town.now s is) ∙ c.if-not-has_node_and_rows.false) in
    below_count c.args.town.now s c.args.kept.now is c.args.node both.0

pub bound_at-bound-requires-clause-named : goal.bound_at-bound-requires-clause-named
bound_at-bound-requires-clause-named c =
    let s = c.requires.kept.0 in
    let is = c.requires.kept.1 in
    let both = and_parts (node_is_there s c.args.node) (rows_are_there s c.args.mult.now) (sym (c.has_node_and_rows.ensures c.args.town.now s is) ∙ c.if-not-has_node_and_rows.false) in
    named c.args.town.now s c.args.kept.now is c.args.mult.now both.1

pub returns-clause-judged : goal.returns-clause-judged
returns-clause-judged c = λ s is.
    let town = c.args.town.now in
    let node = c.args.node in
    let both = and_parts (node_is_there s node) (rows_are_there s c.args.mult.now) (sym (c.has_node_and_rows.ensures town s is) ∙ c.if-not-has_node_and_rows.false) in
    let open_now = sym (c.is_open.ensures town s is) ∙ c.if-not-is_open.false in
    let fits_new : FitsSigned w128 c.bound_at-bound.result = search rules in
    let fits_old : FitsSigned w128 c.bound.result = search rules in
    let value = c.bound_at-bound.ensures.value s is in
    let own = c.bound.ensures town s.nodes s.upper is.index in
    let low : raises_bound town s node c.args.den c.args.mult.now ≡ true =
    above (node_at town s node).bound (bound_at town s node c.args.den c.args.mult.now)
    (ap (λ (z : ℤ). int_le z (node_at town s node).bound) (sym value) ∙ ap (int_le c.bound_at-bound.result) (sym own) ∙ (rw (to_z-of_z w128 c.bound_at-bound.result fits_new, to_z-of_z w128 c.bound.result fits_old) at c.if-bound.false)) in (
      two_kept kinds.Range kinds.Closed _ _ ((kinds.Low, raises_bound town s node c.args.den c.args.mult.now) ∷ []) None (and_from _ _ both.0 both.1) open_now (one_kept kinds.Low _ [] None low refl),
      ap plans.Raise (to_z-of_z w128 c.bound_at-bound.result fits_new ∙ value),
    )
