use Rattle.std.proofs.Common.{◌≡◌, ℕ, Bool, true, false, ◌&&◌, nat_lt, [], ◌∷◌, ap, refl, sym, ◌∙◌, arith}
use Rattle.std.specs.List.{list_all}
use Rattle.std.proofs.lemmas.Bool.{and_from}
use Rattle.wrp_rules.specs.declared.rule.Rule.TheVariants as rules
use Rattle.wrp_rules.specs.Rules.{rows_are_there, node_is_there, node_is_open}
use Rattle.wrp_pool.proofs.Weights.{has_rows_held}
use Rattle.wrp_check.proofs.KindRules.{one_kept, first_fails, second_fails}
use Rattle.wrp_check.proofs.NodeTaken.{node_there, node_gone, open_is}
use Rattle.wrp_check.proofs.closing.broken_start.Goals as goal

pub returns-then-node-len-clause-rule : goal.returns-then-node-len-clause-rule
returns-then-node-len-clause-rule c = λ s is.
    let gone : node_is_there s c.args.node ≡ false = node_gone c.args.town.now s c.args.kept.now is c.args.node (omega (arith, c.if-node-len.true, c.len.ensures)) in
    first_fails rules.Range _ ((rules.Closed, node_is_open c.args.town.now s c.args.node) ∷ []) (ap (λ (t : Bool). t && rows_are_there s c.args.multipliers.now) gone)

pub returns-then-not-branch-clause-rule : goal.returns-then-not-branch-clause-rule
returns-then-not-branch-clause-rule c = λ s is.
    let mult = c.args.multipliers.now in
    let there : node_is_there s c.args.node ≡ true = node_there c.args.town.now s c.args.kept.now is c.args.node (omega (arith, c.if-node-len.false, c.len.ensures)) in
    let missing : rows_are_there s mult ≡ false =
    sym (has_rows_held c.args.town.now c.args.kept.now.pool s.rows mult is.pool) ∙ ap (λ (n : ℕ). list_all (λ (q : ℕ × ℕ). nat_lt q.0 n) mult) (sym c.len-2.ensures) ∙ sym c.in_ok-gather_pairs.ensures.below ∙ c.if-not-branch.true in
    first_fails rules.Range _ ((rules.Closed, node_is_open c.args.town.now s c.args.node) ∷ []) (ap (λ (t : Bool). t && rows_are_there s mult) there ∙ missing)

pub returns-then-not-is_open-clause-rule : goal.returns-then-not-is_open-clause-rule
returns-then-not-is_open-clause-rule c = λ s is.
    let mult = c.args.multipliers.now in
    let there : node_is_there s c.args.node ≡ true = node_there c.args.town.now s c.args.kept.now is c.args.node (omega (arith, c.if-node-len.false, c.len.ensures)) in
    let rows : rows_are_there s mult ≡ true =
    sym (has_rows_held c.args.town.now c.args.kept.now.pool s.rows mult is.pool) ∙ ap (λ (n : ℕ). list_all (λ (q : ℕ × ℕ). nat_lt q.0 n) mult) (sym c.len-2.ensures) ∙ sym c.in_ok-gather_pairs.ensures.below ∙ c.if-not-branch.false in
    second_fails rules.Range rules.Closed _ _ [] (and_from _ _ there rows)
    (open_is c.args.town.now s c.args.kept.now is c.args.node c.is_open.result (c.is_open.ensures c.args.town.now s.nodes is.nodes) ∙ c.if-not-is_open.true)

pub returns-clause-rule : goal.returns-clause-rule
returns-clause-rule c = λ s is.
    let mult = c.args.multipliers.now in
    let there : node_is_there s c.args.node ≡ true = node_there c.args.town.now s c.args.kept.now is c.args.node (omega (arith, c.if-node-len.false, c.len.ensures)) in
    let rows : rows_are_there s mult ≡ true =
    sym (has_rows_held c.args.town.now c.args.kept.now.pool s.rows mult is.pool) ∙ ap (λ (n : ℕ). list_all (λ (q : ℕ × ℕ). nat_lt q.0 n) mult) (sym c.len-2.ensures) ∙ sym c.in_ok-gather_pairs.ensures.below ∙ c.if-not-branch.false in
    one_kept rules.Range _ ((rules.Closed, node_is_open c.args.town.now s c.args.node) ∷ []) _ (and_from _ _ there rows)
    (one_kept rules.Closed _ [] _ (open_is c.args.town.now s c.args.kept.now is c.args.node c.is_open.result (c.is_open.ensures c.args.town.now s.nodes is.nodes) ∙ c.if-not-is_open.false) refl)
