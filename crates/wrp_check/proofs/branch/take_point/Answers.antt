use Rattle.std.proofs.Common.{◌≡◌, ◌∙◌, Ok, true, false, drop, refl, sym, ap, ◌&&◌}
use Rattle.std.specs.List.{list_all}
use Rattle.std.proofs.lemmas.Bool.{and_from, and_left, and_right}
use Rattle.wrp_town.specs.Arcs.{is_legal}
use Rattle.wrp_rules.specs.declared.rule.Rule.TheVariants as rules
use Rattle.wrp_rules.specs.declared.record.Record.TheVariants.{Point}
use Rattle.wrp_rules.specs.Rules.{node_is_there, rules_of}
use Rattle.wrp_points.specs.Points.{rule_of_point}
use Rattle.wrp_check.proofs.KindRules.{first_fails, second_fails}
use Rattle.wrp_check.proofs.Branching.{is_there, is_missing, opens, refused, rowless, two_kept, not_legal, none_or_some}
use Rattle.wrp_check.proofs.branch.take_point.Goals as goal
use Rattle.wrp_check.proofs.branch.take_point.Goals.{then-node-len-via-then-node-len, then-node-len-via-else-node-len+in_ok-gather_pairs+then-not-branch, then-node-len-via-else-node-len+in_ok-gather_pairs+else-not-branch+then-not-are_legal}

pub returns-then-node-len-clause-tries : goal.returns-then-node-len-clause-tries
returns-then-node-len-clause-tries c = λ s is alone.
    let town = c.args.town.now in
    let kept = c.args.kept.now in
    let node = c.args.node in
    let numbers = c.args.numbers.now in
    let there = node_is_there s node in
    let legal = list_all (λ q. is_legal town q.0) numbers in
    let missing : (there && legal) ≡ false =
    elim c.then-node-len.branch [
      | then-node-len-via-then-node-len w ↦ and_left there legal (is_missing town s kept node _ is c.len.ensures w.if-node-len.true)
      | then-node-len-via-else-node-len+in_ok-gather_pairs+then-not-branch w ↦ and_right there legal (not_legal town numbers _ w.len-else-node-len.ensures (sym w.in_ok-gather_pairs.ensures.below ∙ w.if-not-branch.true))
      | then-node-len-via-else-node-len+in_ok-gather_pairs+else-not-branch+then-not-are_legal w ↦ and_right there legal (
          ap (list_all (λ q. is_legal town q.0)) (sym (w.as_slice.ensures.value ∙ w.in_ok-gather_pairs.ensures.items (ap Ok w.if-not-branch.false))) ∙ sym w.are_legal.ensures ∙ w.if-not-are_legal.true)
    ] in
    refused town s (Point node c.args.denominator numbers) rules.Range _
    (first_fails rules.Range _ (drop 1 (rules_of town s (Point node c.args.denominator numbers))) missing)

pub returns-then-not-is_open-clause-tries : goal.returns-then-not-is_open-clause-tries
returns-then-not-is_open-clause-tries c = λ s is alone.
    let town = c.args.town.now in
    let kept = c.args.kept.now in
    let node = c.args.node in
    let numbers = c.args.numbers.now in
    let listed = c.as_slice.ensures.value ∙ c.in_ok-gather_pairs.ensures.items (ap Ok c.if-not-branch.false) in
    let legal : list_all (λ q. is_legal town q.0) numbers ≡ true =
    ap (list_all (λ q. is_legal town q.0)) (sym listed) ∙ sym c.are_legal.ensures ∙ c.if-not-are_legal.false in
    refused town s (Point node c.args.denominator numbers) rules.Closed _
    (second_fails rules.Range rules.Closed _ _ (drop 2 (rules_of town s (Point node c.args.denominator numbers)))
    (and_from _ _ (is_there town s kept node _ is c.len.ensures c.if-node-len.false) legal)
    (opens town s kept node _ is (c.is_open.ensures town s.nodes is.nodes) ∙ c.if-not-is_open.true))

pub broken_point-broken-requires-clause-legal : goal.broken_point-broken-requires-clause-legal
broken_point-broken-requires-clause-legal c =
    let town = c.args.town.now in
    ap (list_all (λ q. is_legal town q.0)) (c.as_slice-2.ensures.value ∙ sym c.as_slice.ensures.value) ∙ sym c.are_legal.ensures ∙ c.if-not-are_legal.false

pub returns-then-is_none-clause-tries : goal.returns-then-is_none-clause-tries
returns-then-is_none-clause-tries c = λ s is alone.
    let town = c.args.town.now in
    let kept = c.args.kept.now in
    let node = c.args.node in
    let numbers = c.args.numbers.now in
    let items = c.in_ok-gather_pairs.ensures.items (ap Ok c.if-not-branch.false) in
    let legal : list_all (λ q. is_legal town q.0) numbers ≡ true =
    ap (list_all (λ q. is_legal town q.0)) (sym (c.as_slice.ensures.value ∙ items)) ∙ sym c.are_legal.ensures ∙ c.if-not-are_legal.false in
    let rest : rule_of_point town s node c.args.denominator numbers ≡ c.broken_point-broken.result =
    ap (rule_of_point town s node c.args.denominator) (sym (c.as_slice-2.ensures.value ∙ items)) ∙ sym (c.broken_point-broken.ensures.rule s is.nodes) in (
      two_kept rules.Range rules.Closed _ _ (drop 2 (rules_of town s (Point node c.args.denominator numbers))) _
          (and_from _ _ (is_there town s kept node _ is c.len.ensures c.if-node-len.false) legal)
          (opens town s kept node _ is (c.is_open.ensures town s.nodes is.nodes) ∙ c.if-not-is_open.false) rest,
      λ e. rowless town s (Point node c.args.denominator numbers) kept _ is alone refl refl refl refl is.nodes refl refl c.leading_to-kept.ensures,
    )

pub returns-else-is_none-clause-tries : goal.returns-else-is_none-clause-tries
returns-else-is_none-clause-tries c = λ s is alone.
    let town = c.args.town.now in
    let kept = c.args.kept.now in
    let node = c.args.node in
    let numbers = c.args.numbers.now in
    let items = c.in_ok-gather_pairs.ensures.items (ap Ok c.if-not-branch.false) in
    let legal : list_all (λ q. is_legal town q.0) numbers ≡ true =
    ap (list_all (λ q. is_legal town q.0)) (sym (c.as_slice.ensures.value ∙ items)) ∙ sym c.are_legal.ensures ∙ c.if-not-are_legal.false in
    let rest : rule_of_point town s node c.args.denominator numbers ≡ c.broken_point-broken.result =
    ap (rule_of_point town s node c.args.denominator) (sym (c.as_slice-2.ensures.value ∙ items)) ∙ sym (c.broken_point-broken.ensures.rule s is.nodes) in (
      two_kept rules.Range rules.Closed _ _ (drop 2 (rules_of town s (Point node c.args.denominator numbers))) _
          (and_from _ _ (is_there town s kept node _ is c.len.ensures c.if-node-len.false) legal)
          (opens town s kept node _ is (c.is_open.ensures town s.nodes is.nodes) ∙ c.if-not-is_open.false) rest,
      λ e. none_or_some c.broken_point-broken.result e c.if-is_none.ensures,
    )
