use Rattle.std.proofs.Common.{◌≡◌, ◌∙◌, [], ◌∷◌, None, Some, false, nat_eq, refl, sym, arith, ◌&&◌}
use Rattle.std.specs.Option.{option_map_or, option_eq}
use Rattle.std.specs.List.{last_or}
use Rattle.std.proofs.lemmas.Bool.{and_from, and_left, and_right, not-true, not-false}
use Rattle.wrp_town.specs.Arcs.{is_legal}
use Rattle.wrp_rules.specs.declared.rule.Rule.TheVariants as rules
use Rattle.wrp_rules.specs.declared.record.Record.TheVariants.{Split}
use Rattle.wrp_rules.specs.Nodes.{node_at}
use Rattle.wrp_rules.specs.Rules.{node_is_there, node_is_open, leads_to_split, parts_range}
use Rattle.wrp_check.proofs.KindRules.{first_fails, second_fails, third_fails}
use Rattle.wrp_check.proofs.Branching.{is_there, is_missing, opens, is_led, parts, parts_below, parts_above, small_arc, refused, rowless, four_kept, fourth_fails}
use Rattle.wrp_check.proofs.branch.take_split.Goals as goal
use Rattle.wrp_check.proofs.branch.take_split.Goals.{then-node-len-via-then-node-len, then-node-len-via-else-node-len+then-not-is_legal, then-k-from-via-then-k-from, then-k-from-via-else-k-from+then-k-from-2}

pub returns-then-node-len-clause-tries : goal.returns-then-node-len-clause-tries
returns-then-node-len-clause-tries c = λ s is alone.
    let town = c.args.town.now in
    let kept = c.args.kept.now in
    let node = c.args.node in
    let there = node_is_there s node in
    let legal = is_legal town c.args.arc in
    let missing : (there && legal) ≡ false =
    elim c.then-node-len.branch [
      | then-node-len-via-then-node-len w ↦ and_left there legal (is_missing town s kept node _ is c.len.ensures w.if-node-len.true)
      | then-node-len-via-else-node-len+then-not-is_legal w ↦ and_right there legal (sym w.is_legal.ensures ∙ w.if-not-is_legal.true)
    ] in
    refused town s (Split node c.args.arc c.args.k) rules.Range kept
    (first_fails rules.Range _
    ((rules.Closed, node_is_open town s node) ∷ (rules.Alone, option_map_or (leads_to_split node) (last_or None s.records) false) ∷ (rules.Part, parts_range (node_at town s node) c.args.arc c.args.k) ∷ []) missing)

pub returns-then-not-is_open-clause-tries : goal.returns-then-not-is_open-clause-tries
returns-then-not-is_open-clause-tries c = λ s is alone.
    let town = c.args.town.now in
    let kept = c.args.kept.now in
    let node = c.args.node in
    refused town s (Split node c.args.arc c.args.k) rules.Closed kept
    (second_fails rules.Range rules.Closed _ _
    ((rules.Alone, option_map_or (leads_to_split node) (last_or None s.records) false) ∷ (rules.Part, parts_range (node_at town s node) c.args.arc c.args.k) ∷ [])
    (and_from _ _ (is_there town s kept node _ is c.len.ensures c.if-node-len.false) (sym c.is_legal.ensures ∙ c.if-not-is_legal.false))
    (opens town s kept node _ is (c.is_open.ensures town s.nodes is.nodes) ∙ c.if-not-is_open.true))

pub returns-then-ne-clause-tries : goal.returns-then-ne-clause-tries
returns-then-ne-clause-tries c = λ s is alone.
    let town = c.args.town.now in
    let kept = c.args.kept.now in
    let node = c.args.node in
    refused town s (Split node c.args.arc c.args.k) rules.Alone kept
    (third_fails rules.Range rules.Closed rules.Alone _ _ _ ((rules.Part, parts_range (node_at town s node) c.args.arc c.args.k) ∷ [])
    (and_from _ _ (is_there town s kept node _ is c.len.ensures c.if-node-len.false) (sym c.is_legal.ensures ∙ c.if-not-is_legal.false))
    (opens town s kept node _ is (c.is_open.ensures town s.nodes is.nodes) ∙ c.if-not-is_open.false)
    (is_led town s kept node is ∙ not-true (option_eq nat_eq kept.past.leads (Some node)) (sym c.ne.ensures ∙ c.if-ne.true)))

pub returns-then-k-from-clause-tries : goal.returns-then-k-from-clause-tries
returns-then-k-from-clause-tries c = λ s is alone.
    let town = c.args.town.now in
    let kept = c.args.kept.now in
    let node = c.args.node in
    let low = c.range_at-range.ensures.lo s is in
    let high = c.range_at-range.ensures.hi s is in
    let outside : parts_range (node_at town s node) c.args.arc c.args.k ≡ false =
    elim c.then-k-from.branch [
      | then-k-from-via-then-k-from w ↦ parts_below (node_at town s node) c.args.arc c.args.k _ _ low high (omega (arith, c.from.ensures, w.if-k-from.true))
      | then-k-from-via-else-k-from+then-k-from-2 w ↦ parts_above (node_at town s node) c.args.arc c.args.k _ _ low high (omega (arith, w.from-else-k-from.ensures, w.if-k-from-2.true))
    ] in
    refused town s (Split node c.args.arc c.args.k) rules.Part kept
    (fourth_fails rules.Range rules.Closed rules.Alone rules.Part _ _ _ _
    (and_from _ _ (is_there town s kept node _ is c.len.ensures c.if-node-len.false) (sym c.is_legal.ensures ∙ c.if-not-is_legal.false))
    (opens town s kept node _ is (c.is_open.ensures town s.nodes is.nodes) ∙ c.if-not-is_open.false)
    (is_led town s kept node is ∙ not-false (option_eq nat_eq kept.past.leads (Some node)) (sym c.ne.ensures ∙ c.if-ne.false)) outside)

pub split-requires-clause-arc : goal.split-requires-clause-arc
split-requires-clause-arc c = small_arc c.args.town.now c.args.arc (sym c.is_legal.ensures ∙ c.if-not-is_legal.false)

pub returns-clause-tries : goal.returns-clause-tries
returns-clause-tries c = λ s is alone.
    let town = c.args.town.now in
    let kept = c.args.kept.now in
    let node = c.args.node in
    let legal = sym c.is_legal.ensures ∙ c.if-not-is_legal.false in
    let inside = parts (node_at town s node) c.args.arc c.args.k _ _ (c.range_at-range.ensures.lo s is) (c.range_at-range.ensures.hi s is)
    (omega (arith, c.from.ensures, c.if-k-from.false)) (omega (arith, c.from-else-k-from.ensures, c.if-k-from-2.false)) in (
      four_kept rules.Range rules.Closed rules.Alone rules.Part _ _ _ _ (and_from _ _ (is_there town s kept node _ is c.len.ensures c.if-node-len.false) legal)
          (opens town s kept node _ is (c.is_open.ensures town s.nodes is.nodes) ∙ c.if-not-is_open.false)
          (is_led town s kept node is ∙ not-false (option_eq nat_eq kept.past.leads (Some node)) (sym c.ne.ensures ∙ c.if-ne.false)) inside,
      λ e. rowless town s (Split node c.args.arc c.args.k) kept _ is alone refl refl refl refl (c.in_ok-split.ensures.ok.nodes town s.nodes is.nodes legal inside) refl refl c.plain-kept.ensures,
    )
