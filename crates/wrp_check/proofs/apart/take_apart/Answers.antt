use Rattle.std.proofs.Common.{◌≡◌, ◌∙◌, ℕ, List, [], ◌∷◌, Ok, true, false, not, ◌&&◌, ◌||◌, ◌==◌, drop, refl, sym, ap, subst}
use Rattle.std.specs.List.{list_all}
use Rattle.std.proofs.lemmas.Bool.{and_from, and_left, and_right, and_parts}
use Rattle.wrp_town.specs.declared.town.Town.{Town}
use Rattle.wrp_town.specs.Arcs.{legal_arcs}
use Rattle.wrp_rules.specs.declared.rule.Rule.TheVariants as rules
use Rattle.wrp_rules.specs.declared.record.Record.TheVariants.{Apart}
use Rattle.wrp_rules.specs.Nodes.{node_at}
use Rattle.wrp_rules.specs.Sets.{is_parted, leaves}
use Rattle.wrp_rules.specs.Rules.{all_below, node_is_there, streets_are_there, junctions_are_there, rules_of}
use Rattle.wrp_pool.specs.Members.{Members}
use Rattle.wrp_pool.specs.Cuts.{IsSetOf}
use Rattle.wrp_check.proofs.KindRules.{first_fails, second_fails, third_fails}
use Rattle.wrp_check.proofs.Branching.{is_there, is_missing, opens, refused, rowless, four_kept, fourth_fails}
use Rattle.wrp_check.proofs.Shutting.{gathered_set}
use Rattle.wrp_check.proofs.apart.take_apart.Goals as goal
use Rattle.wrp_check.proofs.apart.take_apart.Goals.{then-node-len-via-then-node-len, then-node-len-via-else-node-len+then-not-are_streets, then-node-len-via-else-node-len+else-not-are_streets+in_ok-gather_set+then-not-branch}

pub returns-then-node-len-clause-tries : goal.returns-then-node-len-clause-tries
returns-then-node-len-clause-tries c = λ s is alone.
    let town = c.args.graph.now in
    let kept = c.args.kept.now in
    let node = c.args.node in
    let junctions = c.args.junctions.now in
    let there = node_is_there s node in
    let streets = streets_are_there town (c.args.inside ∷ c.args.outside ∷ []) in
    let all = junctions_are_there town junctions in
    let missing : ((there && streets) && all) ≡ false =
    elim c.then-node-len.branch [
      | then-node-len-via-then-node-len w ↦ and_left (there && streets) all (and_left there streets (is_missing town s kept node _ is c.len.ensures w.if-node-len.true))
      | then-node-len-via-else-node-len+then-not-are_streets w ↦ and_left (there && streets) all (and_right there streets (
          ap (λ (t : Town). streets_are_there t (c.args.inside ∷ c.args.outside ∷ [])) (sym c.town-town.ensures) ∙ sym w.are_streets.ensures ∙ w.if-not-are_streets.true))
      | then-node-len-via-else-node-len+else-not-are_streets+in_ok-gather_set+then-not-branch w ↦ and_right (there && streets) all (
          ap (λ (m : Members). all_below m.among junctions) (sym c.requires.idle.set) ∙ sym w.in_ok-gather_set.ensures.there ∙ w.if-not-branch.true)
    ] in
    refused town s (Apart node c.args.inside c.args.outside junctions) rules.Range _
    (first_fails rules.Range _ (drop 1 (rules_of town s (Apart node c.args.inside c.args.outside junctions))) missing)

pub returns-then-not-is_open-clause-tries : goal.returns-then-not-is_open-clause-tries
returns-then-not-is_open-clause-tries c = λ s is alone.
    let town = c.args.graph.now in
    let kept = c.args.kept.now in
    let node = c.args.node in
    let junctions = c.args.junctions.now in
    let streets = ap (λ (t : Town). streets_are_there t (c.args.inside ∷ c.args.outside ∷ [])) (sym c.town-town.ensures) ∙ sym c.are_streets.ensures ∙ c.if-not-are_streets.false in
    let all = ap (λ (m : Members). all_below m.among junctions) (sym c.requires.idle.set) ∙ sym c.in_ok-gather_set.ensures.there ∙ c.if-not-branch.false in
    refused town s (Apart node c.args.inside c.args.outside junctions) rules.Closed _
    (second_fails rules.Range rules.Closed _ _ (drop 2 (rules_of town s (Apart node c.args.inside c.args.outside junctions)))
    (and_from _ _ (and_from _ _ (is_there town s kept node _ is c.len.ensures c.if-node-len.false) streets) all)
    (opens town s kept node _ is (c.is_open.ensures town s.nodes is.nodes) ∙ c.if-not-is_open.true))

pub is_parted-requires-clause-set : goal.is_parted-requires-clause-set
is_parted-requires-clause-set c =
    subst (λ (t : Town). IsSetOf t c.gather_set.new.set) (sym c.town-town.ensures)
    (gathered_set c.args.graph.now c.gather_set.new.set c.args.work.now.set.among c.args.junctions.now (c.in_ok-gather_set.ensures.set (ap Ok c.if-not-branch.false))
    (ap (λ (m : Members). m.among) c.requires.idle.set) (sym c.in_ok-gather_set.ensures.there ∙ c.if-not-branch.false) (and_parts _ _ c.requires.numbers).1)

pub returns-then-not-is_parted-clause-tries : goal.returns-then-not-is_parted-clause-tries
returns-then-not-is_parted-clause-tries c = λ s is alone.
    let town = c.args.graph.now in
    let kept = c.args.kept.now in
    let node = c.args.node in
    let junctions = c.args.junctions.now in
    let streets = ap (λ (t : Town). streets_are_there t (c.args.inside ∷ c.args.outside ∷ [])) (sym c.town-town.ensures) ∙ sym c.are_streets.ensures ∙ c.if-not-are_streets.false in
    let all = ap (λ (m : Members). all_below m.among junctions) (sym c.requires.idle.set) ∙ sym c.in_ok-gather_set.ensures.there ∙ c.if-not-branch.false in
    let set = ap (λ (m : Members). m.set) (c.in_ok-gather_set.ensures.set (ap Ok c.if-not-branch.false)) in
    let parted : is_parted town c.args.inside c.args.outside junctions ≡ false =
    ap (λ (xs : List ℕ). is_parted town c.args.inside c.args.outside xs) (sym set) ∙ ap (λ (t : Town). is_parted t c.args.inside c.args.outside c.gather_set.new.set.set) (sym c.town-town.ensures) ∙ sym c.is_parted.ensures ∙ c.if-not-is_parted.true in
    refused town s (Apart node c.args.inside c.args.outside junctions) rules.Cross _
    (third_fails rules.Range rules.Closed rules.Cross _ _ _ (drop 3 (rules_of town s (Apart node c.args.inside c.args.outside junctions)))
    (and_from _ _ (and_from _ _ (is_there town s kept node _ is c.len.ensures c.if-node-len.false) streets) all)
    (opens town s kept node _ is (c.is_open.ensures town s.nodes is.nodes) ∙ c.if-not-is_open.false) parted)

pub returns-then-not-is_shut_at-clause-tries : goal.returns-then-not-is_shut_at-clause-tries
returns-then-not-is_shut_at-clause-tries c = λ s is alone.
    let town = c.args.graph.now in
    let kept = c.args.kept.now in
    let node = c.args.node in
    let junctions = c.args.junctions.now in
    let streets = ap (λ (t : Town). streets_are_there t (c.args.inside ∷ c.args.outside ∷ [])) (sym c.town-town.ensures) ∙ sym c.are_streets.ensures ∙ c.if-not-are_streets.false in
    let all = ap (λ (m : Members). all_below m.among junctions) (sym c.requires.idle.set) ∙ sym c.in_ok-gather_set.ensures.there ∙ c.if-not-branch.false in
    let set = ap (λ (m : Members). m.set) (c.in_ok-gather_set.ensures.set (ap Ok c.if-not-branch.false)) in
    let parted : is_parted town c.args.inside c.args.outside junctions ≡ true =
    ap (λ (xs : List ℕ). is_parted town c.args.inside c.args.outside xs) (sym set) ∙ ap (λ (t : Town). is_parted t c.args.inside c.args.outside c.gather_set.new.set.set) (sym c.town-town.ensures) ∙ sym c.is_parted.ensures ∙ c.if-not-is_parted.false in
    let shut : list_all (λ arc. not (leaves town junctions arc) || ((node_at town s node).hi arc == 0)) (legal_arcs town) ≡ false =
    ap (λ (xs : List ℕ). list_all (λ arc. not (leaves town xs arc) || ((node_at town s node).hi arc == 0)) (legal_arcs town)) (sym set) ∙ sym (c.is_shut_at.ensures.shut s is) ∙ c.if-not-is_shut_at.true in
    refused town s (Apart node c.args.inside c.args.outside junctions) rules.Leak _
    (fourth_fails rules.Range rules.Closed rules.Cross rules.Leak _ _ _ _
    (and_from _ _ (and_from _ _ (is_there town s kept node _ is c.len.ensures c.if-node-len.false) streets) all)
    (opens town s kept node _ is (c.is_open.ensures town s.nodes is.nodes) ∙ c.if-not-is_open.false) parted shut)

pub returns-clause-tries : goal.returns-clause-tries
returns-clause-tries c = λ s is alone.
    let town = c.args.graph.now in
    let kept = c.args.kept.now in
    let node = c.args.node in
    let junctions = c.args.junctions.now in
    let streets = ap (λ (t : Town). streets_are_there t (c.args.inside ∷ c.args.outside ∷ [])) (sym c.town-town.ensures) ∙ sym c.are_streets.ensures ∙ c.if-not-are_streets.false in
    let all = ap (λ (m : Members). all_below m.among junctions) (sym c.requires.idle.set) ∙ sym c.in_ok-gather_set.ensures.there ∙ c.if-not-branch.false in
    let set = ap (λ (m : Members). m.set) (c.in_ok-gather_set.ensures.set (ap Ok c.if-not-branch.false)) in
    let parted : is_parted town c.args.inside c.args.outside junctions ≡ true =
    ap (λ (xs : List ℕ). is_parted town c.args.inside c.args.outside xs) (sym set) ∙ ap (λ (t : Town). is_parted t c.args.inside c.args.outside c.gather_set.new.set.set) (sym c.town-town.ensures) ∙ sym c.is_parted.ensures ∙ c.if-not-is_parted.false in
    let shut : list_all (λ arc. not (leaves town junctions arc) || ((node_at town s node).hi arc == 0)) (legal_arcs town) ≡ true =
    ap (λ (xs : List ℕ). list_all (λ arc. not (leaves town xs arc) || ((node_at town s node).hi arc == 0)) (legal_arcs town)) (sym set) ∙ sym (c.is_shut_at.ensures.shut s is) ∙ c.if-not-is_shut_at.false in (
      four_kept rules.Range rules.Closed rules.Cross rules.Leak _ _ _ _ (and_from _ _ (and_from _ _ (is_there town s kept node _ is c.len.ensures c.if-node-len.false) streets) all)
          (opens town s kept node _ is (c.is_open.ensures town s.nodes is.nodes) ∙ c.if-not-is_open.false) parted shut,
      λ e. rowless town s (Apart node c.args.inside c.args.outside junctions) kept _ is alone refl refl refl refl (c.close.ensures.nodes town s.nodes is.nodes) refl refl c.plain-kept.ensures,
    )
