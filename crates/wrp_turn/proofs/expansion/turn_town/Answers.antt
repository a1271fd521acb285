use Rattle.std.proofs.Common.{ℕ, List, subst, length, ap, sym, ◌∙◌, arith}
use Rattle.std.specs.Prelude.{position}
use Rattle.wrp_town.specs.declared.town.Town.{Town}
use Rattle.wrp_turn.specs.TurnTowns.{has_choice, turns_of, IsTurnTown}
use Rattle.wrp_turn.proofs.TurnNames.{few_own}
use Rattle.wrp_turn.proofs.Causes.{choice_found, choice_missing, too_large, not_refused}
use Rattle.wrp_turn.proofs.expansion.turn_town.Goals as goal

pub returns-in-Some-clause-town : goal.returns-in-Some-clause-town
returns-in-Some-clause-town c =
    choice_found c.args.graph.now c.args.bans.now.list c.in-Some.street
    (sym (c.choice_in.ensures ∙ ap (position has_choice) (c.as_slice.ensures ∙ (λ i. (c.town-town.ensures i).streets))) ∙ c.in-Some.is)

pub overflow_add-streets : goal.overflow_add-streets
overflow_add-streets c = omega (arith, few_own c.args.graph.now c.in_ok-arcs.arcs c.in_ok-arcs.ensures, c.in_ok-streets.ensures.small)

pub returns-then-not-fit-clause-town : goal.returns-then-not-fit-clause-town
returns-then-not-fit-clause-town c =
    let town = c.args.graph.now in
    let own = ap length c.in_ok-arcs.ensures in
    too_large town c.args.bans.now.list c.len.result c.len-2.result c.in_ok-streets.field-0 c.fit.result
    (choice_missing town (sym (c.choice_in.ensures ∙ ap (position has_choice) (c.as_slice.ensures ∙ (λ i. (c.town-town.ensures i).streets))) ∙ c.in_default.is))
    (c.len.ensures ∙ own) (c.len-2.ensures ∙ own)
    (c.in_ok-streets.ensures.count ∙ (λ i. length (turns_of (c.in_ok-turns.ensures.town i) ((c.in_ok-turns.ensures.bans ∙ c.as_slice-2.ensures) i))))
    c.fit.ensures c.if-not-fit.true

pub returns-clause-town : goal.returns-clause-town
returns-clause-town c =
    let town = c.args.graph.now in
    let own = ap length c.in_ok-arcs.ensures in
    let bans = c.in_ok-turns.ensures.bans ∙ c.as_slice-2.ensures in (
      not_refused town c.args.bans.now.list c.len.result c.len-2.result c.in_ok-streets.field-0 c.fit.result
          (choice_missing town (sym (c.choice_in.ensures ∙ ap (position has_choice) (c.as_slice.ensures ∙ (λ i. (c.town-town.ensures i).streets))) ∙ c.in_default.is))
          (c.len.ensures ∙ own) (c.len-2.ensures ∙ own)
          (c.in_ok-streets.ensures.count ∙ (λ i. length (turns_of (c.in_ok-turns.ensures.town i) (bans i))))
          c.fit.ensures c.if-not-fit.false,
      subst (λ (t : Town). IsTurnTown t c.args.bans.now.list c.in_ok-build.field-0) c.town-town.ensures
          (subst (λ (bs : List (ℕ × ℕ)). IsTurnTown c.town-town.result.now bs c.in_ok-build.field-0) bans c.in_ok-build.ensures),
    )

pub returns-clause-free : goal.returns-clause-free
returns-clause-free c =
    choice_missing c.args.graph.now
    (sym (c.choice_in.ensures ∙ ap (position has_choice) (c.as_slice.ensures ∙ (λ i. (c.town-town.ensures i).streets))) ∙ c.in_default.is)
