use Rattle.std.proofs.Common.{◌≡◌, ℕ, ◌^◌, true, false, not, ◌&&◌, nat_lt, FitsSigned, [], ◌∷◌, Ok, ap, refl, sym, subst, ◌∙◌, arith}
use Rattle.std.specs.Int.{w128}
use Rattle.std.specs.List.{list_all}
use Rattle.std.proofs.lemmas.Int.{to_z-of_z}
use Rattle.std.proofs.lemmas.Bool.{and_parts}
use Rattle.wrp_sums.proofs.Integers.{casts}
use Rattle.wrp_rules.specs.declared.rule.Rule.TheVariants as rules
use Rattle.wrp_rules.specs.Ranges.{are_multipliers, is_from_one}
use Rattle.wrp_rules.specs.Rows.{round_row, is_wide}
use Rattle.wrp_rules.specs.Rules.{rows_are_there, has_room}
use Rattle.wrp_pool.specs.Pools.{has_rows}
use Rattle.wrp_pool.specs.Tallies.{IsCombined, IsCombinedSide}
use Rattle.wrp_pool.proofs.Weights.{small_rows, has_rows_held}
use Rattle.wrp_check.proofs.KindRules.{three_kept, first_fails, second_fails, third_fails}
use Rattle.wrp_check.proofs.CutTaken.{room_for_one, no_room, cut_taken}
use Rattle.wrp_check.proofs.RoundRows.{wider, same_width, same_gain}
use Rattle.wrp_check.proofs.cuts.take_round.Goals as goal

pub returns-then-not-branch-clause-tries : goal.returns-then-not-branch-clause-tries
returns-then-not-branch-clause-tries c = λ s is alone.
    let mult = c.args.multipliers.now in
    let there : rows_are_there s mult ≡ false =
    sym (has_rows_held c.args.town.now c.args.kept.now.pool s.rows mult is.pool) ∙ ap (λ (n : ℕ). list_all (λ (q : ℕ × ℕ). nat_lt q.0 n) mult) (sym c.len.ensures) ∙ sym c.in_ok-gather_pairs.ensures.below ∙ c.if-not-branch.true in
    (first_fails rules.Range _ ((rules.Cuts, has_room s) ∷ (rules.Wide, not (is_wide c.args.town.now (round_row s.rows c.args.divisor mult))) ∷ []) there, λ e. cc)

pub returns-then-kept-ge-CUT_LIMIT-clause-tries : goal.returns-then-kept-ge-CUT_LIMIT-clause-tries
returns-then-kept-ge-CUT_LIMIT-clause-tries c = λ s is alone.
    let mult = c.args.multipliers.now in
    let there : rows_are_there s mult ≡ true =
    sym (has_rows_held c.args.town.now c.args.kept.now.pool s.rows mult is.pool) ∙ ap (λ (n : ℕ). list_all (λ (q : ℕ × ℕ). nat_lt q.0 n) mult) (sym c.len.ensures) ∙ sym c.in_ok-gather_pairs.ensures.below ∙ c.if-not-branch.false in
    (second_fails rules.Range rules.Cuts _ _ ((rules.Wide, not (is_wide c.args.town.now (round_row s.rows c.args.divisor mult))) ∷ []) there (no_room c.args.town.now s c.args.kept.now is c.if-kept-ge-CUT_LIMIT.true), λ e. cc)

pub combine-requires-clause-small : goal.combine-requires-clause-small
combine-requires-clause-small c = small_rows c.args.town.now c.args.kept.now.pool c.requires.sound.0.rows c.requires.sound.1.pool

pub combine-requires-clause-multipliers : goal.combine-requires-clause-multipliers
combine-requires-clause-multipliers c =
    let items = c.as_slice.ensures.value ∙ c.in_ok-gather_pairs.ensures.items (ap Ok c.if-not-branch.false) in
    let numbers = and_parts (is_from_one (2 ^ 20) c.args.divisor && true) (are_multipliers (2 ^ 40) c.args.multipliers.now) c.requires.numbers in
    subst (λ mult. are_multipliers (2 ^ 60) mult ≡ true) (sym items) (wider (2 ^ 40) (2 ^ 60) c.args.multipliers.now (omega arith) numbers.1)

pub returns-then-not-branch-2-clause-tries : goal.returns-then-not-branch-2-clause-tries
returns-then-not-branch-2-clause-tries c = λ s is alone.
    let town = c.args.town.now in
    let pool = c.args.kept.now.pool in
    let mult = c.args.multipliers.now in
    let items = c.as_slice.ensures.value ∙ c.in_ok-gather_pairs.ensures.items (ap Ok c.if-not-branch.false) in
    let has : has_rows pool mult ≡ true = ap (λ (n : ℕ). list_all (λ (q : ℕ × ℕ). nat_lt q.0 n) mult) (sym c.len.ensures) ∙ sym c.in_ok-gather_pairs.ensures.below ∙ c.if-not-branch.false in
    let there : rows_are_there s mult ≡ true = sym (has_rows_held town pool s.rows mult is.pool) ∙ has in
    let combined = subst (λ m. IsCombined town pool m c.combine.new.tally) items c.in_ok-side.ensures.tally in
    let side = subst (λ m. IsCombinedSide pool m c.in_ok-side.side) items c.in_ok-side.ensures.side in
    let fits : FitsSigned w128 c.in_ok-side.side = omega (arith, casts, c.in_ok-side.ensures.side.size) in
    let rounds = rw (to_z-of_z w128 c.in_ok-side.side fits) at c.in_ok-push_round.ensures in
    let wide : not (is_wide town (round_row s.rows c.args.divisor mult)) ≡ false =
    ap not (sym (same_width town pool s.rows c.args.divisor mult c.combine.new.tally c.in_ok-side.side is.pool has combined side)) ∙ sym rounds.width ∙ c.if-not-branch-2.true in
    (third_fails rules.Range rules.Cuts rules.Wide _ _ _ [] there (room_for_one town s c.args.kept.now is c.if-kept-ge-CUT_LIMIT.false) wide, λ e. cc)

pub returns-clause-tries : goal.returns-clause-tries
returns-clause-tries c = λ s is alone.
    let town = c.args.town.now in
    let pool = c.args.kept.now.pool in
    let mult = c.args.multipliers.now in
    let items = c.as_slice.ensures.value ∙ c.in_ok-gather_pairs.ensures.items (ap Ok c.if-not-branch.false) in
    let has : has_rows pool mult ≡ true = ap (λ (n : ℕ). list_all (λ (q : ℕ × ℕ). nat_lt q.0 n) mult) (sym c.len.ensures) ∙ sym c.in_ok-gather_pairs.ensures.below ∙ c.if-not-branch.false in
    let there : rows_are_there s mult ≡ true = sym (has_rows_held town pool s.rows mult is.pool) ∙ has in
    let combined = subst (λ m. IsCombined town pool m c.combine.new.tally) items c.in_ok-side.ensures.tally in
    let side = subst (λ m. IsCombinedSide pool m c.in_ok-side.side) items c.in_ok-side.ensures.side in
    let fits : FitsSigned w128 c.in_ok-side.side = omega (arith, casts, c.in_ok-side.ensures.side.size) in
    let rounds = rw (to_z-of_z w128 c.in_ok-side.side fits) at c.in_ok-push_round.ensures in
    let narrow : not (is_wide town (round_row s.rows c.args.divisor mult)) ≡ true =
    ap not (sym (same_width town pool s.rows c.args.divisor mult c.combine.new.tally c.in_ok-side.side is.pool has combined side)) ∙ sym rounds.width ∙ c.if-not-branch-2.false in (
      three_kept rules.Range rules.Cuts rules.Wide _ _ _ there (room_for_one town s c.args.kept.now is c.if-kept-ge-CUT_LIMIT.false) narrow,
      λ e. cut_taken town s _ (round_row s.rows c.args.divisor mult) c.args.kept.now _ is alone refl refl refl refl refl
          (same_gain town pool s.rows c.args.divisor mult c.combine.new.tally c.in_ok-side.side is.pool has combined side c.push_round.new.self (rounds.gains c.if-not-branch-2.false)) refl refl refl c.plain-kept.ensures,
    )
