use Rattle.std.proofs.Common.{◌≡◌, ℕ, true, not, ◌==◌, ◌%◌, Ok, ap, refl, sym, subst, ◌∙◌}
use Rattle.std.proofs.lemmas.Bool.{ne_eqb}
use Rattle.wrp_town.specs.declared.town.Town.{Town}
use Rattle.wrp_rules.specs.declared.rule.Rule.TheVariants as rules
use Rattle.wrp_rules.specs.Rows.{odd_row}
use Rattle.wrp_rules.specs.Rules.{all_below, junctions_are_there}
use Rattle.wrp_rules.specs.Sets.{crossing_demands}
use Rattle.wrp_pool.specs.Members.{Members}
use Rattle.wrp_pool.specs.Cuts.{Gains}
use Rattle.wrp_check.proofs.KindRules.{three_kept}
use Rattle.wrp_check.proofs.CutTaken.{room_for_one, cut_taken}
use Rattle.wrp_check.proofs.cuts.take_odd.Goals as goal

pub push_odd-requires-clause-crossing : goal.push_odd-requires-clause-crossing
push_odd-requires-clause-crossing c =
    c.crossing_demands-crossing.ensures ∙ ap (λ (t : Town). crossing_demands t c.gather_set.new.set.set) c.town.ensures

pub returns-clause-tries : goal.returns-clause-tries
returns-clause-tries c = λ s is alone.
    let town = c.args.graph.now in
    let junctions = c.args.junctions.now in
    let among = ap (λ (m : Members). m.among) c.requires.idle.set in
    let there : junctions_are_there town junctions ≡ true = ap (λ (n : ℕ). all_below n junctions) (sym among) ∙ sym c.in_ok-gather_set.ensures.there ∙ c.if-not-branch.false in
    let set : c.gather_set.new.set.set ≡ junctions = ap (λ (m : Members). m.set) (c.in_ok-gather_set.ensures.set (ap Ok c.if-not-branch.false)) in
    let crossing : c.crossing_demands-crossing.result ≡ crossing_demands town junctions =
    c.crossing_demands-crossing.ensures ∙ ap (λ (t : Town). crossing_demands t c.gather_set.new.set.set) c.town.ensures ∙ ap (crossing_demands town) set in
    let odd : not (crossing_demands town junctions % 2 == 0) ≡ true =
    ap (λ (n : ℕ). not (n % 2 == 0)) (sym crossing) ∙ ap not (ne_eqb _ 0 c.if-crossing-eq0.false) in (
      three_kept rules.Range rules.Cuts rules.Even _ _ _ there (room_for_one town s c.args.kept.now is c.if-kept-ge-CUT_LIMIT.false) odd,
      λ e. cut_taken town s _ (odd_row town junctions) c.args.kept.now _ is alone refl refl refl refl refl
          (subst (λ xs. Gains town (odd_row town xs) c.args.kept.now.pool c.push_odd.new.self) set c.in_ok-push_odd.ensures) refl refl refl c.plain-kept.ensures,
    )
