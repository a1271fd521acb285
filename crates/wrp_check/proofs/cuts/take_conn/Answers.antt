use Rattle.std.proofs.Common.{◌≡◌, ℕ, true, List, [], ◌∷◌, Ok, ap, refl, sym, subst, ◌∙◌}
use Rattle.std.proofs.lemmas.Bool.{and_from}
use Rattle.wrp_town.specs.declared.town.Town.{Town}
use Rattle.wrp_rules.specs.declared.rule.Rule.TheVariants as rules
use Rattle.wrp_rules.specs.Rows.{conn_row}
use Rattle.wrp_rules.specs.Rules.{all_below, streets_are_there, junctions_are_there}
use Rattle.wrp_rules.specs.Sets.{is_parted}
use Rattle.wrp_pool.specs.Members.{Members}
use Rattle.wrp_pool.specs.Cuts.{Gains}
use Rattle.wrp_check.proofs.KindRules.{three_kept}
use Rattle.wrp_check.proofs.CutTaken.{room_for_one, cut_taken}
use Rattle.wrp_check.proofs.cuts.take_conn.Goals as goal

pub returns-clause-tries : goal.returns-clause-tries
returns-clause-tries c = λ s is alone.
    let town = c.args.graph.now in
    let junctions = c.args.junctions.now in
    let among = ap (λ (m : Members). m.among) c.requires.idle.set in
    let there : junctions_are_there town junctions ≡ true = ap (λ (n : ℕ). all_below n junctions) (sym among) ∙ sym c.in_ok-gather_set.ensures.there ∙ c.if-not-branch.false in
    let set : c.gather_set.new.set.set ≡ junctions = ap (λ (m : Members). m.set) (c.in_ok-gather_set.ensures.set (ap Ok c.if-not-branch.false)) in
    let parted : is_parted town c.args.inside c.args.outside junctions ≡ true =
    ap (λ (xs : List ℕ). is_parted town c.args.inside c.args.outside xs) (sym set) ∙ ap (λ (t : Town). is_parted t c.args.inside c.args.outside c.gather_set.new.set.set) (sym c.town-town.ensures) ∙ sym c.is_parted.ensures ∙ c.if-not-is_parted.false in
    let streets : streets_are_there town (c.args.inside ∷ c.args.outside ∷ []) ≡ true =
    ap (λ (t : Town). streets_are_there t (c.args.inside ∷ c.args.outside ∷ [])) (sym c.town-town.ensures) ∙ sym c.are_streets.ensures ∙ c.if-not-are_streets.false in (
      three_kept rules.Range rules.Cuts rules.Cross _ _ _ (and_from _ _ streets there) (room_for_one town s c.args.kept.now is c.if-kept-ge-CUT_LIMIT.false) parted,
      λ e. cut_taken town s _ (conn_row town junctions) c.args.kept.now _ is alone refl refl refl refl refl
          (subst (λ xs. Gains town (conn_row town xs) c.args.kept.now.pool c.push_conn.new.self) set c.in_ok-push_conn.ensures) refl refl refl c.plain-kept.ensures,
    )
