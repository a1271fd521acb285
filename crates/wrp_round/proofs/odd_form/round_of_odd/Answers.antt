use Rattle.std.proofs.Common.{◌≡◌, true, length, ap, sym, ◌∙◌, subst}
use Rattle.wrp_town.specs.declared.town.Town.{Town}
use Rattle.wrp_rules.specs.declared.record.Record.{Record}
use Rattle.wrp_rules.specs.Rules.{all_below}
use Rattle.wrp_lp.proofs.Endings.{if_ok}
use Rattle.wrp_round.specs.OddForms.{odd_form, IsBrokenCut}
use Rattle.wrp_round.proofs.FormRules.{set_below, item_form_broken}
use Rattle.wrp_round.proofs.odd_form.round_of_odd.Goals as goal

pub form_of-requires : goal.form_of-requires
form_of-requires c =
    subst (λ (t : Town). all_below (length t.junctions) c.in-Odd.set ≡ true) (sym c.town.ensures)
    (set_below c.args.rows.now.town c.args.item c.in-Odd.set c.in-Odd.is c.requires)

pub returns-clause-broken : goal.returns-clause-broken
returns-clause-broken c = λ s point base is_point balanced b.
    let town = c.args.rows.now.town in
    let set = c.in-Odd.set in
    if_ok (λ (form : Record). form ≡ odd_form c.town.result.now set) (IsBrokenCut town s point) c.form_of.result
    (λ form made. item_form_broken town s point c.args.item form set c.in-Odd.is (made ∙ ap (λ (t : Town). odd_form t set) c.town.ensures) base is_point balanced b)
    c.form_of.ensures
