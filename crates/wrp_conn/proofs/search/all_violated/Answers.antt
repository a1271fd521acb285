use Rattle.std.proofs.Common.{◌≡◌, [], map, ap, sym, ◌∙◌, subst}
use Rattle.wrp_town.specs.declared.town.Town.{Town}
use Rattle.wrp_conn.specs.Conns.{IsConnected, AreBrokenConns}
use Rattle.wrp_conn.specs.Founds.{item_of, AreFound}
use Rattle.wrp_conn.proofs.Cuts.{broken_items, none_when_met, no_cuts}
use Rattle.wrp_conn.proofs.search.all_violated.Goals as goal

pub returns-clause-none : goal.returns-clause-none
returns-clause-none c =
    let cuts = c.in_ok-found.found.items in
    let found = subst (λ (town : Town). AreFound town c.args.point.now cuts) c.town.ensures c.in_ok-found.ensures.found in
    let none = subst (λ (town : Town). cuts ≡ [] → IsConnected town c.args.point.now) c.town.ensures c.in_ok-found.ensures.none in
    ((λ empty. none (no_cuts cuts (sym c.in_ok-items.ensures ∙ empty))), (λ met. c.in_ok-items.ensures ∙ ap (map item_of) (none_when_met c.args.rows.now.town c.args.point.now cuts found met)))

pub returns-clause-broken : goal.returns-clause-broken
returns-clause-broken c =
    let found = subst (λ (town : Town). AreFound town c.args.point.now c.in_ok-found.found.items) c.town.ensures c.in_ok-found.ensures.found in
    subst (AreBrokenConns c.args.rows.now.town c.args.point.now) (sym c.in_ok-items.ensures) (broken_items c.args.rows.now.town c.args.point.now c.in_ok-found.found.items found)
