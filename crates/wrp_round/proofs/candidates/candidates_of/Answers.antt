use Rattle.std.proofs.Common.{◌≡◌}
use Rattle.std.specs.List.{All}
use Rattle.wrp_tableau.specs.Kept.{system}
use Rattle.wrp_lp.proofs.Endings.{if_ok}
use Rattle.wrp_round.specs.Broken.{IsBrokenRounding, AreFound}
use Rattle.wrp_round.specs.Gathering.{records_of}
use Rattle.wrp_round.proofs.Gathered.{sorted_broken, sorted_named}
use Rattle.wrp_round.proofs.candidates.candidates_of.Goals as goal

pub returns-clause-broken : goal.returns-clause-broken
returns-clause-broken c = λ s has.
    let town = c.args.rows.now.town in
    let sorted = c.sort_unstable_by_key.new.self.items in
    if_ok (λ v. v.items ≡ records_of sorted) (λ v. All (IsBrokenRounding town s c.args.point.now) v.items) c.records_of.result
    (λ v are. sorted_broken town s c.args.point.now c.args.table.now c.args.chosen.now c.in_ok-found.found.items sorted v.items c.sort_unstable_by_key.ensures.permutation are (c.in_ok-found.ensures s has))
    c.records_of.ensures

pub returns-clause-named : goal.returns-clause-named
returns-clause-named c = λ s has.
    let town = c.args.rows.now.town in
    let sorted = c.sort_unstable_by_key.new.self.items in
    if_ok (λ v. v.items ≡ records_of sorted) (λ v. AreFound town s c.args.point.now (system c.args.table.now) c.args.chosen.now v.items) c.records_of.result
    (λ v are. sorted_named town s c.args.point.now c.args.table.now c.args.chosen.now c.in_ok-found.found.items sorted v.items c.sort_unstable_by_key.ensures.permutation are (c.in_ok-found.ensures s has))
    c.records_of.ensures
