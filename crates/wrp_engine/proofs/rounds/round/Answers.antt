use Rattle.std.proofs.Common.{refl, sym, subst, Option}
use Rattle.wrp_rows.specs.declared.point.Point.{Point}
use Rattle.wrp_engine.specs.Searches.{search_of, now}
use Rattle.wrp_engine.specs.Sights.{IsShownOf}
use Rattle.wrp_engine.proofs.Adding.{cuts_none}
use Rattle.wrp_engine.proofs.Advancing.{leaves_then}
use Rattle.wrp_engine.proofs.Counting.{told_then_cuts, ends_round, sight_at, seen_at_first, seen_behind, within_seen}
use Rattle.wrp_engine.proofs.Standing.{desk_stays}
use Rattle.wrp_engine.proofs.rounds.round.Goals as goal

pub returns-in_err-sight-clause-adds : goal.returns-in_err-sight-clause-adds
returns-in_err-sight-clause-adds g c = cuts_none 2 1 c.args.keep.now c.args.keep.now refl

pub show-requires-clause-told : goal.show-requires-clause-told
show-requires-clause-told g c =
    let keep = c.args.keep.now in
    let sight = c.in_ok-sight.sight in
    let is = sight_at keep c.tree.result.now.town c.tree.result.now.records c.args.node c.args.number sight c.tree.ensures.town c.tree.ensures.records c.in_ok-sight.ensures in
    subst (λ (p : Option Point). IsShownOf keep.town (now keep) c.args.node p sight.shown) (sym c.as_ref.ensures.value) is.told

pub show-requires-clause-within : goal.show-requires-clause-within
show-requires-clause-within g c =
    let keep = c.args.keep.now in
    let sight = c.in_ok-sight.sight in
    let is = sight_at keep c.tree.result.now.town c.tree.result.now.records c.args.node c.args.number sight c.tree.ensures.town c.tree.ensures.records c.in_ok-sight.ensures in
    within_seen keep c.args.node c.args.number sight.point sight.cuts.items c.as_ref.result c.as_ref.ensures.value (seen_at_first keep c.args.node c.args.number sight is)

pub cut-requires-clause-there : goal.cut-requires-clause-there
cut-requires-clause-there g c =
    let m = g.D.Disk.meaning in
    (desk_stays (search_of c.args.keep.now (m c.args.disk.now)) (search_of c.show.new.keep (m c.show.new.disk)) c.args.node c.args.desk.now
    c.in_ok-show.ensures.leaves.0 c.requires.desk).there

pub cut-requires-clause-seen : goal.cut-requires-clause-seen
cut-requires-clause-seen g c =
    let keep = c.args.keep.now in
    let sight = c.in_ok-sight.sight in
    let is = sight_at keep c.tree.result.now.town c.tree.result.now.records c.args.node c.args.number sight c.tree.ensures.town c.tree.ensures.records c.in_ok-sight.ensures in
    seen_behind keep c.show.new.keep c.args.node c.args.number sight c.in_ok-show.ensures.leaves.0.town is c.in_ok-show.ensures.stays

pub returns-clause-leaves : goal.returns-clause-leaves
returns-clause-leaves g c =
    let m = g.D.Disk.meaning in
    leaves_then (search_of c.args.keep.now (m c.args.disk.now)) (search_of c.show.new.keep (m c.show.new.disk))
    (search_of c.cut.new.keep (m c.cut.new.disk)) c.cut.result c.in_ok-show.ensures.leaves.0 c.cut.ensures.leaves

pub returns-clause-adds : goal.returns-clause-adds
returns-clause-adds g c =
    told_then_cuts 0 c.args.keep.now c.show.new.keep c.cut.new.keep c.in_ok-show.ensures.leaves.0.town c.in_ok-show.ensures.adds c.cut.ensures.adds

pub returns-clause-ends : goal.returns-clause-ends
returns-clause-ends g c =
    ends_round c.args.keep.now c.show.new.keep c.cut.new.keep c.args.node c.args.number c.cut.result c.in_ok-show.ensures.leaves.0.town c.in_ok-show.ensures.adds c.cut.ensures.ends
