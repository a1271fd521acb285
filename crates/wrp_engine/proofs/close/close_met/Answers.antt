use Rattle.std.proofs.Common.{◌≡◌, ◌∙◌, ◌++◌, ◌∷◌, [], Option, Some, sym, subst, ap, arith}
use Rattle.std.specs.Prelude.{IfSome, ⊤}
use Rattle.wrp_town.specs.declared.town.Town.{Town}
use Rattle.wrp_rules.specs.declared.record.Record.{Record}
use Rattle.wrp_rules.specs.declared.record.Record.TheVariants.{Apart}
use Rattle.wrp_webs.specs.TownWebs.{IsBalanced}
use Rattle.wrp_writer.specs.Limits.{is_writable}
use Rattle.wrp_rows.specs.declared.point.Point.{Point}
use Rattle.wrp_odd.specs.Points.{numbers_of}
use Rattle.wrp_tour.specs.Tours.{IsLeanTour}
use Rattle.wrp_progress.specs.Progress.{IsDoneIn}
use Rattle.wrp_conn.specs.Conns.{IsConnected, IsBrokenConn}
use Rattle.wrp_point_tour.specs.PointTours.{IsTourPoint, CostsAtMost}
use Rattle.wrp_keep.specs.Keeps.{broken_by}
use Rattle.wrp_engine.specs.Searches.{search_of}
use Rattle.wrp_engine.specs.Offers.{AddsAtMost}
use Rattle.wrp_engine.specs.Closing.{apart_of}
use Rattle.wrp_engine.proofs.Adding.{adds_free, where_weaker}
use Rattle.wrp_engine.proofs.Separating.{apart_written, apart_next, apart_done}
use Rattle.wrp_engine.proofs.Ending.{no_labels, joined_done, only_serves, tour_point, tour_ends}
use Rattle.wrp_engine.proofs.close.close_met.Goals as goal

-- the cut that was found, at the town of the keep
found_cut : (town pooled : Town) (point : Point) (cut : Record) (found : Option Record) → pooled ≡ town → found ≡ Some cut → IfSome found (IsBrokenConn pooled point) → IsBrokenConn town point cut
found_cut town pooled point cut found same is some =
    subst (λ (t : Town). IsBrokenConn t point cut) same (subst (λ (o : Option Record). IfSome o (IsBrokenConn pooled point)) is some)

pub violated-requires-clause-balanced : goal.violated-requires-clause-balanced
violated-requires-clause-balanced g c =
    let point = c.args.point.now in
    subst (λ (t : Town). IsBalanced t (numbers_of point)) (sym (c.rows.ensures.town ∙ c.tree.ensures.town))
    (only_serves c.args.keep.now c.args.node point c.requires.point).balanced

pub add-requires-clause-writable : goal.add-requires-clause-writable
add-requires-clause-writable g c =
    let point = c.args.point.now in
    let cut = c.in-Some.cut in
    let broken = found_cut c.args.keep.now.town c.rows.result.now.town point cut c.in_ok-cut.field-0 (c.rows.ensures.town ∙ c.tree.ensures.town) c.in-Some.is c.in_ok-cut.ensures.some in
    ap is_writable c.apart_of.ensures ∙ apart_written c.args.keep.now c.args.node point c.requires.point cut broken c.requires.small

pub add-requires-clause-valid : goal.add-requires-clause-valid
add-requires-clause-valid g c =
    let point = c.args.point.now in
    let cut = c.in-Some.cut in
    let broken = found_cut c.args.keep.now.town c.rows.result.now.town point cut c.in_ok-cut.field-0 (c.rows.ensures.town ∙ c.tree.ensures.town) c.in-Some.is c.in_ok-cut.ensures.some in
    ap (λ (r : Record). broken_by r c.args.keep.now) c.apart_of.ensures
    ∙ apart_next c.args.keep.now c.args.node point c.requires.point cut broken c.requires.small
    (no_labels c.args.keep.now.town c.args.keep.now.records c.requires.tour c.requires.going.valid) c.requires.opened

pub close_by_tour-requires-clause-ends : goal.close_by_tour-requires-clause-ends
close_by_tour-requires-clause-ends g c =
    let point = c.args.point.now in
    let steps = c.in_ok-steps-in-None.steps in
    let graph = c.requires.desk.graph in
    let connected = subst (λ (t : Town). IsConnected t point) (c.rows.ensures.town ∙ c.tree.ensures.town) (c.in_ok-cut.ensures.none.0 c.in-None.is) in
    let whole = subst (λ (t : Town). IsTourPoint t point) (sym graph) (tour_point c.args.keep.now c.args.node point c.requires.point connected) in
    tour_ends c.args.keep.now c.args.node point c.requires.point steps
    (subst (λ (t : Town). IsLeanTour t steps) graph c.in_ok-steps-in-None.ensures.lean)
    (subst (λ (t : Town). CostsAtMost t point steps) graph (c.in_ok-steps-in-None.ensures.whole whole))

pub returns-in-Some-clause-done : goal.returns-in-Some-clause-done
returns-in-Some-clause-done g c =
    let point = c.args.point.now in
    let keep = c.args.keep.now in
    let cut = c.in-Some.cut in
    let broken = found_cut c.args.keep.now.town c.rows.result.now.town point cut c.in_ok-cut.field-0 (c.rows.ensures.town ∙ c.tree.ensures.town) c.in-Some.is c.in_ok-cut.ensures.some in
    joined_done (search_of keep (g.D.Disk.meaning c.args.disk.now)) (search_of c.add.new.keep (g.D.Disk.meaning c.add.new.disk)) c.apart_of.result c.args.node c.add.result
    c.add.ensures.leaves c.add.ensures.joins
    (subst (λ (r : Record). IsDoneIn keep.town (keep.records ++ r ∷ []) c.args.node) (sym c.apart_of.ensures)
    (apart_done keep c.args.node point c.requires.point cut broken c.requires.opened))

pub returns-in-Some-clause-adds : goal.returns-in-Some-clause-adds
returns-in-Some-clause-adds g c =
    let keep = c.args.keep.now in
    let cut = c.in-Some.cut in
    let broken = found_cut keep.town c.rows.result.now.town c.args.point.now cut c.in_ok-cut.field-0 (c.rows.ensures.town ∙ c.tree.ensures.town) c.in-Some.is c.in_ok-cut.ensures.some in
    let is : c.apart_of.result ≡ Apart c.args.node broken.r1 broken.r2 broken.set = c.apart_of.ensures ∙ ap (λ (r : Record). apart_of c.args.node r) broken.is in
    where_weaker (λ _. ⊤) 1 2 0 1 keep c.add.new.keep (omega arith) (omega arith)
    (adds_free 0 keep c.add.new.keep (Apart c.args.node broken.r1 broken.r2 broken.set) (omega arith) (λ entry added. record {})
    (subst (λ (r : Record). AddsAtMost r keep c.add.new.keep) is c.add.ensures.at_most))
