use Rattle.std.proofs.Common.{◌≡◌, sym, subst, arith}
use Rattle.std.specs.Prelude.{true}
use Rattle.wrp_town.specs.declared.town.Town.{Town}
use Rattle.wrp_town.specs.Arcs.{is_legal}
use Rattle.wrp_rules.specs.Nodes.{Node}
use Rattle.wrp_rules.specs.Rules.{parts_range}
use Rattle.wrp_tour.specs.Tours.{HasTour}
use Rattle.wrp_log.proofs.Adding.{on_ok_map}
use Rattle.wrp_engine.specs.Searches.{search_of}
use Rattle.wrp_engine.specs.Splits.{IsRoundedLeave}
use Rattle.wrp_engine.proofs.Advancing.{leaves_then, advanced}
use Rattle.wrp_engine.proofs.Adding.{adds_where, where_weaker}
use Rattle.wrp_engine.proofs.Leaving.{leads_to, keeps_node, split_adds}
use Rattle.wrp_engine.proofs.Splitting.{parting_writable, split_valid, splits_up}
use Rattle.wrp_engine.proofs.split.split.Goals as goal

pub add-requires-clause-writable : goal.add-requires-clause-writable
add-requires-clause-writable g c =
    parting_writable c.args.keep.now c.args.node c.args.branch.arc c.args.branch.k c.requires.going.valid c.requires.small c.requires.legal c.requires.parts

pub add-requires-clause-valid : goal.add-requires-clause-valid
add-requires-clause-valid g c =
    let told = c.in_ok-give_leave.ensures in
    let town = told.leaves.0.town in
    let old = c.args.keep.now in
    let mid = c.give_leave.new.keep in
    let kept = keeps_node old mid c.args.node c.args.branch c.args.leave town c.requires.opened c.requires.leave told.leads in
    split_valid mid c.args.node c.args.branch.arc c.args.branch.k (subst HasTour (sym town) c.requires.tour) told.leaves.1.valid c.requires.small kept.opened
    (leads_to old mid c.args.node c.args.branch c.args.leave c.requires.leave told.leads)
    (subst (λ (t : Town). is_legal t c.args.branch.arc ≡ true) (sym town) c.requires.legal)
    (subst (λ (n : Node). parts_range n c.args.branch.arc c.args.branch.k ≡ true) (sym kept.same) c.requires.parts)

pub returns-clause-leaves : goal.returns-clause-leaves
returns-clause-leaves g c =
    leaves_then (search_of c.args.keep.now (g.D.Disk.meaning c.args.disk.now))
    (search_of c.give_leave.new.keep (g.D.Disk.meaning c.give_leave.new.disk))
    (search_of c.add.new.keep (g.D.Disk.meaning c.add.new.disk))
    c.add.result c.in_ok-give_leave.ensures.leaves.0 c.add.ensures.leaves

pub returns-in_err-give_leave-clause-adds : goal.returns-in_err-give_leave-clause-adds
returns-in_err-give_leave-clause-adds g c =
    let so = IsRoundedLeave c.args.keep.now c.args.node c.args.leave in
    where_weaker so 1 2 0 0 c.args.keep.now c.give_leave.new.keep (omega arith) (omega arith)
    (adds_where so 1 0 c.args.keep.now c.give_leave.new.keep c.in_err-give_leave.ensures.adds)

pub returns-clause-adds : goal.returns-clause-adds
returns-clause-adds g c =
    split_adds c.args.keep.now c.give_leave.new.keep c.args.node c.args.branch c.add.new.keep c.args.leave c.requires.leave
    c.in_ok-give_leave.ensures.adds c.in_ok-give_leave.ensures.leads c.add.ensures.at_most

pub returns-clause-done : goal.returns-clause-done
returns-clause-done g c =
    let mid = search_of c.give_leave.new.keep (g.D.Disk.meaning c.give_leave.new.disk) in
    let told = c.in_ok-give_leave.ensures in
    let goes = advanced mid (search_of c.add.new.keep (g.D.Disk.meaning c.add.new.disk)) c.add.result c.add.ensures.leaves in
    let kept = keeps_node c.args.keep.now c.give_leave.new.keep c.args.node c.args.branch c.args.leave told.leaves.0.town c.requires.opened c.requires.leave told.leads in
    on_ok_map c.add.result (λ joins. splits_up c.give_leave.new.keep c.add.new.keep c.args.node c.args.branch.arc c.args.branch.k goes.town joins kept.opened) c.add.ensures.joins
