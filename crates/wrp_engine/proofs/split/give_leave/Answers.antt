use Rattle.wrp_log.proofs.Adding.{on_ok_map}
use Rattle.wrp_engine.specs.Searches.{search_of}
use Rattle.wrp_engine.proofs.Advancing.{leaves_then}
use Rattle.wrp_engine.proofs.Splitting.{IsSameList, blind_writable, blind_valid}
use Rattle.wrp_engine.proofs.Leaving.{may_write, blind_cause, leads_joined, leave_refused, refused_same, leave_adds, blind_adds, leads_blindly}
use Rattle.wrp_engine.proofs.split.give_leave.Goals as goal

pub tell-requires-clause-writable : goal.tell-requires-clause-writable
tell-requires-clause-writable g c = may_write c.args.keep.now c.args.node c.args.branch c.args.leave c.requires.leave

pub returns-in_err-tell-clause-adds : goal.returns-in_err-tell-clause-adds
returns-in_err-tell-clause-adds g c =
    leave_adds c.args.node c.args.keep.now c.tell.new.keep c.args.branch c.args.leave c.requires.leave c.in_err-tell.ensures.at_most

pub returns-then-branch-clause-adds : goal.returns-then-branch-clause-adds
returns-then-branch-clause-adds g c =
    leave_adds c.args.node c.args.keep.now c.tell.new.keep c.args.branch c.args.leave c.requires.leave c.in_ok-tell.ensures.at_most

pub returns-then-branch-clause-leads : goal.returns-then-branch-clause-leads
returns-then-branch-clause-leads g c =
    leads_joined c.args.node c.args.keep.now c.tell.new.keep c.args.leave (rw c.if-branch.true at c.in_ok-tell.ensures.offers)

pub add-requires-clause-writable : goal.add-requires-clause-writable
add-requires-clause-writable g c = blind_writable c.args.node c.requires.small

pub add-requires-clause-valid : goal.add-requires-clause-valid
add-requires-clause-valid g c =
    let offers = rw c.if-branch.false at c.in_ok-tell.ensures.offers in
    let list : IsSameList c.args.keep.now c.tell.new.keep = record {
      town = c.in_ok-tell.ensures.leaves.0.town;
      records = refused_same c.args.node c.args.keep.now c.tell.new.keep c.args.leave offers;
    } in
    blind_valid c.args.keep.now c.tell.new.keep c.args.node list c.requires.tour c.requires.going.valid c.requires.small c.requires.opened

pub returns-clause-leaves : goal.returns-clause-leaves
returns-clause-leaves g c =
    leaves_then (search_of c.args.keep.now (g.D.Disk.meaning c.args.disk.now)) (search_of c.tell.new.keep (g.D.Disk.meaning c.tell.new.disk))
    (search_of c.add.new.keep (g.D.Disk.meaning c.add.new.disk)) c.add.result c.in_ok-tell.ensures.leaves.0 c.add.ensures.leaves

pub returns-clause-adds : goal.returns-clause-adds
returns-clause-adds g c =
    let offers = rw c.if-branch.false at c.in_ok-tell.ensures.offers in
    let old = c.args.keep.now in
    let mid = c.tell.new.keep in
    blind_adds c.args.node old mid c.add.new.keep
    (record { town = c.in_ok-tell.ensures.leaves.0.town; records = refused_same c.args.node old mid c.args.leave offers })
    (blind_cause old c.args.node c.args.branch c.args.leave c.requires.leave (leave_refused c.args.node old mid c.args.leave offers))
    c.add.ensures.at_most

pub returns-clause-leads : goal.returns-clause-leads
returns-clause-leads g c =
    let offers = rw c.if-branch.false at c.in_ok-tell.ensures.offers in
    let old = c.args.keep.now in
    let mid = c.tell.new.keep in
    on_ok_map c.add.result
    (λ joins. leads_blindly c.args.node old mid c.add.new.keep
    (record { town = c.in_ok-tell.ensures.leaves.0.town; records = refused_same c.args.node old mid c.args.leave offers })
    c.args.leave (leave_refused c.args.node old mid c.args.leave offers) joins)
    c.add.ensures.joins
