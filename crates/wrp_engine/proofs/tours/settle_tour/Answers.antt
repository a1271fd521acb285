use Rattle.wrp_engine.specs.Searches.{search_of}
use Rattle.wrp_engine.proofs.Adding.{tour_then_same}
use Rattle.wrp_engine.proofs.Advancing.{leaves_then}
use Rattle.wrp_engine.proofs.tours.settle_tour.Goals as goal

pub returns-clause-leaves : goal.returns-clause-leaves
returns-clause-leaves g c =
    leaves_then (search_of c.args.keep.now (g.D.Disk.meaning c.args.disk.now))
    (search_of c.offer_tour.new.keep (g.D.Disk.meaning c.offer_tour.new.disk))
    (search_of c.settle.new.keep (g.D.Disk.meaning c.settle.new.disk))
    c.settle.result c.in_ok-offer_tour.ensures.leaves.0 c.settle.ensures.leaves

pub returns-clause-adds : goal.returns-clause-adds
returns-clause-adds g c = tour_then_same c.args.keep.now c.offer_tour.new.keep c.settle.new.keep c.settle.ensures.same c.in_ok-offer_tour.ensures.adds
