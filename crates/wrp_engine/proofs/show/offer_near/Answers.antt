use Rattle.wrp_engine.specs.Searches.{search_of}
use Rattle.wrp_engine.proofs.Showing.{offered_near}
use Rattle.wrp_engine.proofs.show.offer_near.Goals as goal

pub returns-clause-near : goal.returns-clause-near
returns-clause-near g c =
    let m = g.D.Disk.meaning in
    offered_near (search_of c.args.keep.now (m c.args.disk.now)) (search_of c.offer_tour.new.keep (m c.offer_tour.new.disk)) c.args.point.now c.in_ok-steps.steps c.args.desk.now.graph.now
    c.offer_tour.result c.requires.desk.graph c.in_ok-steps.ensures.near c.offer_tour.ensures.leaves c.offer_tour.ensures.upper
