use Rattle.wrp_webs.specs.Searching.{reading}
use Rattle.wrp_minodd.specs.Looks.{web_of}
use Rattle.wrp_minodd.specs.Growing.{IsGrowing}
use Rattle.wrp_minodd.proofs.web_net.net_of.Given as goal

-- the streets so far are in
abbrev pub invariant-loop-street : goal.invariant-loop-street
invariant-loop-street l = IsGrowing (web_of l.town l.point) (reading l.map) l.street l.arcs
