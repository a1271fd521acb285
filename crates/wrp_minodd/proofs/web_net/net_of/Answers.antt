use Rattle.std.proofs.Common.{ℕ, get_or, ap, arith}
use Rattle.wrp_webs.specs.Searching.{reading}
use Rattle.wrp_minodd.specs.Looks.{web_of}
use Rattle.wrp_minodd.proofs.Nets.{grown, grown_all}
use Rattle.wrp_minodd.proofs.web_net.net_of.Goals as goal

pub loop-street-preserved : goal.loop-street-preserved
loop-street-preserved c =
    let map = c.args.map.now in
    let from = get_or map c.tail.result 0 in
    let to = get_or map c.head.result 0 in
    grown (web_of c.args.town.now c.args.point.now) (reading map) c.loop-street.street from to c.weight.result c.loop-street.arcs c.add_street.new.arcs c.loop-street.invariant c.in_ok-add_street.ensures
    (ap (λ (k : ℕ). get_or map k 0) c.tail.ensures.value) (ap (λ (k : ℕ). get_or map k 0) c.head.ensures.value)
    (c.requires.map.merge.below c.tail.result c.tail.ensures.junction) (c.requires.map.merge.below c.head.result c.head.ensures.junction) c.weight.ensures.value c.weight.ensures.small

pub returns : goal.returns
returns c = grown_all (web_of c.args.town.now c.args.point.now) (reading c.args.map.now) c.len.result c.loop-street.street c.loop-street.arcs c.loop-street.invariant (omega arith) (omega (arith, c.args.town.now.well_formed.few_streets)) c.len.ensures
