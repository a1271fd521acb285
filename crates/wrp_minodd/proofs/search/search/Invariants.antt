use Rattle.std.proofs.Common.{map}
use Rattle.wrp_webs.specs.Searching.{reading, IsSearch, work}
use Rattle.wrp_odd.specs.Points.{denominator_of}
use Rattle.wrp_minodd.specs.Looks.{web_of}
use Rattle.wrp_minodd.proofs.search.search.Given as goal

-- each light odd set tells of one in a web that awaits the search
abbrev pub invariant-loop-map : goal.invariant-loop-map
invariant-loop-map l = IsSearch (web_of l.town l.point) (denominator_of l.point) l.pending.items

abbrev pub decreases-loop-map : goal.decreases-loop-map
decreases-loop-map l = work (web_of l.town l.point) (map reading l.pending.items)
