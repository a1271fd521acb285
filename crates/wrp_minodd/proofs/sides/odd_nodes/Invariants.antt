use Rattle.std.proofs.Common.{◌≡◌, ◌%◌, ◌==◌, filter}
use Rattle.std.specs.List.{range_with_len}
use Rattle.wrp_webs.specs.Webs.{degrees, class}
use Rattle.wrp_webs.specs.Searching.{reading}
use Rattle.wrp_minodd.specs.Looks.{web_of}
use Rattle.wrp_minodd.proofs.sides.odd_nodes.Given as goal

-- the odd nodes so far
abbrev pub invariant-loop-node : goal.invariant-loop-node
invariant-loop-node l = l.nodes.items ≡ filter (λ k. degrees (web_of l.town l.point) (class (reading l.map) k) % 2 == 1) (range_with_len 0 l.node)
