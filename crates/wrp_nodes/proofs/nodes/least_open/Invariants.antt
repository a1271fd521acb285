use Rattle.std.proofs.Common.{◌≡◌, List}
use Rattle.std.specs.List.{AllZip}
use Rattle.wrp_rules.specs.Nodes.{Node}
use Rattle.wrp_nodes.specs.Kept.{Keeps}
use Rattle.wrp_nodes.proofs.Least.{least_of, least_from}
use Rattle.wrp_nodes.proofs.nodes.least_open.Given as goal

-- the least so far, and of those that come, is the least of all
abbrev pub invariant-loop-kept : goal.invariant-loop-kept
invariant-loop-kept l =
    (stand : List Node) → AllZip Keeps l.nodes stand → least_of l.least (least_from l.upper stand l.kept-index) ≡ least_from l.upper stand 0
