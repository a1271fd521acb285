use Rattle.wrp_rules.specs.Nodes.{Standing}
use Rattle.wrp_rows.specs.Pools.{HasRowsOf}
use Rattle.wrp_tableau.specs.Kept.{system}
use Rattle.wrp_round.specs.Gathering.{IsGathered}
use Rattle.wrp_round.proofs.candidates.gather.Given as goal

-- the candidates of the rows so far
abbrev pub invariant-loop-r : goal.invariant-loop-r
invariant-loop-r l = (s : Standing) → HasRowsOf s l.rows → IsGathered l.rows.town s l.point (system l.table) l.chosen l.r l.found.items
