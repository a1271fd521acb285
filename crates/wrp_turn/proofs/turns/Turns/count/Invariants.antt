use Rattle.wrp_turn.proofs.BanRows.{IsCounted}
use Rattle.wrp_turn.proofs.turns.Turns.count.Given as goal

-- the turns from the arcs so far are counted
abbrev pub invariant-loop-first : goal.invariant-loop-first
invariant-loop-first l = IsCounted l.self.graph.now l.self.bans.now l.first l.count
