use Rattle.wrp_tour.proofs.Rounds.{IsServing}
use Rattle.wrp_tour.proofs.plain.Round.serve_all.Given as goal

-- the demands of the streets so far are served
abbrev pub invariant-loop-street : goal.invariant-loop-street
invariant-loop-street l = IsServing l.graph l.fn.self l.self l.street
