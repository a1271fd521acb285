use Rattle.std.specs.List.{All}
use Rattle.wrp_kc.specs.Candidates.{IsBrokenKc, HasCandidates}
use Rattle.wrp_kc.proofs.candidates.candidates_of.Given as goal

-- the candidates so far
abbrev pub invariant-loop-u : goal.invariant-loop-u
invariant-loop-u l = record {
  broken : All (IsBrokenKc l.town l.point) l.found.items;
  all : HasCandidates l.town l.point l.parts.count l.parts.of l.u l.found.items;
}
