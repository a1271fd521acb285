use Rattle.wrp_odd.specs.Points.{numbers_of}
use Rattle.wrp_kc.specs.Chains.{IsChain}
use Rattle.wrp_kc.proofs.chain.chain_of.Given as goal

-- what the streets so far have
abbrev pub invariant-loop-street : goal.invariant-loop-street
invariant-loop-street l = IsChain l.town (numbers_of l.point) l.k l.of l.street l.chain
