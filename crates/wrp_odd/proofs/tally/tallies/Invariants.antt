use Rattle.wrp_odd.specs.Points.{numbers_of}
use Rattle.wrp_odd.specs.Crossing.{AreTallies, AreLight}
use Rattle.wrp_odd.proofs.tally.tallies.Given as goal

-- the streets so far are counted
abbrev pub invariant-loop-street : goal.invariant-loop-street
invariant-loop-street l = record {
  tallies : AreTallies l.town (numbers_of l.point) l.labels l.street l.tallies.items;
  light : AreLight l.street l.tallies.items;
}
