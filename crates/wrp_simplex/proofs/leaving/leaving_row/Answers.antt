-- Each row is compared with the best so far.
use Rattle.std.proofs.Common.{ℕ, ◌+◌, nat_lt, Bool, Option, None, Some, pos, ◌<ℤ◌, arith}
use Rattle.std.specs.Option.{MatchOption}
use Rattle.wrp_sums.proofs.Integers.{linear}
use Rattle.wrp_tableau.specs.Systems.{System}
use Rattle.wrp_tableau.specs.Soundness.{IsSound}
use Rattle.wrp_tableau.specs.Kept.{system}
use Rattle.wrp_tableau.proofs.Combining.{size_above}
use Rattle.wrp_simplex.specs.Steps.{pivot_entry, IsBroken}
use Rattle.wrp_simplex.specs.declared.candidate.Candidate.{Candidate}
use Rattle.wrp_simplex.specs.Candidates.{row_candidate, IsBrokenRow, IsFirstOf, IsBest}
use Rattle.wrp_simplex.proofs.Choosing.{best_none, best_some}
use Rattle.wrp_simplex.proofs.leaving.leaving_row.Goals as goal

module _ (t : Bool) (s : System) (n : ℕ) (sound : IsSound s) where
  positive : (k : ℕ) → IsBroken s k → pos 0 <ℤ (row_candidate s k).denominator
  positive k broken = let h = size_above (pivot_entry s k) (sound.own k broken.there) in omega (arith, linear)

  more : (best next result : Option Candidate) → IsBest t (IsBroken s) (row_candidate s) n best
      → MatchOption next (IsBroken s n → ⊥) (IsBrokenRow s n) → IsFirstOf t best next result
      → IsBest t (IsBroken s) (row_candidate s) (n + 1) result
  more best None result is none e = best_none t (IsBroken s) (row_candidate s) n positive best result is none e
  more best (Some a) result is some e = best_some t (IsBroken s) (row_candidate s) n positive best a result is some.broken some.is e

pub loop-row-preserved : goal.loop-row-preserved
loop-row-preserved c = record {
  sized = c.first_of-best.ensures.sized;
  best = more (nat_lt c.args.steps 10000) (system c.args.tableau.now) c.loop-row.row c.requires.sound c.loop-row.best c.broken_row.result c.first_of-best.result
      c.loop-row.invariant.best c.broken_row.ensures.is c.first_of-best.ensures.first;
}
