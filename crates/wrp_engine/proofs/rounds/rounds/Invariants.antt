use Rattle.std.proofs.Common.{◌≡◌, ◌-◌, None}
use Rattle.wrp_engine.specs.Searches.{search_of, IsOpenAt}
use Rattle.wrp_engine.specs.Additions.{AddsCuts}
use Rattle.wrp_engine.proofs.Going.{Going}
use Rattle.wrp_engine.proofs.rounds.rounds.Given as goal

-- the search went well so far, and each round added a cut
abbrev pub invariant-loop-number : goal.invariant-loop-number
invariant-loop-number g l = record {
  going : Going (search_of l.fn.keep (g.D.Disk.meaning l.fn.disk)) (search_of l.keep (g.D.Disk.meaning l.disk));
  untouched : l.fn.keep.log ≡ None → l.disk ≡ l.fn.disk;
  opened : IsOpenAt l.keep l.node;
  adds : AddsCuts (l.number - 1) 0 0 l.fn.keep l.keep;
}
