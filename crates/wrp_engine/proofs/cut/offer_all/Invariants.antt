use Rattle.std.proofs.Common.{◌≡◌, None}
use Rattle.wrp_engine.specs.Searches.{search_of}
use Rattle.wrp_engine.proofs.Going.{Going}
use Rattle.wrp_engine.proofs.Cutting.{HasOffered}
use Rattle.wrp_engine.proofs.cut.offer_all.Given as goal

-- the search went well so far, and the other items were offered
abbrev pub invariant-loop-item : goal.invariant-loop-item
invariant-loop-item g l = record {
  going : Going (search_of l.fn.keep (g.D.Disk.meaning l.fn.disk)) (search_of l.keep (g.D.Disk.meaning l.disk));
  untouched : l.fn.keep.log ≡ None → l.disk ≡ l.fn.disk;
  offered : HasOffered l.fn.keep l.fn.items.items l.keep l.item-iterator.rest.items l.joined;
}
