use Rattle.std.proofs.Common.{◌≡◌, ◌+◌, ◌*◌, ◌≤◌, [], None}
use Rattle.wrp_rules.specs.Nodes.{done}
use Rattle.wrp_keep.specs.Keeps.{staged}
use Rattle.wrp_engine.specs.Searches.{search_of, now}
use Rattle.wrp_engine.specs.Desks.{IsDesk}
use Rattle.wrp_engine.specs.Additions.{Adds}
use Rattle.wrp_engine.proofs.Going.{Going}
use Rattle.wrp_engine.proofs.searching.turns.Given as goal

-- the search went well so far, and each turn did a node more
abbrev pub invariant-loop : goal.invariant-loop
invariant-loop g l = record {
  going : Going (search_of l.fn.keep (g.D.Disk.meaning l.fn.disk)) (search_of l.keep (g.D.Disk.meaning l.disk));
  untouched : l.fn.keep.log ≡ None → l.disk ≡ l.fn.disk;
  desk : IsDesk l.fn.keep.town l.desk;
  settled : staged l.keep ≡ [];
  adds : Adds (4 * l.counter) (2 * l.counter) l.fn.keep l.keep;
  worked : done (now l.fn.keep) + l.counter ≤ done (now l.keep);
}
