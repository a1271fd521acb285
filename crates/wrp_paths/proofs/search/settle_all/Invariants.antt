use Rattle.std.specs.BinaryHeap.{IsHeap, heap_items}
use Rattle.wrp_paths.specs.Search.{IsSearch, dearer_first, work_left}
use Rattle.wrp_paths.proofs.search.settle_all.Given as goal

abbrev pub ghost-settle : goal.ghost-settle
ghost-settle g a = g.from

abbrev pub invariant-loop-walk : goal.invariant-loop-walk
invariant-loop-walk g l = record {
  search : IsSearch l.graph g.from l.table (heap_items l.queue);
  order : IsHeap dearer_first (heap_items l.queue);
}

abbrev pub decreases-loop-walk : goal.decreases-loop-walk
decreases-loop-walk g l = work_left l.graph l.table (heap_items l.queue)
