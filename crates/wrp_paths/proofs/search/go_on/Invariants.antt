use Rattle.std.proofs.Common.{◌++◌, take}
use Rattle.std.specs.List.Sorted.{IsPermutation}
use Rattle.std.specs.BinaryHeap.{KeepsHeap, heap_items}
use Rattle.wrp_paths.specs.Search.{dearer_first, onward}
use Rattle.wrp_paths.proofs.search.go_on.Given as goal

abbrev pub invariant-loop-arc : goal.invariant-loop-arc
invariant-loop-arc l = record {
  queued : IsPermutation (heap_items l.initial.queue ++ onward l.town l.table l.walk (take l.arc-index l.arcs)) (heap_items l.queue);
  order : KeepsHeap dearer_first (heap_items l.initial.queue) (heap_items l.queue);
}
