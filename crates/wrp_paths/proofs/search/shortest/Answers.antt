use Rattle.std.proofs.Common.{◌≡◌, ◌∷◌, [], Option, None, length, take, drop, ◌++◌, replicate, heap_items, arith, ap, sym, ◌∙◌, subst}
use Rattle.std.specs.List.Sorted.{IsPermutation}
use Rattle.std.proofs.Math.Seq.{take-append_seam}
use Rattle.wrp_paths.specs.declared.arrival.Arrival.{Arrival}
use Rattle.wrp_paths.specs.Arrivals.{start_at, ways_of}
use Rattle.wrp_paths.specs.Distances.{AreShortest}
use Rattle.wrp_paths.specs.Search.{IsSearch}
use Rattle.wrp_paths.proofs.Searches.{IsSearch-start, first_junction, first_junction-single}
use Rattle.wrp_paths.proofs.Ends.{shortest_at_end}
use Rattle.wrp_paths.proofs.search.shortest.Goals as goal

pub settle_all-requires : goal.settle_all-requires
settle_all-requires c =
    let town = c.args.graph.now in
    let from = c.args.from in
    let queue = heap_items c.push.new.self in
    let only : IsPermutation (record { 0 = start_at from } ∷ []) queue =
    rw c.start.ensures at (rw c.new-queue.ensures.items at c.in_ok-push.ensures.permutation) in
    let empty : replicate (length town.junctions) None ≡ c.deref_mut.result.now =
    ap (λ t. replicate {A = Option Arrival} (length t.junctions) None) (sym c.town.ensures) ∙ ap (λ n. replicate n None) (sym c.len.ensures) ∙ sym c.in_ok-table.ensures ∙ sym c.deref_mut.ensures.value in
    let first : from ≡ first_junction queue = sym (first_junction-single (record { 0 = start_at from }) queue only) in (
      subst (λ table. IsSearch town (first_junction queue) table queue) empty (subst (λ j. IsSearch town j (replicate (length town.junctions) None) queue) first (IsSearch-start town from queue c.requires only)),
      c.in_ok-push.ensures.heap_order c.new-queue.ensures.heap_order,
    )

pub returns : goal.returns
returns c =
    let town = c.args.graph.now in
    let from = c.args.from in
    let queue = heap_items c.push.new.self in
    let table = c.settle_all.new.table in
    let only : IsPermutation (record { 0 = start_at from } ∷ []) queue =
    rw c.start.ensures at (rw c.new-queue.ensures.items at c.in_ok-push.ensures.permutation) in
    let ended : IsSearch town from table [] = subst (λ j. IsSearch town j table []) (first_junction-single (record { 0 = start_at from }) queue only) c.in_ok-settle_all.ensures in
    let long : c.in_ok-table.table.len ≡ length table = omega (arith, ended.each) in
    let whole : take c.in_ok-table.table.len (table ++ drop (length table) c.in_ok-table.table.items) ≡ table = ap (λ n. take n (table ++ drop (length table) c.in_ok-table.table.items)) long ∙ take-append_seam table (drop (length table) c.in_ok-table.table.items) in
    subst (AreShortest town from) (sym (c.from_table.ensures ∙ ap ways_of whole)) (shortest_at_end town from table ended)
