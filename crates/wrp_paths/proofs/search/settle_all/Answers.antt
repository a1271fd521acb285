use Rattle.std.proofs.Common.{◌∷◌, heap_items, sym, ◌∙◌}
use Rattle.wrp_town.proofs.TownLaws.{some_value}
use Rattle.wrp_paths.proofs.Tables.{none_there}
use Rattle.wrp_paths.proofs.Queues.{least_of_greatest}
use Rattle.wrp_paths.proofs.Searches.{IsSearch-permutation, IsSearch-passed}
use Rattle.wrp_paths.proofs.search.settle_all.Goals as goal

pub settle-requires : goal.settle-requires
settle-requires g c =
    let popped = c.in-Some.ensures in
    let kept = c.loop-walk.invariant in
    let q = c.in-Some.field-0 in
    let rest = heap_items c.pop.new.self in (
      IsSearch-permutation c.args.graph.now g.from c.loop-walk.table _ (q ∷ rest) popped.permutation kept.search,
      (least_of_greatest q rest (popped.below_top kept.order), sym c.entry.ensures ∙ none_there c.entry.result c.if-is_none.ensures),
    )

pub loop-walk-preserved : goal.loop-walk-preserved
loop-walk-preserved g c =
    let popped = c.in-Some.ensures in
    let kept = c.loop-walk.invariant in
    let q = c.in-Some.field-0 in
    let rest = heap_items c.pop.new.self in
    let there = some_value c.entry.result c.if-is_none.ensures in
    record {
      search =
          IsSearch-passed c.args.graph.now g.from c.loop-walk.table q rest there.0 (sym c.entry.ensures ∙ there.1)
          (IsSearch-permutation c.args.graph.now g.from c.loop-walk.table _ (q ∷ rest) popped.permutation kept.search);
      order = (popped.heap_order kept.order).0;
    }
