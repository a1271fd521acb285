use Rattle.std.proofs.Common.{◌≡◌, ◌+◌, length}
use Rattle.wrp_rows.specs.declared.point.Point.{Point}
use Rattle.wrp_engine.specs.Cuts.{AreUseful, AreOddCuts, AreBrokenOdds}
use Rattle.wrp_engine.proofs.cuts.add_forms.Given as goal

abbrev pub invariant-loop-item : goal.invariant-loop-item
invariant-loop-item l =
    record {
      odds : AreOddCuts l.rows.town l.item-iterator.rest.items;
      broken : (point : Point) → AreBrokenOdds l.rows.town point l.fn.found.items → AreBrokenOdds l.rows.town point l.item-iterator.rest.items;
      useful : (point : Point) → AreBrokenOdds l.rows.town point l.fn.found.items → AreUseful l.rows point l.fn.cuts.items → AreUseful l.rows point l.cuts.items;
      long : length l.cuts.items + length l.item-iterator.rest.items ≡ length l.fn.cuts.items + length l.fn.found.items;
    }
