use Rattle.std.proofs.Common.{◌≡◌, ℕ, ◌+◌, ◌*◌, ◌≤◌, List, ◌++◌, drop, length}
use Rattle.wrp_town.specs.Arcs.{demands}
use Rattle.wrp_town.specs.Streets.{demands_from}
use Rattle.wrp_rows.specs.Marks.{AreMarks}
use Rattle.wrp_round.specs.OddForms.{crossing_rows}
use Rattle.wrp_round.proofs.odd_form.push_crossing.Given as goal

-- the rows so far and those of the streets that are left are the whole
abbrev pub invariant-loop-i : goal.invariant-loop-i
invariant-loop-i l = record {
  low : l.first ≤ length l.town.junctions + 2 * l.i;
  rows : (set : List ℕ) → AreMarks set l.marks
      → l.rows.items ++ crossing_rows l.town set l.first (demands_from l.i (drop l.i l.town.streets))
      ≡ l.initial.rows.items ++ crossing_rows l.town set (length l.town.junctions) (demands l.town);
}
