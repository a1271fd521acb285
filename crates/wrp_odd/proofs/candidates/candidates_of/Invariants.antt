use Rattle.std.proofs.Common.{◌-◌, ℕ, ◌<◌, ◌∷◌, [], length, Contains}
use Rattle.wrp_rules.specs.declared.record.Record.TheVariants.{Odd}
use Rattle.wrp_rules.specs.Rows.{odd_row}
use Rattle.wrp_odd.specs.Points.{Breaks}
use Rattle.wrp_odd.specs.Merging.{AreParents}
use Rattle.wrp_odd.specs.Found.{IsFound, IsOddSet}
use Rattle.wrp_odd.proofs.candidates.candidates_of.Given as goal

-- the single ones are there, and what was found with more eighths
abbrev pub invariant-loop-eighth : goal.invariant-loop-eighth
invariant-loop-eighth l = record {
  parents : AreParents (length l.town.junctions) l.merged.parents.items;
  found : IsFound l.town l.point l.found;
  single : (j : ℕ) → j < length l.town.junctions → IsOddSet l.town (j ∷ []) → Breaks l.town l.point (odd_row l.town (j ∷ [])) → Contains l.found.records.items (Odd (j ∷ []));
}

abbrev pub decreases-loop-eighth : goal.decreases-loop-eighth
decreases-loop-eighth l = 8 - l.eighth
