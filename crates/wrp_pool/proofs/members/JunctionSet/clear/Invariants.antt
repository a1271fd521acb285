use Rattle.std.proofs.Common.{◌≡◌, ℕ, ◌<◌, false, length, get_or}
use Rattle.std.specs.List.{All}
use Rattle.wrp_rules.specs.Sets.{is_in}
use Rattle.wrp_pool.proofs.members.JunctionSet.clear.Given as goal

-- no junction but those that are listed has a mark
abbrev pub invariant-loop-junction : goal.invariant-loop-junction
invariant-loop-junction l = record {
  marks : length l.self-inside.marks.items ≡ l.fn.self.among;
  below : All (λ j. j < length l.self-inside.marks.items) l.self-inside.listed.items;
  unmarked : (j : ℕ) → is_in l.self-inside.listed.items j ≡ false → get_or l.self-inside.marks.items j false ≡ false;
}

abbrev pub decreases-loop-junction : goal.decreases-loop-junction
decreases-loop-junction l = length l.self-inside.listed.items
