-- Lines that are joined one by one.
use Rattle.std.specs.Prelude.{◌≡◌, ℕ, ◌+◌, ◌<◌, ◌≤◌, List, ◌∷◌, ◌++◌, length, Result, Ok, Err}
use Rattle.wrp_rules.specs.Proofs.{line_feed}
use Rattle.wrp_keep.specs.declared.lines.LineFault.{LineFault}
use Rattle.wrp_keep.specs.declared.lines.LineFault.TheVariants.{Long, Memory}

-- the lines with one more, each of them behind a line feed
abbrev pub with_line : List ℕ → List ℕ → List ℕ
with_line line lines = lines ++ line_feed ∷ line

-- the line was added, where the lines without their first line feed then have at most so many bytes
abbrev pub Joins : ℕ → List ℕ → List ℕ → List ℕ → Result Unit LineFault → Type 0
Joins most line old new (Ok x) =
    (new ≡ with_line line old) × (length old + length line ≤ most)
Joins most line old new (Err (Long size)) =
    (new ≡ old) × (size ≡ length old + length line) × (most < size)
Joins most line old new (Err Memory) = new ≡ old
