-- A proof as it is read from a source: line by line, with some bytes of the next lines read ahead.
use Rattle.std.specs.Prelude.{◌≡◌, ℕ, ◌+◌, ◌-◌, ◌<◌, ◌≤◌, ◌⊎◌, ◌↔◌, min, Bool, true, not, ◌==◌, IsTrue, List, [], ◌∷◌, ◌++◌, length, take, drop}
use Rattle.std.specs.Option.{option_map}
use Rattle.std.specs.List.{list_all, prefix_len}
use Rattle.wrp_rules.specs.Proofs.{most_bytes, line_feed}
use Rattle.wrp_out.specs.Outside.{Input, Tells, Took}
use Rattle.wrp_check.specs.declared.lines.Ending.{Ending}
use Rattle.wrp_check.specs.declared.lines.Ending.TheVariants as endings

-- ---- the reader

-- the bytes read ahead, the line read last, and how many bytes have been handed out in lines so far
pub record Buffered : Type 0 where
  pub pending : List ℕ
  pub line : List ℕ
  pub taken : ℕ

-- the pending bytes stand in the chunk, which has room for a byte; no more bytes were taken than a
-- proof may have, and with the pending ones at most one more
pub record IsWithin (at end size taken : ℕ) : Type 0 where
  pub in_order : at ≤ end
  pub inside : end ≤ size
  pub room : 0 < size
  pub most : taken ≤ most_bytes
  pub asked : taken + (end - at) ≤ most_bytes + 1

-- how many bytes the reader has had from its source: those handed out and those read ahead
abbrev pub drawn : Buffered → ℕ
drawn lines = lines.taken + length lines.pending

-- the reader drew bytes from its source, and in all at most one more than a proof may have
pub record Draws (old new : Buffered) (before after : Input) : Type 0 where
  pub piece : List ℕ
  pub took : Took before after piece
  pub counted : drawn new ≡ drawn old + length piece
  pub most : drawn new ≤ most_bytes + 1

-- all that the reader drew from its source since the first byte
pub record HasDrawn (lines : Buffered) (first now : Input) : Type 0 where
  pub piece : List ℕ
  pub took : Took first now piece
  pub counted : drawn lines ≡ length piece
  pub most : drawn lines ≤ most_bytes + 1

-- the input as it is handed out: the bytes read ahead and then those of the source
abbrev pub ahead : Buffered → Input → Input
ahead lines source = record source { left = option_map (λ left. lines.pending ++ left) source.left }

-- ---- lines

-- no byte of the line is a line feed
abbrev pub is_one_line : List ℕ → Bool
is_one_line line = list_all (λ byte. not (byte == line_feed)) line

-- how many bytes stand before the first line feed, or all where there is none
abbrev pub line_len : List ℕ → ℕ
line_len bytes = prefix_len (λ byte. not (byte == line_feed)) bytes

-- the first line of the bytes is above the limit, or with its line feed passes the greatest number
abbrev pub PassesLimit : ℕ → ℕ → List ℕ → Type 0
PassesLimit limit taken bytes =
    (limit < line_len bytes) ⊎ (most_bytes < taken + min (line_len bytes + 1) (length bytes))

-- a line and what ended it: a line feed, or the end of the input
abbrev pub ended_by : Ending → List ℕ → List ℕ
ended_by endings.Feed line = line ++ line_feed ∷ []
ended_by endings.Input line = line

-- where a line ended with the input, nothing is left
abbrev pub EndsAsSaid : Ending → Input → Type 0
EndsAsSaid endings.Feed input = Unit {0}
EndsAsSaid endings.Input input = Tells input.left []

-- the next line was handed out, of at most so many bytes without its line feed
pub record HandsOut (limit : ℕ) (ending : Ending) (old new : Buffered) (before after : Input)
    : Type 0 where
  pub took : Took (ahead old before) (ahead new after) (ended_by ending new.line)
  pub one_line : is_one_line new.line ≡ true
  pub within : length new.line ≤ limit
  pub taken : new.taken ≡ old.taken + length (ended_by ending new.line)
  pub most : new.taken ≤ most_bytes
  pub end : EndsAsSaid ending (ahead new after)

-- nothing was handed out; a byte is pending, or nothing is left
pub record Peeks (more : Bool) (old new : Buffered) (before after : Input) : Type 0 where
  pub nothing : Took (ahead old before) (ahead new after) []
  pub line : new.line ≡ old.line
  pub taken : new.taken ≡ old.taken
  pub pending : IsTrue more ↔ (0 < length new.pending)
  pub end : ¬ IsTrue more → Tells (ahead new after).left []

-- the pending bytes up to their first line feed, or all, are the next part of a line of at most so
-- many bytes; the line feed is taken too
pub record TakesPiece (limit : ℕ) (feed : Bool) (old new : Buffered) : Type 0 where
  pub line : new.line ≡ old.line ++ take (line_len old.pending) old.pending
  pub pending : new.pending ≡ drop (line_len old.pending + 1) old.pending
  pub taken : new.taken ≡ old.taken + min (line_len old.pending + 1) (length old.pending)
  pub most : new.taken ≤ most_bytes
  pub within : length new.line ≤ limit
  pub has_feed : IsTrue feed ↔ (line_len old.pending < length old.pending)

-- the next part makes the line longer than the limit, or passes the greatest number of bytes
abbrev pub PieceTooLong : ℕ → Buffered → Type 0
PieceTooLong limit old =
    (limit < length old.line + line_len old.pending)
    ⊎ (most_bytes < old.taken + min (line_len old.pending + 1) (length old.pending))
