-- How far a text goes as a text of a shape does.
use Rattle.std.specs.Prelude.{◌≡◌, ℕ, ◌≤◌, Bool, true, ◌&&◌, List, ◌++◌, length, take}
use Rattle.wrp_grammar.specs.Parts.{is_spaced, parts_of}

-- what is left of a line has parts of this shape
abbrev pub is_left : (List (List ℕ) → Bool) → List ℕ → Bool
is_left shape left = is_spaced left && shape (parts_of left)

-- some text of the shape begins with the first `at` bytes of this text, and none with more of them
pub record IsLongestFront (shape : List ℕ → Bool) (text : List ℕ) (at : ℕ) : Type 0 where
  pub within : at ≤ length text
  pub more : List ℕ
  pub begins : shape (take at text ++ more) ≡ true
  pub longest :
      (n : ℕ) (others : List ℕ) → n ≤ length text → shape (take n text ++ others) ≡ true → n ≤ at

-- the longest front of what is left of a line, by the shape of its parts
abbrev pub IsLeftFront : (List (List ℕ) → Bool) → List ℕ → ℕ → Type 0
IsLeftFront shape left at = IsLongestFront (is_left shape) left at

-- no two places are like this
abbrev pub IsOnePlace : (ℕ → Type 0) → Type 0
IsOnePlace is_place = (one other : ℕ) → is_place one → is_place other → one ≡ other
